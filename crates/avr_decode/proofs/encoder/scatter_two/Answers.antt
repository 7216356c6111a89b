use Rattle.std.proofs.Common.{◌∙◌}
use Rattle.std.proofs.lemmas.Nat.{and_comm}
use Rattle.avr_decode.proofs.ScatteredLemmas.{gathered-masked}
use Rattle.avr_decode.proofs.encoder.scatter_two.Goals as goal

pub scatter-requires-clause-free : goal.scatter-requires-clause-free
scatter-requires-clause-free c =
    c.scatter-number.ensures.others c.args.y_mask (and_comm c.args.y_mask c.args.x_mask ∙ c.requires.apart.2) ∙ c.requires.apart.1

pub returns-clause-x_own : goal.returns-clause-x_own
returns-clause-x_own c =
    gathered-masked 32 c.args.x_mask _ _ (c.scatter.ensures.others c.args.x_mask c.requires.apart.2) ∙ c.scatter-number.ensures.own
