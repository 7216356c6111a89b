use Rattle.std.proofs.Common.{inr}
use Rattle.uz_files.proofs.EndingLemmas.{run_outcome, holds_if_done}
use Rattle.uz_certificate_commands.specs.PairFiles.{SpellPair}
use Rattle.uz_certificate_commands.proofs.pair_command.run_on_pair.Goals as goal

pub returns-clause-outcome : goal.returns-clause-outcome
returns-clause-outcome g c =
    run_outcome _ _ c.prepare-ending.result c.finish.result _ _ _ _ _ _ inr c.prepare-ending.ensures.files
    c.prepare-ending.ensures.gives c.finish.ensures.comes

pub returns-clause-worth : goal.returns-clause-worth
returns-clause-worth g c =
    holds_if_done (SpellPair (g.H.Shelf.files c.args.shelf.now) c.args.hex.now c.args.cert.now g.T.PairText.worth)
    c.prepare-ending.result c.finish.result _ _ _
    c.prepare-ending.ensures.worth (c.finish.ensures.comes (g.H.Shelf.files c.args.shelf.now))
