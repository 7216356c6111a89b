use Rattle.uz_cert_writer.proofs.{Common.◌++◌, Common.◌∙◌, Common.ap, WholeLines.rest_is}
use Rattle.std.specs.Prelude.{ℕ, List}
use Rattle.uz_cert_writer.proofs.state_lines.add_rest.Goals as goal

pub returns : goal.returns
returns c = c.in_ok-add_rest_words.ensures ∙ ap (λ (t : List ℕ). c.args.text.now.items ++ t) (rest_is c.args.rest.now)
