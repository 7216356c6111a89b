use Rattle.uz_cert_writer.proofs.{Common.◌++◌, Common.◌∙◌, Common.ap, WholeLines.entry_is}
use Rattle.std.specs.Prelude.{ℕ, List}
use Rattle.uz_cert_writer.proofs.state_lines.add_entry.Goals as goal

pub returns : goal.returns
returns c = c.in_ok-add_entry_words.ensures ∙ ap (λ (t : List ℕ). c.args.text.now.items ++ t) (entry_is c.args.cells.now c.args.entry.now)
