use Rattle.uz_cert_writer.proofs.{Common.◌++◌, Common.sym, Common.◌∙◌, Common.ap, Joining.spelling_parts}
use Rattle.std.specs.Prelude.{ℕ, List}
use Rattle.uz_cert_writer.proofs.writing.add_text.Goals as goal

pub returns : goal.returns
returns c = c.in_ok-add_all.ensures ∙ ap (λ (t : List ℕ). c.args.text.now.items ++ t) (sym (spelling_parts c.args.cert.now))
