use Rattle.uz_cert.proofs.{Common.sym, Common.◌∙◌, Common.ap, Common.Some, KeptLaws.kept_read}
use Rattle.uz_cert.proofs.draft.Draft.take.Goals as goal

pub put-requires-clause-fits : goal.put-requires-clause-fits
put-requires-clause-fits c =
    (c.said_lines.ensures.only c.args.self.now c.args.expected c.new.result c.in-Ok.said c.requires.kept c.requires.expected
    (sym c.line.ensures ∙ c.in-Ok.is)).2

pub returns-in_ok-put-in-Ok-clause-kept : goal.returns-in_ok-put-in-Ok-clause-kept
returns-in_ok-put-in-Ok-clause-kept c =
    let d = c.args.self.now in
    let said = c.said_lines.ensures.only d c.args.expected c.new.result c.in-Ok.said c.requires.kept c.requires.expected
    (sym c.line.ensures ∙ c.in-Ok.is) in
    kept_read d c.put.new.self c.in-Ok.said c.requires.kept (c.requires.expected ∙ ap (λ x. Some x) said.1) said.2
    c.in_ok-put-in-Ok.ensures
