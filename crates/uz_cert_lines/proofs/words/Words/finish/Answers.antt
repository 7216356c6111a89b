use Rattle.std.proofs.Common.{◌∙◌, ap, sym, rules}
use Rattle.std.specs.Prelude.{IsSome}
use Rattle.uz_cert_lines.specs.Grammar.{end_of}
use Rattle.uz_cert_lines.proofs.Cutting.{left_some}
use Rattle.uz_cert_lines.proofs.words.Words.finish.Goals as goal

pub returns-then-is_some-clause-err : goal.returns-then-is_some-clause-err
returns-then-is_some-clause-err c =
    let some : IsSome c.self.inside.left = search rules in
    ap (λ w. end_of w.ended w.list) (sym c.self.view_is) ∙ left_some c.self.inside.ended c.self.inside.left some
