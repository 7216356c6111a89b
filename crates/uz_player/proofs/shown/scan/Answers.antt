use Rattle.std.proofs.Common.{◌≡◌, ℕ, ◌∷◌, ◌∙◌, [], cond, refl, sym, ap, true, arith}
use Rattle.std.specs.Prelude.{nat_lt}
use Rattle.std.proofs.lemmas.Bool.Decides.{nat_tests}
use Rattle.uz_scan.specs.Pictures.{last_row, row_bytes}
use Rattle.uz_scan.specs.declared.scanner.Scan.TheVariants.{More, Line, Frame}
use Rattle.uz_player.specs.declared.shown.Shown.TheVariants as shown
use Rattle.uz_player.proofs.PlayLaws.{scanned_by}
use Rattle.uz_player.proofs.shown.scan.Goals as goal

positive : (n : ℕ) → (n ≡ 0 → ⊥) → nat_lt 0 n ≡ true
positive n h = grind (arith, nat_tests)

pub returns-in-More-clause-scans : goal.returns-in-More-clause-scans
returns-in-More-clause-scans c = λ seen l h. scanned_by c.edge.new.self seen c.args.edge More shown.Quiet c.edge.ensures.clock
    (c.edge.ensures.stands seen h) (c.in-More.ensures.shown seen h) refl

pub returns-in-Line-clause-scans : goal.returns-in-Line-clause-scans
returns-in-Line-clause-scans c = λ seen l h.
    let none : nat_lt 0 c.in-Line.line.frame ≡ nat_lt 0 0 = ap (nat_lt 0) c.if-line-eq0.true in
    scanned_by c.edge.new.self seen c.args.edge (Line c.in-Line.line) shown.Quiet c.edge.ensures.clock
    (c.edge.ensures.stands seen h) (c.in-Line.ensures.shown seen h)
    (ap (λ b. cond b (row_bytes c.in-Line.line (last_row (c.args.edge ∷ seen))) []) none)

pub returns-in-Line-2-clause-scans : goal.returns-in-Line-2-clause-scans
returns-in-Line-2-clause-scans c = λ seen l h.
    let some : nat_lt 0 c.in-Line.line.frame ≡ true = positive c.in-Line.line.frame c.if-line-eq0.false in
    let stands = c.edge.ensures.stands seen h in
    scanned_by c.edge.new.self seen c.args.edge (Line c.in-Line.line) (shown.Row c.row_record.result) c.edge.ensures.clock
    stands (c.in-Line.ensures.shown seen h)
    (ap (λ b. cond b (row_bytes c.in-Line.line (last_row (c.args.edge ∷ seen))) []) some ∙
    (ap (λ row. row_bytes c.in-Line.line row) (sym (c.row.ensures (c.args.edge ∷ seen) stands)) ∙ sym c.row_record.ensures))

pub returns-in-Frame-clause-scans : goal.returns-in-Frame-clause-scans
returns-in-Frame-clause-scans c = λ seen l h. scanned_by c.edge.new.self seen c.args.edge (Frame c.in-Frame.frame) (shown.End c.end_record.result)
    c.edge.ensures.clock (c.edge.ensures.stands seen h) (c.in-Frame.ensures.shown seen h) (sym c.end_record.ensures)

pub returns-in-Frame-clause-end : goal.returns-in-Frame-clause-end
returns-in-Frame-clause-end c = (c.in-Frame.frame, c.end_record.ensures)
