use Rattle.std.proofs.Common.{◌≡◌, ℕ, cond, [], Some, None, refl, sym, ap, subst, true, arith}
use Rattle.std.specs.Prelude.{nat_lt}
use Rattle.std.proofs.lemmas.Bool.Decides.{nat_tests}
use Rattle.uz_scan.specs.Pictures.{newest_first, row_bytes}
use Rattle.uz_scan.specs.declared.scanner.Scan.TheVariants.{More, Line, Frame}
use Rattle.uz_scan.specs.Scanning as scanning
use Rattle.uz_player.proofs.RecorderLaws.{counts_same, end_counted, has_taken, row_counted}
use Rattle.uz_player.proofs.recorder.Recorder.take.Goals as goal

positive : (n : ℕ) → (n ≡ 0 → ⊥) → nat_lt 0 n ≡ true
positive n h = grind (arith, nat_tests)

pub returns-in-More-clause-takes : goal.returns-in-More-clause-takes
returns-in-More-clause-takes c =
    λ seen h few timed.
    let before = newest_first seen in
    let stands = subst (λ x. scanning.StandsFor x before) (sym c.count.ensures.scanner) h.scanner in
    has_taken c.args.self.now _ c.args.edge None More seen (counts_same _ _ More c.count.ensures.counts refl refl)
    (c.edge.ensures.stands before stands) c.edge.ensures.clock (c.in-More.ensures.shown before stands) (λ row. refl) h few

pub returns-in-Line-clause-takes : goal.returns-in-Line-clause-takes
returns-in-Line-clause-takes c =
    λ seen h few timed.
    let before = newest_first seen in
    let stands = subst (λ x. scanning.StandsFor x before) (sym c.count.ensures.scanner) h.scanner in
    let none : nat_lt 0 c.in-Line.line.frame ≡ nat_lt 0 0 = ap (nat_lt 0) c.if-line-eq0.true in
    has_taken c.args.self.now _ c.args.edge None (Line c.in-Line.line) seen (counts_same _ _ (Line c.in-Line.line) c.count.ensures.counts
    (ap (λ b. cond b 1 0) none) refl) (c.edge.ensures.stands before stands) c.edge.ensures.clock (c.in-Line.ensures.shown before stands)
    (λ row. sym (ap (λ b. cond b (row_bytes c.in-Line.line row) []) none)) h few

pub returns-in-Line-2-clause-takes : goal.returns-in-Line-2-clause-takes
returns-in-Line-2-clause-takes c =
    λ seen h few timed.
    let before = newest_first seen in
    let stands = subst (λ x. scanning.StandsFor x before) (sym c.count.ensures.scanner) h.scanner in
    let some : nat_lt 0 c.in-Line.line.frame ≡ true = positive c.in-Line.line.frame c.if-line-eq0.false in
    has_taken c.args.self.now _ c.args.edge (Some _) (Line c.in-Line.line) seen
    (row_counted _ _ (Line c.in-Line.line) c.count.ensures.counts (ap (λ b. cond b 1 0) some) refl)
    (c.edge.ensures.stands before stands) c.edge.ensures.clock (c.in-Line.ensures.shown before stands)
    (λ row. sym (ap (λ b. cond b (row_bytes c.in-Line.line row) []) some)) h few

pub returns-in-Frame-clause-takes : goal.returns-in-Frame-clause-takes
returns-in-Frame-clause-takes c =
    λ seen h few timed.
    let before = newest_first seen in
    let stands = subst (λ x. scanning.StandsFor x before) (sym c.count.ensures.scanner) h.scanner in
    has_taken c.args.self.now _ c.args.edge (Some _) (Frame c.in-Frame.frame) seen
    (end_counted _ _ (Frame c.in-Frame.frame) c.count.ensures.counts refl refl) (c.edge.ensures.stands before stands)
    c.edge.ensures.clock (c.in-Frame.ensures.shown before stands) (λ row. refl) h few
