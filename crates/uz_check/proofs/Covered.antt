-- Lines that are in the box of every named successor.
use Rattle.uz_check.proofs.Common.{and_from, not-false, ◌≡◌, inl, inr, ℕ, zero, suc, ◌+◌, ◌-◌, ◌<◌, ◌≤◌, true, false, not, nat_lt, List, []}
use Rattle.uz_check.proofs.Common.{◌∷◌, length, refl, sym, ◌∙◌, arith, Option, Some, None, slice_get, list_all, eqb_tells, nat_tests}
use Rattle.uz_check.proofs.Common.{next_line, Schedule, Point, Cert, lines_alike, is_plain, is_on_line, is_even, boxes_even, is_implied}
use Rattle.uz_check.proofs.Common.{IsRun, HoldTo}
use Rattle.uz_check.specs.ImpliedLines.{IsReach}
use Rattle.uz_check.specs.declared.reach.Reach.{Reach}

-- a line that isn't the frame's last
pub next_is : (s : Schedule) (l : ℕ) → suc l < length s.lines → next_line s l ≡ suc l
next_is s l h =
    elim (eqb_tells (suc l) (length s.lines)) [
      | inl t ↦ absurd (omega (arith, h, t.1))
      | inr t ↦ rw t.0 refl
    ]

pub on_line : (p : Point) (l : ℕ) → p.l0 ≤ l → l ≤ p.l1 → is_on_line p l ≡ true
on_line p l h g = grind (arith, nat_tests)

held : (s : Schedule) (l last : ℕ) (q : Option Point) → suc (suc l) ≤ last → last < length s.lines
    → ((p : Point) → q ≡ Some p → (p.l0 ≤ l) × (last ≤ p.l1)) → is_even s l q ≡ true
held s l last None h g within = refl
held s l last (Some p) h g within =
    let box = within p refl in
    let m : next_line s l ≡ suc l = next_is s l (omega (arith, h, g)) in
    let n : next_line s (suc l) ≡ suc (suc l) = next_is s (suc l) (omega (arith, h, g)) in
    let at_l = on_line p l box.0 (omega (arith, h, box.1)) in
    let at_m = on_line p (suc l) (omega (arith, box.0)) (omega (arith, h, box.1)) in
    let at_n = on_line p (suc (suc l)) (omega (arith, box.0)) (omega (arith, h, box.1)) in
    rw (m, n, at_l, at_m, at_n) refl

all_held : (cert : Cert) (l first last : ℕ) (ids : List ℕ) → first ≤ l → suc (suc l) ≤ last → last < length cert.schedule.lines
    → HoldTo cert ids first last (length ids)
    → list_all (λ id. is_even cert.schedule l (slice_get cert.points id)) ids ≡ true
all_held cert l first last [] low h g hold = refl
all_held cert l first last (id ∷ ids) low h g hold =
    let here : is_even cert.schedule l (slice_get cert.points id) ≡ true =
    held cert.schedule l last (slice_get cert.points id) h g (λ p e. let box = hold zero id p (omega arith) refl e in
    (omega (arith, box.0, low), box.1)) in
    rw here (all_held cert l first last ids low h g (λ k i q b e f. hold (suc k) i q (omega (arith, b)) e f))

pub covered_even : (cert : Cert) (p : Point) (reach : Reach) (l : ℕ) → IsReach cert p reach → reach.first ≤ l → l + 2 ≤ reach.last
    → true ≡ boxes_even cert p l
covered_even cert p reach l is low high = sym (all_held cert l reach.first reach.last p.next.items low (omega (arith, high)) is.inside
    is.boxes)

-- What is implied without a look at the successors

pub implied_by_run : (cert : Cert) (p : Point) (reach : Reach) (e line l : ℕ) → IsReach cert p reach
    → IsRun cert (length cert.schedule.lines)
    (line - 1) e → not reach.plain ≡ false → p.l0 < line → reach.first < line
    → line ≤ l → l ≤ e → l < reach.last → is_implied cert p l ≡ true
implied_by_run cert p reach e line l is run plain after first low high last =
    let above : nat_lt p.l0 l ≡ true = grind (arith, nat_tests) in
    let lines : lines_alike cert (l - 1) ≡ true = run.alike (l - 1) (omega (arith, low)) (omega (arith, low, high, after)) in
    let even : boxes_even cert p (l - 1) ≡ true = sym (covered_even cert p reach (l - 1) is (omega (arith, first, low))
    (omega (arith, first, low, last))) in
    and_from (nat_lt p.l0 l) _ above
    (and_from (lines_alike cert (l - 1)) _ lines (and_from (is_plain cert p) _ (sym is.plain ∙ not-false reach.plain plain) even))
