-- Of a point, a line and a count there is one answer; and what the test of a named successor tells.
use Rattle.uz_rules.proofs.Common.{same_Some, ◌≡◌, ℕ, suc, ◌-◌, true, Option, Some, None, refl, sym, ◌∙◌, ap, subst, slice_get, nat_cmp}
use Rattle.uz_rules.proofs.Common.{FinMap, Instr, unique, Instance, Point, Cert, instance_at, Fail, IsReadAt, lies_at, lies_in_box, LiesIn}
use Rattle.uz_rules.proofs.Common.{LiesInPoint, IsLocal, OneLocal, local_fail}
use Rattle.uz_rules.proofs.AtCounts.{any_tells}
use Rattle.avr_decode.specs.Decoded.{Decoded}

-- One answer

pub decoded_same : (first second : ℕ) (a b : Option Instr) → Decoded first second a → Decoded first second b → a ≡ b
decoded_same first second None None h g = refl
decoded_same first second None (Some j) h g = absurd (h.none j g.found)
decoded_same first second (Some i) None h g = absurd (g.none i h.found)
decoded_same first second (Some i) (Some j) h g = ap (λ x. Some x) (unique _ i j h.found g.found)

pub local_is_unique : OneLocal
local_is_unique image cert id l c a b h g =
    let same : h.point ≡ g.point = same_Some h.point g.point (sym h.is_point ∙ g.is_point) in
    let reads : IsReadAt image g.point.pc h.row = subst (λ (p : Point). IsReadAt image p.pc h.row) same h.reads in
    let row : h.row ≡ g.row = decoded_same _ _ h.row g.row reads g.reads in
    h.is ∙ (ap (λ (p : Point). local_fail image cert p.next.items p.split h.row (instance_at cert id l c)) same
    ∙ (ap (λ r. local_fail image cert g.point.next.items g.point.split r (instance_at cert id l c)) row ∙ sym g.is))

-- Named successors

lies_tells : (cert : Cert) (id count : ℕ) (inst : Instance) (at : Option Instance) → instance_at cert id inst.line count ≡ at
    → lies_at at inst ≡ true → LiesIn cert id inst
lies_tells cert id count inst None is e = absurd cc
lies_tells cert id count inst (Some b) is e = record { count = count; point_instance = b; is = is; inside = e }

pub lies_in_point_tells : LiesInPoint
lies_in_point_tells cert id inst e = by_case (slice_get cert.points id) e
  where
    by_case : (p : Option Point) → lies_in_box cert id p inst ≡ true → LiesIn cert id inst
    by_case None e = absurd cc
    by_case (Some p) e =
        let any = any_tells (λ c. lies_at (instance_at cert id inst.line c) inst) p.c0 (suc p.c1 - p.c0) e in
        lies_tells cert id any.number inst (instance_at cert id inst.line any.number) refl any.holds

-- The answer under the row that is read, or none

pub is_local : (image : FinMap nat_cmp ℕ) (cert : Cert) (id l c : ℕ) (p : Point) (row : Option Instr) (why : Option Fail)
    → slice_get cert.points id ≡ Some p
    → IsReadAt image p.pc row → why ≡ local_fail image cert p.next.items p.split row (instance_at cert id l c) → IsLocal image cert id l c why
is_local image cert id l c p row why is reads e = record { point = p; is_point = is; row = row; reads = reads; is = e }
