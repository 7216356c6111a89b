-- The sum over the points of what is looked at.
use Rattle.uz_check.proofs.Common.{same_Some, ◌≡◌, ℕ, zero, suc, ◌+◌, ◌≤◌, List, [], ◌∷◌, take, length, refl, ap, subst, arith, Some}
use Rattle.uz_check.proofs.Common.{slice_get, get_or_from_slice_get, slice_get_within, All-get_or, WellFormed, PointFits, Point, Cert}
use Rattle.uz_check.proofs.Common.{instances_to_check_of, instances_to_check_in}
use Rattle.uz_schedule.specs.WellFormed.{BoxFits}

-- a point's box fits
pub box_of : (cert : Cert) (id : ℕ) (p : Point) → WellFormed cert → slice_get cert.points id ≡ Some p → BoxFits (length cert.schedule.lines)
    p
box_of cert id p fits found =
    let Fits = PointFits cert.head (length cert.schedule.lines) (length cert.points) in
    (subst Fits (get_or_from_slice_get cert.points id p p found) (All-get_or Fits cert.points id p (slice_get_within cert.points id p found)
    fits.points.each)).box

-- with point n, the first n points are one more
pub one_more_point : (cert : Cert) (points : List Point) (n : ℕ) (p : Point) → slice_get points n ≡ Some p → instances_to_check_in cert
    (take (suc n) points) ≡ instances_to_check_in cert (take n points) + instances_to_check_of cert p
one_more_point cert [] n p h = absurd cc
one_more_point cert (q ∷ points) zero p h =
    let one = instances_to_check_of cert in
    let all = instances_to_check_in cert in
    let same : one q ≡ one p = ap one (same_Some q p h) in
    let step : all (take (suc zero) (q ∷ points)) ≡ one q + all (take zero points) = refl in
    let none : all (take zero points) ≡ 0 = refl in
    let start : all (take zero (q ∷ points)) ≡ 0 = refl in
    omega (arith, same, step, none, start)
one_more_point cert (q ∷ points) (suc n) p h =
    let one = instances_to_check_of cert in
    let all = instances_to_check_in cert in
    let rest = one_more_point cert points n p h in
    let step : all (take (suc (suc n)) (q ∷ points)) ≡ one q + all (take (suc n) points) = refl in
    let start : all (take (suc n) (q ∷ points)) ≡ one q + all (take n points) = refl in
    omega (arith, rest, step, start)

-- the first n points are some of all
pub some_points : (cert : Cert) (points : List Point) (n : ℕ)
    → instances_to_check_in cert (take n points) ≤ instances_to_check_in cert points
some_points cert [] zero = omega arith
some_points cert [] (suc n) = omega arith
some_points cert (q ∷ points) zero = omega arith
some_points cert (q ∷ points) (suc n) =
    let rest = some_points cert points n in
    let one = instances_to_check_of cert in
    let all = instances_to_check_in cert in
    let start : all (take (suc n) (q ∷ points)) ≡ one q + all (take n points) = refl in
    let whole : all (q ∷ points) ≡ one q + all points = refl in
    omega (arith, rest, start, whole)
