-- What is read to its end is a well formed certificate.
use Rattle.uz_cert.proofs.Common.{◌≡◌, ◌≢◌, ℕ, ◌+◌, ◌<◌, ◌≤◌, List, [], ◌∷◌, length, All, refl, subst, arith, Option, Some, None, Result}
use Rattle.uz_cert.proofs.Common.{Ok, Err, IfOk, IfSome, sum_by, RestFits, EntryFits, PointFits, WellFormed, instances_of, Entry, Cert}
use Rattle.uz_cert.proofs.Common.{expected_line, Kept, Gives, cert_from, cert_with, cert_before, CertError, Draft}
use Rattle.uz_schedule.specs.Limits.{ScheduleFits}
use Rattle.uz_cert.proofs.{TextLaws.same_cert, ExpectedLineLaws.IsWhole, ExpectedLineLaws.is_whole}

schedule_fits : (d : Draft) → Kept d → IsWhole d
    → ScheduleFits (record { kinds = d.kinds; lengths = d.lengths; lines = d.lines; fall = d.fall })
schedule_fits d k w =
    let s = k.sizes in
    let enough = w.states.kinds in
    let same : d.sizes.kinds ≡ length d.kinds = omega (arith, k.schedule.1.few, enough) in
    record {
      kinds = record { some = omega (arith, s.kinds_some, enough); few = omega (arith, s.kinds_few, k.schedule.1.few); each = k.schedule.1.each };
      lengths = k.schedule.1.fit;
      lines = record {
        some = omega (arith, s.lines_some, w.states.lines);
        few = omega (arith, s.lines_few, k.schedule.3.few);
        there = subst (λ n. All (λ kind. kind < n) d.lines) same k.schedule.3.there;
      };
      fall_some = some_fall d.fall w.states.fall;
      fall_in_line = k.schedule.2;
    }
  where
    some_fall : (n : ℕ) → n ≢ 0 → 1 ≤ n
    some_fall n h = omega (arith, h)

pub whole_fits : (d : Draft) (e : Entry) → Kept d → expected_line d ≡ None → d.entry ≡ Some e → WellFormed (cert_from d e)
whole_fits d e k expected is =
    let w = is_whole d k.begun expected in
    let s = k.sizes in
    let lines : d.sizes.lines ≡ length d.lines = omega (arith, k.schedule.3.few, w.states.lines) in
    let points : d.sizes.points ≡ length d.points = omega (arith, k.states.2.few, w.points) in
    let sum = k.states.2.instances in
    record {
      head = grind (arith, k.stack, k.cells, s.cells_few);
      schedule = schedule_fits d k w;
      rests = record {
        few = omega (arith, k.states.0.few, s.rests_few, lines);
        each = subst (λ n. All (RestFits d.head (length d.lines) n) d.rests) points
            (subst (λ n. All (RestFits d.head n d.sizes.points) d.rests) lines k.states.0.each);
        rise = k.states.0.rise;
      };
      entry = subst (λ n. EntryFits d.head (length d.lines) n e) points (subst (λ n. EntryFits d.head n d.sizes.points e) lines
          (subst (λ o. IfSome o (EntryFits d.head d.sizes.lines d.sizes.points)) is k.states.1));
      points = record {
        some = omega (arith, s.points_some, points);
        few = omega (arith, s.points_few, points);
        each = subst (λ n. All (PointFits d.head (length d.lines) n) d.points) points
            (subst (λ n. All (PointFits d.head n d.sizes.points) d.points) lines k.states.2.each);
        instances = few_instances d.left (sum_by instances_of d.points) sum;
      };
    }
  where
    few_instances : (left sum : ℕ) → left + sum ≡ 16777216 → sum ≤ 16777216
    few_instances left sum h = omega (arith, h)

by_entry : (d : Draft) (o : Option Entry) (c : Cert) → Kept d → expected_line d ≡ None → d.entry ≡ o → cert_with d o ≡ Ok c → WellFormed c
by_entry d None c k expected is e = absurd cc
by_entry d (Some x) c k expected is e = subst WellFormed (same_cert (cert_from d x) c e) (whole_fits d x k expected is)

pub read_fits : (d : Draft) (line : List ℕ) (rest : List (List ℕ)) (c : Cert) → Kept d → expected_line d ≡ None → cert_before d line rest ≡ Ok c
    → WellFormed c
unfolding cert_before
read_fits d [] [] c k expected e = by_entry d d.entry c k expected refl e
read_fits d [] (piece ∷ rest) c k expected e = absurd cc
read_fits d (b ∷ bs) rest c k expected e = absurd cc

-- what is answered is well formed
pub gives_fits : (d : Draft) (line : List ℕ) (rest : List (List ℕ)) (result : Result Cert CertError) → Kept d → expected_line d ≡ None
    → Gives result (cert_before d line rest) → IfOk result WellFormed
gives_fits d line rest (Ok c) k expected e = read_fits d line rest c k expected e
gives_fits d line rest (Err e) k expected h = tt
