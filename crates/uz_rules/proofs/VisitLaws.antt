-- Where a visit of a point's instances comes to.
use Rattle.uz_rules.proofs.Common.{◌≡◌, ℕ, ◌+◌, Bool, true, false, Option, Some, None, refl, sym, ◌∙◌, ap, subst, if◌then◌else◌, slice_get}
use Rattle.uz_rules.proofs.Common.{option_and_then, nat_cmp, FinMap, Schedule, Instance, Point, Cert, start_of, level_at, is_in_box}
use Rattle.uz_rules.proofs.Common.{clock_at, instance_of, instance_at_clock, instance_in, instance_at, WellFormed, IsVarying, IsOfPoint}
use Rattle.uz_rules.proofs.Common.{InstanceLimits, local_fail, IsLocal, Fail, IsReadAt, same_Some}
use Rattle.uz_rules.specs.Moving.{place_at_clock, place_in}
use Rattle.uz_rules.proofs.LimitsHold.{instance_limits}
use Rattle.uz_rules.specs.declared.visit.Visit.{Visit}
use Rattle.uz_rules.specs.declared.visit.LastInstance.{LastInstance}
use Rattle.uz_rules.specs.Visit.{Keeps, IsVisit, IsAt}
use Rattle.uz_rules.proofs.LocalLaws.{is_local}

-- The place of a point

placed : (s : Schedule) (p : Point) (l c clock level : ℕ) → place_in s p l c ≡ Some (clock, level)
    → instance_in s p l c ≡ Some (instance_of p l c clock level)
placed s p l c clock level e = by_box (is_in_box p l c) e
  where
    by_level : (k : ℕ) (v : Option ℕ) → option_and_then {U = ℕ × ℕ} (λ x. Some (k, x)) v ≡ Some (clock, level)
        → option_and_then (λ x. Some (instance_of p l c k x)) v ≡ Some (instance_of p l c clock level)
    by_level k None e = absurd cc
    by_level k (Some v) e = ap (λ (q : ℕ × ℕ). Some (instance_of p l c q.0 q.1)) (same_Some (k, v) (clock, level) e)

    by_clock : (k : Option ℕ) → option_and_then (place_at_clock s l) k ≡ Some (clock, level)
        → option_and_then (instance_at_clock s p l c) k ≡ Some (instance_of p l c clock level)
    by_clock None e = absurd cc
    by_clock (Some k) e = by_level k (level_at s (start_of s l + k)) e

    by_box : (t : Bool) → (if t then option_and_then (place_at_clock s l) (clock_at s p l c) else None) ≡ Some (clock, level)
        → (if t then option_and_then (instance_at_clock s p l c) (clock_at s p l c) else None) ≡ Some (instance_of p l c clock level)
    by_box true e = by_clock (clock_at s p l c) e
    by_box false e = absurd cc

not_placed : (s : Schedule) (p : Point) (l c : ℕ) → place_in s p l c ≡ None → instance_in s p l c ≡ None
not_placed s p l c e = by_box (is_in_box p l c) e
  where
    by_level : (k : ℕ) (v : Option ℕ) → option_and_then {U = ℕ × ℕ} (λ x. Some (k, x)) v ≡ None
        → option_and_then (λ x. Some (instance_of p l c k x)) v ≡ None
    by_level k None e = refl
    by_level k (Some v) e = absurd cc

    by_clock : (k : Option ℕ) → option_and_then (place_at_clock s l) k ≡ None → option_and_then (instance_at_clock s p l c) k ≡ None
    by_clock None e = refl
    by_clock (Some k) e = by_level k (level_at s (start_of s l + k)) e

    by_box : (t : Bool) → (if t then option_and_then (place_at_clock s l) (clock_at s p l c) else None) ≡ None
        → (if t then option_and_then (instance_at_clock s p l c) (clock_at s p l c) else None) ≡ None
    by_box true e = by_clock (clock_at s p l c) e
    by_box false e = refl

said_in : (s : Schedule) (p : Point) (l c : ℕ) (inst : Instance) → instance_in s p l c ≡ Some inst → IsOfPoint p inst
said_in s p l c inst e = by_box (is_in_box p l c) e
  where
    by_level : (k : ℕ) (v : Option ℕ) → option_and_then (λ x. Some (instance_of p l c k x)) v ≡ Some inst → IsOfPoint p inst
    by_level k None e = absurd cc
    by_level k (Some v) e = record {
      line = l;
      count = c;
      clock = k;
      level = v;
      is = sym (same_Some (instance_of p l c k v) inst e);
    }

    by_clock : (k : Option ℕ) → option_and_then (instance_at_clock s p l c) k ≡ Some inst → IsOfPoint p inst
    by_clock None e = absurd cc
    by_clock (Some k) e = by_level k (level_at s (start_of s l + k)) e

    by_box : (t : Bool) → (if t then option_and_then (instance_at_clock s p l c) (clock_at s p l c) else None) ≡ Some inst → IsOfPoint p inst
    by_box true e = by_clock (clock_at s p l c) e
    by_box false e = absurd cc

-- The point of a certificate

of_point : (visit : Visit) (l c : ℕ) → IsVisit visit
    → instance_at visit.cert.now visit.id l c ≡ instance_in visit.cert.now.schedule visit.point.now l c
of_point visit l c v = ap (option_and_then (λ q. instance_in visit.cert.now.schedule q l c)) v.point

-- where nothing is kept
pub nothing_kept : (last : LastInstance) → last.kept ≡ false → (p : Point) → Keeps p last
nothing_kept last bare p = record { instance = λ k. absurd (never k); varying = λ k. absurd (never k) }
  where
    never : last.kept ≡ true → ⊥
    never k = let both : true ≡ false = sym k ∙ bare in cc

-- the first instance is made
pub first_there : (visit : Visit) (l c : ℕ) (last : LastInstance) → IsVisit visit → instance_at visit.cert.now visit.id l c ≡ Some last.at
    → (last.kept ≡ true → IsVarying visit.point.now last.varying) → IsAt visit l c true last
first_there visit l c last v e varying = record {
  is = e;
  keeps = record {
    instance = λ k. said_in visit.cert.now.schedule visit.point.now l c last.at (sym (of_point visit l c v) ∙ e);
    varying = varying;
  };
}

-- none is kept
pub first_none : (visit : Visit) (l c : ℕ) (last : LastInstance) → last.kept ≡ false → instance_at visit.cert.now visit.id l c ≡ None
    → IsAt visit l c false last
first_none visit l c last bare e = record { is = e; keeps = nothing_kept last bare visit.point.now }

-- the last one is moved
pub moved_there : (visit : Visit) (l c clock level : ℕ) (last : LastInstance) → IsVisit visit
    → place_in visit.cert.now.schedule visit.point.now l c ≡ Some (clock, level) → last.at ≡ instance_of visit.point.now l c clock level
    → IsVarying visit.point.now last.varying → IsAt visit l c true last
moved_there visit l c clock level last v e at varying = record {
  is = of_point visit l c v ∙ (placed visit.cert.now.schedule visit.point.now l c clock level e ∙ ap (λ i. Some i) (sym at));
  keeps = record {
    instance = λ k. record { line = l; count = c; clock = clock; level = level; is = at };
    varying = λ k. varying;
  };
}

pub moved_none : (visit : Visit) (l c : ℕ) (last : LastInstance) → IsVisit visit
    → place_in visit.cert.now.schedule visit.point.now l c ≡ None → Keeps visit.point.now last → IsAt visit l c false last
moved_none visit l c last v e keeps = record {
  is = of_point visit l c v ∙ not_placed visit.cert.now.schedule visit.point.now l c e;
  keeps = keeps;
}

-- an instance at which a visit stands is within limits
pub there_limits : (visit : Visit) (l c : ℕ) (last : LastInstance) → WellFormed visit.cert.now → IsAt visit l c true last
    → InstanceLimits visit.cert.now last.at
there_limits visit l c last fits at = instance_limits visit.cert.now visit.id l c last.at fits at.is

pub tells : (visit : Visit) (l c : ℕ) (why : Option Fail) → IsVisit visit
    → why ≡ local_fail visit.image.now visit.cert.now visit.point.now.next.items visit.point.now.split visit.row
    (instance_at visit.cert.now visit.id l c)
    → IsLocal visit.image.now visit.cert.now visit.id l c why
tells visit l c why v e =
    is_local visit.image.now visit.cert.now visit.id l c visit.point.now visit.row why v.point v.reads e
