-- Nothing is refused exactly where the rules hold.
use Rattle.uz_check.proofs.Common.{same_Some, and_parts, ◌≡◌, inl, inr, Contains, ℕ, ◌+◌, ◌<◌, true, leb, List, length, refl, sym, ◌∙◌, ap}
use Rattle.uz_check.proofs.Common.{subst, arith, Option, Some, None, ◌↔◌, ◌&&◌, slice_get, option_map, nat_cmp, FinMap, leb-true}
use Rattle.uz_check.proofs.Common.{slice_get-get_or, slice_get_within, ScheduleFits, WellFormed, Rest, Point, Cert, is_in_box, RestPasses}
use Rattle.uz_check.proofs.Common.{OneLocal, Accepts, RefusedWhy, first_break, Why, ScheduleRefusal, RestRefusal, RestsRefusal}
use Rattle.uz_check.proofs.Common.{EntryRefusal, InstanceRefusal, LineRefusal, PointRefusal, PointsRefusal, FirstRefusal}
use Rattle.std.proofs.Common.{IsNone, IfSome}
use Rattle.uz_check.specs.declared.refusal.RefusedWhy.TheVariants.{Schedule}
use Rattle.uz_check.specs.Refusal.{IsThere}
use Rattle.uz_check.proofs.SteadinessLaws.{steady_tells, break_there}
use Rattle.uz_check.proofs.OneVerdict.{InBox, in_list, one_refusal, accepted_none}

-- The rules hold

-- an element of a list has a place
at_place : {A : Type 0} (xs : List A) (x : A) → Contains xs x → (i : ℕ) × (i < length xs) × (slice_get xs i ≡ Some x)
at_place xs x has = (has.0, has.1, slice_get-get_or xs has.0 _ has.1 ∙ ap (λ v. Some v) has.2)

no_place : (o : Option (ℕ × ℕ)) → None ≡ option_map (λ place. Schedule place.0 place.1) o → o ≡ None
no_place None e = refl
no_place (Some place) e = absurd cc

box_tells : (point : Point) (l c : ℕ) → is_in_box point l c ≡ true → InBox point l c
box_tells point l c e =
    let both = and_parts (leb point.l0 l && leb l point.l1) (leb point.c0 c && leb c point.c1) e in
    let lines = and_parts (leb point.l0 l) (leb l point.l1) both.0 in
    let counts = and_parts (leb point.c0 c) (leb c point.c1) both.1 in
    record {
      line = leb-true point.l0 l lines.0;
      line_end = leb-true l point.l1 lines.1;
      count = leb-true point.c0 c counts.0;
      count_end = leb-true c point.c1 counts.1;
    }

pub rules_hold : (image : FinMap nat_cmp ℕ) (cert : Cert) → ScheduleFits cert.schedule → FirstRefusal image cert None → Accepts image cert
unfolding ScheduleRefusal RestsRefusal RestRefusal EntryRefusal PointsRefusal PointRefusal LineRefusal InstanceRefusal
rules_hold image cert fits h = record {
  steady = steady_tells cert.schedule fits (no_place (first_break cert.schedule) h.0);
  rests = λ rest has.
      let place = at_place cert.rests rest has in
      let at = h.1.0 place.0 (omega arith) (omega (arith, place.1)) in
      subst (RestPasses cert) (same_Some at.0 rest (sym at.1 ∙ place.2)) at.2;
  entry = h.1.1.0;
  points = λ id l c point found inside.
      let at = h.1.1.1 id (omega arith) (omega (arith, slice_get_within cert.points id point found)) in
      let box = box_tells at.0 l c (subst (λ p. is_in_box p l c ≡ true) (same_Some point at.0 (sym found ∙ at.1)) inside) in
      at.2 l box.line (omega (arith, box.line, box.line_end)) c box.count (omega (arith, box.count, box.count_end));
}

pub none_accepts : OneLocal → (image : FinMap nat_cmp ℕ) (cert : Cert) (why : Why) → ScheduleFits cert.schedule → FirstRefusal image cert
    why → IsNone why ↔ Accepts image cert
none_accepts one image cert None fits h = (λ _. rules_hold image cert fits h, λ _. refl)
none_accepts one image cert (Some why) fits h =
    (λ none. absurd cc, λ accepts. absurd (cc (one_refusal one image cert (Some why) None h (accepted_none image cert accepts))))

-- What is named is there

schedule_there : (cert : Cert) (why : RefusedWhy) → ScheduleRefusal cert.schedule (Some why) → IsThere cert why
unfolding ScheduleRefusal
schedule_there cert why h = named (first_break cert.schedule) (λ place e. break_there cert.schedule 0 (length cert.schedule.lines)
    place e) h
  where
    named : (o : Option (ℕ × ℕ)) → ((place : ℕ × ℕ) → o ≡ Some place → place.0 < 0 + length cert.schedule.lines) → Some why ≡ option_map
        (λ place. Schedule place.0 place.1) o → IsThere cert why
    named None there e = absurd cc
    named (Some place) there e =
        let is : Schedule place.0 place.1 ≡ why = cc in
        subst (IsThere cert) is (omega (arith, there place refl))

pub verdict_there : (image : FinMap nat_cmp ℕ) (cert : Cert) (why : Why) → WellFormed cert → FirstRefusal image cert why
    → IfSome why (IsThere cert)
unfolding RestsRefusal RestRefusal EntryRefusal PointsRefusal PointRefusal LineRefusal InstanceRefusal
verdict_there image cert None formed h = tt
verdict_there image cert (Some why) formed (inl schedule) = schedule_there cert why schedule
verdict_there image cert (Some why) formed (inr (_, inl rests)) =
    let rest = rests.3 in
    let has = in_list cert.rests rests.0 rest.0 rest.1 in
    subst (IsThere cert) (sym rest.2.1) (subst (λ (r : Rest). r.line < length cert.schedule.lines) has.2
    (formed.rests.each has.0 rest.0 has.1).line)
verdict_there image cert (Some why) formed (inr (_, inr (_, inl entry))) = subst (IsThere cert) (sym entry.1) tt
verdict_there image cert (Some why) formed (inr (_, inr (_, inr (_, points)))) =
    subst (IsThere cert) (sym points.3.2.3.3.2) (omega (arith, points.2))
