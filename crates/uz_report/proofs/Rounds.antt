-- A round of the frame: one return after each rest, and main's clocks between them.
use Rattle.std.proofs.Common.{◌≡◌, inl, inr, All, ℕ, ◌+◌, ◌-◌, ◌%◌, ◌<◌, ◌≤◌, List, [], ◌∷◌, ◌++◌, length, map, refl, sym}
use Rattle.std.proofs.Common.{◌∙◌, ap, append_assoc, subst, arith}
use Rattle.std.specs.List.{flat_map}
use Rattle.std.specs.Ordering.{nat_cmp}
use Rattle.std.specs.FinMap.{FinMap}
use Rattle.std.proofs.Math.Nat.{mod-add-mod, mod-eq_of_lt}
use Rattle.std.proofs.lemmas.List.{map-append}
use Rattle.std.proofs.lemmas.List.Elements.{All-head, All-tail}
use Rattle.uz_core.specs.declared.machine.Edge.{Edge}
use Rattle.uz_core.specs.declared.machine.EdgeKind.{EdgeKind}
use Rattle.uz_core.specs.declared.machine.EdgeKind.TheVariants.{Leave}
use Rattle.uz_schedule.specs.Schedule.{At, event_at, frame_of, length_of, start_of}
use Rattle.uz_schedule.specs.WellFormed.{RestFits, WellFormed}
use Rattle.uz_schedule.specs.declared.lines.Schedule.{Schedule}
use Rattle.uz_schedule.specs.declared.states.Rest.{Rest}
use Rattle.uz_schedule.specs.declared.certificate.Cert.{Cert}
use Rattle.uz_check.specs.Acceptance.{Accepts}
use Rattle.uz_check.specs.ReturnTimes.{HasReturn, IsReturnDue, ReturnsHold, ReturnsInTime, return_at}
use Rattle.uz_check.specs.Ways.{MainsTime, MainsTimeHolds, Phase, ReturnsAt, told}
use Rattle.uz_report.specs.MainsTime.{AreInFrameOrder, EachReturn, EachRound, Gap, IsWithin, MainsTimeTells, Round, clocks_of, edges_of}
use Rattle.uz_report.specs.MainsTime.{entries_and_returns}
use Rattle.uz_report.proofs.GapLists.{gaps_between}
use Rattle.uz_report.proofs.Gaps.{each_at_rest, each_gap, from_on}
use Rattle.uz_report.proofs.ReturnClocks.{among_returns, of_both, of_gaps, returns, returns_append, returns_rise, same}
use Rattle.uz_report.proofs.Rising.{Among, Rising, among_both, among_left, among_map, among_mapped, among_right, contained, contains}
use Rattle.uz_report.proofs.Rising.{mapped_rising, one_key, rising_across, rising_by, rising_left, rising_mapped, rising_right, same_rising}
use Rattle.uz_report.proofs.Rotation.{clocks_from, from_is, from_reaches, from_short, lines_rise, place, places_rise, turned_rise}
use Rattle.uz_report.proofs.Sums.{frame_sums, rest_of}
use Rattle.uz_report.proofs.Turns.{take_turns}

all_among : {X : Type 0} (P : X → Type 0) (x : X) (xs : List X) → All P xs → Among x xs → P x
all_among {X} P x [] h none = absurd none
all_among {X} P x (y ∷ ys) h (inl is) = subst P is (All-head P y ys h)
all_among {X} P x (y ∷ ys) h (inr later) = all_among P x ys (All-tail P y ys h) later

split_at : {X : Type 0} (x : X) (xs : List X) → Among x xs → (a : List X) × (b : List X) × (xs ≡ a ++ x ∷ b)
split_at {X} x [] none = absurd none
split_at {X} x (y ∷ ys) (inl is) = ([], ys, ap (λ (z : X). z ∷ ys) is)
split_at {X} x (y ∷ ys) (inr later) =
    (let more = split_at x ys later in (y ∷ more.0, more.1, ap (λ (zs : List X). y ∷ zs) more.2))

first_or : ℕ → List ℕ → ℕ
first_or other [] = other
first_or other (x ∷ xs) = x

same_first : (a b : ℕ) (xs ys : List ℕ) → a ∷ xs ≡ b ∷ ys → a ≡ b
unfolding first_or
same_first a b xs ys h = ap (first_or 0) h

-- from one rest's place to another's, round the frame
abbrev between_rests : Schedule → Rest → Rest → ℕ
between_rests s from to = clocks_from (frame_of s) (place s from) (place s to)

-- What a schedule says of places
pub record FrameLaws (s : Schedule) : Type 0 where
  pub inside : (l k : ℕ) → l < length s.lines → k < length_of s l → start_of s l + k < frame_of s
  pub events : (q l k : ℕ) → At s q l k → event_at s q ≡ event_at s (start_of s l + k)

module _ (image : FinMap nat_cmp ℕ) (cert : Cert) (formed : WellFormed cert) (accepts : Accepts image cert)
    (laws : FrameLaws cert.schedule) (start p end : ℕ) (edges : List Edge) (in_time : ReturnsInTime cert start p end edges) where
  each_return : EachReturn cert start p end edges
  each_return rest passed is_rest at some few =
      let steps : start + passed - start ≡ passed = omega arith in
      (in_time.exact (start + passed)).1 (record {
        begun = omega (arith, some);
        in_run = few;
        event = ap (λ i. event_at cert.schedule (p + i)) steps
            ∙ (laws.events (p + passed) rest.line rest.clock at ∙ (accepts.rests rest is_rest).leave);
      })

  below : (r : Rest) → Among r cert.rests → place cert.schedule r < frame_of cert.schedule
  below r among =
      let fits = all_among (RestFits cert.head (length cert.schedule.lines) (length cert.points)) r cert.rests formed.rests.each among in
      laws.inside r.line r.clock fits.line (accepts.rests r (contains r cert.rests among)).within

  in_order : Rising (place cert.schedule) cert.rests
  in_order = places_rise cert.schedule cert.rests (lines_rise 0 cert.rests formed.rests.rise)
      (λ r among. (accepts.rests r (contains r cert.rests among)).within)

  -- Gaps from a return on, up to the same one a frame later
  module _ (before between after : List Edge) (left : ℕ)
      (cut : edges ≡ before ++ return_at left ∷ (between ++ return_at (left + frame_of cert.schedule) ∷ after)) (g : Gap) (gaps : List Gap)
      (passed : return_at left ∷ entries_and_returns between ≡ flat_map edges_of (g ∷ gaps))
      (returned : All (λ (x : Gap). ReturnsAt cert start p x.left x.rest) (g ∷ gaps)) where
    gap_clocks : returns (return_at left ∷ between) ≡ map (λ (x : Gap). x.left) (g ∷ gaps)
    gap_clocks = sym (of_both (return_at left ∷ between)) ∙ (ap returns passed ∙ of_gaps (g ∷ gaps))

    first_left : g.left ≡ left
    first_left = sym (same_first left g.left (returns between) (map (λ (x : Gap). x.left) gaps) gap_clocks)

    clocks : returns edges ≡ returns before ++ (map (λ (x : Gap). x.left) (g ∷ gaps) ++ (left + frame_of cert.schedule) ∷ returns after)
    clocks = ap returns cut
        ∙ (returns_append before (return_at left ∷ (between ++ return_at (left + frame_of cert.schedule) ∷ after))
        ∙ ap (λ (xs : List ℕ). returns before ++ xs) (returns_append (return_at left ∷ between)
        (return_at (left + frame_of cert.schedule) ∷ after)
        ∙ ap (λ (xs : List ℕ). xs ++ (left + frame_of cert.schedule) ∷ returns after) gap_clocks))

    rising : Rising same (returns before ++ (map (λ (x : Gap). x.left) (g ∷ gaps) ++ (left + frame_of cert.schedule) ∷ returns after))
    rising = subst (Rising same) clocks (returns_rise edges in_time.rise)

    -- gaps and what comes after them
    onward : Rising same (map (λ (x : Gap). x.left) (g ∷ gaps) ++ (left + frame_of cert.schedule) ∷ returns after)
    onward = rising_right same (returns before) _ rising

    lefts_rise : Rising (λ (x : Gap). x.left) (g ∷ gaps)
    lefts_rise = rising_mapped (λ (x : Gap). x.left) same (g ∷ gaps) (rising_left same (map (λ (x : Gap). x.left) (g ∷ gaps)) _ onward)

    at_rest : (x : Gap) → Among x (g ∷ gaps) → ReturnsAt cert start p x.left x.rest
    at_rest x among = all_among (λ (y : Gap). ReturnsAt cert start p y.left y.rest) x (g ∷ gaps) returned among

    is_rest : (x : Gap) → Among x (g ∷ gaps) → Among x.rest cert.rests
    is_rest x among = (let there = (at_rest x among).is_rest in contained x.rest cert.rests there.0 there.1 there.2)

    not_before : (x : Gap) → Among x (g ∷ gaps) → left ≤ x.left
    not_before x (inl is) = (let at = ap (λ (y : Gap). y.left) is in omega (arith, at, first_left))
    not_before x (inr later) = (let less = lefts_rise.0 x later in omega (arith, less, first_left))

    not_after : (x : Gap) → Among x (g ∷ gaps) → x.left < left + frame_of cert.schedule
    not_after x among = rising_across same (map (λ (y : Gap). y.left) (g ∷ gaps)) ((left + frame_of cert.schedule) ∷ returns after) x.left
        (left + frame_of cert.schedule) onward (among_map (λ (y : Gap). y.left) x (g ∷ gaps) among) (inl refl)

    -- Clocks from the first return to a rest's place

    first_among : Among g (g ∷ gaps)
    first_among = inl refl

    first_at : ReturnsAt cert start p g.left g.rest
    first_at = at_rest g first_among

    place_below : place cert.schedule g.rest < frame_of cert.schedule
    place_below = below g.rest (is_rest g first_among)

    first_stands : (p + first_at.passed) % frame_of cert.schedule ≡ place cert.schedule g.rest
    first_stands = first_at.place ∙ mod-eq_of_lt place_below

    stands_at : (x : Gap) (among : Among x (g ∷ gaps)) → (p + (at_rest x among).passed) % frame_of cert.schedule ≡ place cert.schedule x.rest
    stands_at x among = (at_rest x among).place ∙ mod-eq_of_lt (below x.rest (is_rest x among))

    gap_offset : (x : Gap) → Among x (g ∷ gaps)
        → x.left ≡ left + between_rests cert.schedule g.rest x.rest
    gap_offset x among =
        let low = not_before x among in
        let high = not_after x among in
        let from = first_at.counted in
        let to = (at_rest x among).counted in
        let steps : p + first_at.passed + (x.left - left) ≡ p + (at_rest x among).passed = omega (arith, low, from, to, first_left) in
        let there : (p + first_at.passed + (x.left - left)) % frame_of cert.schedule ≡ place cert.schedule x.rest =
        ap (λ n. n % frame_of cert.schedule) steps ∙ stands_at x among in
        let few : x.left - left < frame_of cert.schedule = omega (arith, low, high) in
        let is = from_is (frame_of cert.schedule) (p + first_at.passed) (x.left - left) (place cert.schedule g.rest)
        (place cert.schedule x.rest) few place_below (first_stands) there in
        omega (arith, low, is)

    rests_rise : Rising (λ (r : Rest). between_rests cert.schedule g.rest r)
        (map rest_of (g ∷ gaps))
    rests_rise =
        mapped_rising rest_of (λ (r : Rest). between_rests cert.schedule g.rest r) (g ∷ gaps)
        (rising_by (λ (x : Gap). x.left)
        (λ (x : Gap). between_rests cert.schedule g.rest x.rest) (g ∷ gaps) lefts_rise
        (λ x y one other less. (let is = gap_offset x one in let also = gap_offset y other in omega (arith, is, also, less))))

    -- Each rest has its gap

    is_due : (r : Rest) → Among r cert.rests → IsReturnDue cert start p end
        (left + between_rests cert.schedule g.rest r)
    is_due r among =
        let d = between_rests cert.schedule g.rest r in
        let short = from_short (frame_of cert.schedule) (place cert.schedule g.rest) (place cert.schedule r) place_below (below r among) in
        let begun = ((in_time.exact left).0
        (record { before = before; after = between ++ return_at (left + frame_of cert.schedule) ∷ after; cut = cut })).begun in
        let last = ((in_time.exact (left + frame_of cert.schedule)).0 last_return).in_run in
        let from = first_at.counted in
        let steps : p + (left + d - start) ≡ p + first_at.passed + d = omega (arith, begun, from, first_left) in
        let reached : (p + first_at.passed + d) % frame_of cert.schedule ≡ place cert.schedule r =
        sym (mod-add-mod (p + first_at.passed) (frame_of cert.schedule) d)
        ∙ (ap (λ n. (n + d) % frame_of cert.schedule) (first_stands)
        ∙ from_reaches (frame_of cert.schedule) (place cert.schedule g.rest) (place cert.schedule r) place_below (below r among)) in
        let there : At cert.schedule (p + first_at.passed + d) r.line r.clock = reached ∙ sym (mod-eq_of_lt (below r among)) in
        record {
          begun = omega (arith, begun);
          in_run = omega (arith, last, short);
          event = ap (event_at cert.schedule) steps
              ∙ (laws.events (p + first_at.passed + d) r.line r.clock there ∙ (accepts.rests r (contains r cert.rests among)).leave);
        }
      where
        last_return : HasReturn edges (left + frame_of cert.schedule)
        last_return = record {
          before = before ++ return_at left ∷ between;
          after = after;
          cut = cut ∙ sym (append_assoc before (return_at left ∷ between) (return_at (left + frame_of cert.schedule) ∷ after));
        }

    has_gap : (r : Rest) → Among r cert.rests → Among r (map rest_of (g ∷ gaps))
    has_gap r among =
        let d = between_rests cert.schedule g.rest r in
        let short = from_short (frame_of cert.schedule) (place cert.schedule g.rest) (place cert.schedule r) place_below (below r among) in
        let comes = subst (Among (left + d)) clocks (among_returns edges (left + d) ((in_time.exact (left + d)).1 (is_due r among))) in
        elim (among_both (left + d) (returns before) _ comes) [
          | inl early ↦
              let less = rising_across same (returns before) _ (left + d) g.left rising early (inl refl) in
              absurd (omega (arith, less, first_left))
          | inr onwards ↦
              elim (among_both (left + d) (map (λ (x : Gap). x.left) (g ∷ gaps)) ((left + frame_of cert.schedule) ∷ returns after) onwards) [
                | inl here ↦ found (among_mapped (λ (x : Gap). x.left) (left + d) (g ∷ gaps) here)
                | inr late ↦ absurd (too_late d late short)
              ]
        ]
      where
        found : (x : Gap) × Among x (g ∷ gaps)
            × (x.left ≡ left + between_rests cert.schedule g.rest r)
            → Among r (map rest_of (g ∷ gaps))
        found (x, here, at) =
            let is = gap_offset x here in
            let offsets : between_rests cert.schedule g.rest x.rest
            ≡ between_rests cert.schedule g.rest r = omega (arith, is, at) in
            let places : place cert.schedule x.rest ≡ place cert.schedule r =
            sym (from_reaches (frame_of cert.schedule) (place cert.schedule g.rest) (place cert.schedule x.rest) place_below
            (below x.rest (is_rest x here)))
            ∙ (ap (λ n. (place cert.schedule g.rest + n) % frame_of cert.schedule) offsets
            ∙ from_reaches (frame_of cert.schedule) (place cert.schedule g.rest) (place cert.schedule r) place_below (below r among)) in
            subst (λ (y : Rest). Among y (map rest_of (g ∷ gaps))) (one_key (place cert.schedule) cert.rests x.rest r in_order (is_rest x here)
            among places) (among_map rest_of x (g ∷ gaps) here)

        too_late : (d : ℕ) → Among (left + d) ((left + frame_of cert.schedule) ∷ returns after) → d < frame_of cert.schedule → ⊥
        too_late d (inl is) short = omega (arith, is, short)
        too_late d (inr later) short =
            (let less = (rising_right same (map (λ (x : Gap). x.left) (g ∷ gaps)) _ onward).0 (left + d) later in omega (arith, less, short))

    -- so that the gaps' rests are the certificate's from the first one's on
    in_frame_order : AreInFrameOrder cert.rests (map rest_of (g ∷ gaps))
    in_frame_order =
        let parts = split_at g.rest cert.rests (is_rest g first_among) in
        let earlier = parts.0 in
        let later = parts.1 in
        let turned = turned_rise (place cert.schedule) (frame_of cert.schedule) earlier g.rest later
        (subst (Rising (place cert.schedule)) parts.2 in_order)
        (λ r among. below r (subst (Among r) (sym parts.2) among)) in
        record {
          earlier = earlier;
          later = g.rest ∷ later;
          cut = parts.2;
          is = same_rising (λ (r : Rest). between_rests cert.schedule g.rest r)
              (map rest_of (g ∷ gaps)) ((g.rest ∷ later) ++ earlier) rests_rise turned
              (λ r among. swapped r earlier (g.rest ∷ later) (subst (Among r) parts.2 (gap_rest r among)))
              (λ r among. has_gap r (subst (Among r) (sym parts.2) (swapped r (g.rest ∷ later) earlier among)));
        }
      where
        swapped : (r : Rest) (a b : List Rest) → Among r (a ++ b) → Among r (b ++ a)
        swapped r a b among =
            elim (among_both r a b among) [
              | inl left ↦ among_right r b a left
              | inr right ↦ among_left r b a right
            ]

        gap_rest : (r : Rest) → Among r (map rest_of (g ∷ gaps)) → Among r cert.rests
        gap_rest r among =
            (let from = among_mapped rest_of r (g ∷ gaps) among in
            subst (λ (y : Rest). Among y cert.rests) from.2 (is_rest from.0 from.1))

  round_of : (before between after : List Edge) (left : ℕ)
      → edges ≡ before ++ return_at left ∷ (between ++ return_at (left + frame_of cert.schedule) ∷ after) → (gaps : List Gap)
      → return_at left ∷ entries_and_returns between ≡ flat_map edges_of gaps
      → All (λ (x : Gap). ReturnsAt cert start p x.left x.rest) gaps → All (λ (x : Gap). IsWithin cert x.rest (clocks_of x)) gaps
      → Round cert start p (return_at left ∷ between)
  round_of before between after left cut [] passed returned within = absurd (cc passed)
  round_of before between after left cut (g ∷ gaps) passed returned within =
      let order = in_frame_order before between after left cut g gaps passed returned in
      let sums = frame_sums cert (g ∷ gaps) order within in
      record { gaps = g ∷ gaps; passed = passed; order = order; returned = returned; within = within; least = sums.0; most = sums.1 }

  each_round : (phase : Phase) → MainsTime cert start p phase (told edges) → EachRound cert start p edges
  each_round phase h before between after left cut =
      let again = left + frame_of cert.schedule in
      let tell : Edge → ℕ × EdgeKind = λ e. (e.clock, e.kind) in
      let parts : told edges ≡ told before ++ ((left, Leave) ∷ (told between ++ (again, Leave) ∷ told after)) =
      ap told cut ∙ (map-append tell before (return_at left ∷ (between ++ return_at again ∷ after))
      ∙ ap (λ (es : List (ℕ × EdgeKind)). told before ++ (left, Leave) ∷ es) (map-append tell between (return_at again ∷ after))) in
      let at = from_on cert start p phase before ((left, Leave) ∷ (told between ++ (again, Leave) ∷ told after))
      (subst (MainsTime cert start p phase) parts h) in
      let found = gaps_between cert start p at.0 left again between (told after) at.1 in
      round_of before between after left cut found.gaps found.passed_is found.returned found.within_rest

pub mains_time_tells : (image : FinMap nat_cmp ℕ) (cert : Cert) → WellFormed cert → Accepts image cert → FrameLaws cert.schedule
    → MainsTimeHolds image cert → ReturnsHold image cert → MainsTimeTells image cert
mains_time_tells image cert formed accepts laws time returned = record {
  runs = λ s p n edges end is_state flash entry kind run.
      let told_so = time s p n edges end is_state flash entry kind run in
      let in_time = returned s p n edges end is_state flash entry run in
      record {
        turns = take_turns cert s.clock p s.clock told_so.0.line s.space.timer.count edges told_so.3;
        gaps = each_gap cert s.clock p _ edges told_so.3;
        rests = each_at_rest cert s.clock p _ edges told_so.3;
        returns = each_return image cert formed accepts laws s.clock p end.clock edges in_time;
        rounds = each_round image cert formed accepts laws s.clock p end.clock edges in_time _ told_so.3;
      };
}
