-- What a search by halving finds: the event at a clock, and the last level before one.
use Rattle.std.proofs.Common.{◌≡◌, ℕ, zero, suc, ◌+◌, ◌-◌, ◌<◌, ◌≤◌, Bool, true, false, ◌&&◌, cond, eqb, leb, ltb, List, [], ◌∷◌, ◌++◌, length}
use Rattle.std.proofs.Common.{map, All, lit≤, refl, sym, subst, ◌∙◌, ap, append-nil, arith}
use Rattle.std.proofs.lemmas.List.Elements.{filter_passes, filter-append}
use Rattle.std.specs.Prelude.{Option, Some, None, filter, slice_get, slice_index_or}
use Rattle.std.specs.List.{AllWithin}
use Rattle.std.specs.List.Sorted.{IsNonDecreasingBy, IsPartitionPoint}
use Rattle.std.proofs.lemmas.Bool.Decides.{nat_tests}
use Rattle.uz_schedule.specs.declared.lines.Event.{Event}
use Rattle.uz_schedule.specs.declared.lines.EventKind.{EventKind}
use Rattle.uz_schedule.specs.declared.lines.EventKind.TheVariants.{Sync, Pixel, Sound, Leave}
use Rattle.uz_schedule.specs.Limits.{rises_from, rises}
use Rattle.uz_schedule.specs.Schedule.{event_in, level_set, or_else}
use Rattle.uz_schedule.specs.Levels.{set_by, last_set}
use Rattle.uz_schedule.specs.LineEvents.{is_sync_kind, is_sync, event_here}

abbrev clocks : List Event → List ℕ
clocks events = map (λ e. e.clock) events

-- Clocks that rise

both : (a b : Bool) → (a && b) ≡ true → (a ≡ true) × (b ≡ true)
both true b e = (refl, e)
both false b e = absurd cc

both_true : (a b : Bool) → a ≡ true → b ≡ true → (a && b) ≡ true
both_true true b e f = f
both_true false b e f = absurd cc

leb_is : (a b : ℕ) → leb a b ≡ true → a ≤ b
leb_is a b e = grind (arith, nat_tests)

is_leb : (a b : ℕ) → a ≤ b → leb a b ≡ true
is_leb a b h = grind (arith, nat_tests)

least_clock : (least : ℕ) (events : List Event) → rises_from least (clocks events) ≡ true → (j : ℕ) (d : Event) → j < length events
    → least ≤ (slice_index_or events j d).clock
least_clock least [] r j d h = absurd (omega (arith, h))
least_clock least (e ∷ es) r zero d h = leb_is least e.clock (both (leb least e.clock) (rises_from (e.clock + 1) (clocks es)) r).0
least_clock least (e ∷ es) r (suc j) d h =
    let two = both (leb least e.clock) (rises_from (e.clock + 1) (clocks es)) r in
    let here = leb_is least e.clock two.0 in
    let later = least_clock (e.clock + 1) es two.1 j d (omega (arith, h)) in
    omega (arith, here, later)

in_order : (least : ℕ) (events : List Event) → rises_from least (clocks events) ≡ true → IsNonDecreasingBy (λ e. e.clock) events
in_order least [] r i j d h k = absurd (omega (arith, k))
in_order least (e ∷ es) r zero zero d h k = omega arith
in_order least (e ∷ es) r zero (suc j) d h k =
    let two = both (leb least e.clock) (rises_from (e.clock + 1) (clocks es)) r in
    let later = least_clock (e.clock + 1) es two.1 j d (omega (arith, k)) in
    omega (arith, later)
in_order least (e ∷ es) r (suc i) zero d h k = absurd (omega (arith, h))
in_order least (e ∷ es) r (suc i) (suc j) d h k =
    let two = both (leb least e.clock) (rises_from (e.clock + 1) (clocks es)) r in
    in_order (e.clock + 1) es two.1 i j d (omega (arith, h)) (omega (arith, k))

pub clocks_in_order : (events : List Event) → rises (clocks events) ≡ true → IsNonDecreasingBy (λ e. e.clock) events
clocks_in_order events r = in_order 0 events r

rises_less : (a b : ℕ) (xs : List ℕ) → b ≤ a → rises_from a xs ≡ true → rises_from b xs ≡ true
rises_less a b [] h r = refl
rises_less a b (x ∷ xs) h r =
    let two = both (leb a x) (rises_from (x + 1) xs) r in
    let here = leb_is a x two.0 in
    both_true (leb b x) (rises_from (x + 1) xs) (is_leb b x (omega (arith, h, here))) two.1

some_rise : (least : ℕ) (events : List Event) → rises_from least (clocks events) ≡ true → rises_from least (clocks (filter is_sync events))
    ≡ true
some_rise least [] r = refl
some_rise least (e ∷ es) r =
    let two = both (leb least e.clock) (rises_from (e.clock + 1) (clocks es)) r in
    let here = leb_is least e.clock two.0 in
    by_kind (is_sync e) e (filter is_sync es) two.0 (some_rise (e.clock + 1) es two.1) (omega (arith, here))
  where
    by_kind : (t : Bool) (e : Event) (kept : List Event) → leb least e.clock ≡ true → rises_from (e.clock + 1) (clocks kept) ≡ true
        → least ≤ e.clock + 1 → rises_from least (clocks (cond t (e ∷ kept) kept)) ≡ true
    by_kind true e kept h k j = both_true (leb least e.clock) (rises_from (e.clock + 1) (clocks kept)) h k
    by_kind false e kept h k j = rises_less (e.clock + 1) least (clocks kept) j k

pub syncs_in_order : (events : List Event) → rises (clocks events) ≡ true → IsNonDecreasingBy (λ e. e.clock) (filter is_sync events)
syncs_in_order events r = in_order 0 (filter is_sync events) (some_rise 0 events r)

-- The event at a clock

not_equal : (a n : ℕ) → ltb a n ≡ true → eqb a n ≡ false
not_equal a n h = grind (arith, nat_tests)

above : (a n : ℕ) → ltb a n ≡ false → eqb a n ≡ false → n < a
above a n f g = grind (arith, nat_tests)

above_not : (a n : ℕ) → n < a → eqb a n ≡ false
above_not a n h = grind (arith, nat_tests)

other : {A : Type 0} (b : Bool) (x y : A) → b ≡ false → cond b x y ≡ y
other true x y e = absurd cc
other false x y e = refl

none_above : (events : List Event) (n : ℕ) → ((j : ℕ) (d : Event) → j < length events → n < (slice_index_or events j d).clock)
    → event_in events n ≡ None
none_above [] n h = refl
none_above (e ∷ es) n h =
    other (eqb e.clock n) (Some e.kind) (event_in es n) (above_not e.clock n (h 0 e (omega arith)))
    ∙ none_above es n (λ j d k. h (suc j) d (omega (arith, k)))

pub event_found : (events : List Event) (n i : ℕ) → IsNonDecreasingBy (λ e. e.clock) events → AllWithin (λ e. ltb e.clock n ≡ true) events 0
    i → AllWithin (λ e. ltb e.clock n ≡ false) events i (length events) → event_in events n ≡ event_here n (slice_get events i)
event_found [] n i sorted before after = refl
event_found (e ∷ es) n zero sorted before after = by_test (eqb e.clock n) refl
  where
    by_test : (t : Bool) → eqb e.clock n ≡ t → cond (eqb e.clock n) (Some e.kind) (event_in es n) ≡ cond (eqb e.clock n) (Some e.kind) None
    by_test true f = rw f refl
    by_test false f =
        let high = above e.clock n (after 0 e (lit≤ tt) (omega arith)) f in
        other (eqb e.clock n) (Some e.kind) (event_in es n) f
        ∙ (none_above es n (λ j d k. (let later = sorted 0 (suc j) d (omega arith) (omega (arith, k)) in omega (arith, high, later)))
        ∙ sym (other (eqb e.clock n) (Some e.kind) None f))
event_found (e ∷ es) n (suc i) sorted before after =
    other (eqb e.clock n) (Some e.kind) (event_in es n) (not_equal e.clock n (before 0 e (omega arith) (omega arith)))
    ∙ event_found es n i
    (λ j k d h g. sorted (suc j) (suc k) d (omega (arith, h)) (omega (arith, g)))
    (λ j d h g. before (suc j) d (omega arith) (omega (arith, g)))
    (λ j d h g. after (suc j) d (omega (arith, h)) (omega (arith, g)))

-- The last level before a clock

else_none : (a : Option ℕ) → or_else a None ≡ a
else_none None = refl
else_none (Some v) = refl

no_level : (kind : EventKind) → is_sync_kind kind ≡ false → level_set kind ≡ None
no_level (Sync level) e = absurd cc
no_level Pixel e = refl
no_level Sound e = refl
no_level Leave e = refl

a_level : (kind : EventKind) (o : Option ℕ) → is_sync_kind kind ≡ true → or_else (level_set kind) o ≡ level_set kind
a_level (Sync level) o e = refl
a_level Pixel o e = absurd cc
a_level Sound o e = absurd cc
a_level Leave o e = absurd cc

-- events that set no level don't matter
pub syncs_alone : (events : List Event) (n : ℕ) → last_set events n ≡ last_set (filter is_sync events) n
syncs_alone [] n = refl
syncs_alone (e ∷ es) n =
    ap (λ o. or_else o (set_by e n)) (syncs_alone es n) ∙ by_kind (is_sync e) (filter is_sync es) refl
  where
    unset : (t : Bool) → is_sync e ≡ false → cond t (level_set e.kind) None ≡ None
    unset true f = no_level e.kind f
    unset false f = refl

    by_kind : (t : Bool) (kept : List Event) → is_sync e ≡ t → or_else (last_set kept n) (set_by e n) ≡ last_set (cond t (e ∷ kept) kept) n
    by_kind true kept f = refl
    by_kind false kept f = ap (or_else (last_set kept n)) (unset (ltb e.clock n) f) ∙ else_none (last_set kept n)

pub none_before : (events : List Event) (n : ℕ) → AllWithin (λ e. ltb e.clock n ≡ false) events 0 (length events) → last_set events n ≡ None
none_before [] n after = refl
none_before (e ∷ es) n after =
    let here : set_by e n ≡ None = other (ltb e.clock n) (level_set e.kind) None (after 0 e (lit≤ tt) (omega arith)) in
    ap (λ o. or_else o (set_by e n)) (none_before es n (λ j d h g. after (suc j) d (omega arith) (omega (arith, g)))) ∙ here

pub level_found : (events : List Event) (n i : ℕ) (d : Event) → ((j : ℕ) → j < length events → is_sync (slice_index_or events j d) ≡ true)
    → i < length events → AllWithin (λ e. ltb e.clock n ≡ true) events 0 (suc i) → AllWithin (λ e. ltb e.clock n ≡ false) events (suc i)
    (length events) → last_set events n ≡ level_set (slice_index_or events i d).kind
level_found [] n i d syncs b before after = absurd (omega (arith, b))
level_found (e ∷ es) n zero d syncs b before after =
    let none = none_before es n (λ j d h g. after (suc j) d (omega arith) (omega (arith, g))) in
    ap (λ o. or_else o (set_by e n)) none ∙ first (ltb e.clock n) (before 0 e (omega arith) (omega arith))
  where
    first : (t : Bool) → t ≡ true → cond t (level_set e.kind) None ≡ level_set e.kind
    first true f = refl
    first false f = absurd cc
level_found (e ∷ es) n (suc i) d syncs b before after =
    let rest = level_found es n i d (λ j h. syncs (suc j) (omega (arith, h))) (omega (arith, b))
    (λ j d h g. before (suc j) d (omega arith) (omega (arith, g))) (λ j d h g. after (suc j) d (omega (arith, h)) (omega (arith, g))) in
    ap (λ o. or_else o (set_by e n)) rest ∙ a_level (slice_index_or es i d).kind (set_by e n) (syncs (suc i) b)

-- where the search over the events of sync ends

pub none_by_place : (events syncs : List Event) (n i : ℕ) → syncs ≡ filter is_sync events → i ≡ 0 → IsPartitionPoint
    (λ e. ltb e.clock n ≡ true) (λ e. ltb e.clock n ≡ false) syncs i → last_set events n ≡ None
none_by_place events syncs n i is e point =
    let from : AllWithin (λ e. ltb e.clock n ≡ false) syncs 0 (length syncs) =
    subst (λ k. AllWithin (λ e. ltb e.clock n ≡ false) syncs k (length syncs)) e point.1 in
    syncs_alone events n ∙ (ap (λ xs. last_set xs n) (sym is) ∙ none_before syncs n from)

found_before : (syncs : List Event) (n i j : ℕ) (d : Event) → ((j : ℕ) → j < length syncs → is_sync (slice_index_or syncs j d) ≡ true)
    → 0 < i → i ≤ length syncs → j ≡ i - 1 → IsPartitionPoint (λ e. ltb e.clock n ≡ true) (λ e. ltb e.clock n ≡ false) syncs i
    → last_set syncs n ≡ level_set (slice_index_or syncs j d).kind
found_before syncs n i j d passes some bound e point =
    let is : i ≡ suc j = omega (arith, e, some) in
    level_found syncs n j d passes (omega (arith, is, bound)) (subst (λ k. AllWithin (λ e. ltb e.clock n ≡ true) syncs 0 k) is point.0)
    (subst (λ k. AllWithin (λ e. ltb e.clock n ≡ false) syncs k (length syncs)) is point.1)

pub level_by_place : (events syncs : List Event) (n i j : ℕ) (d : Event) → syncs ≡ filter is_sync events → 0 < i → i ≤ length syncs
    → j ≡ i - 1 → IsPartitionPoint (λ e. ltb e.clock n ≡ true) (λ e. ltb e.clock n ≡ false) syncs i → last_set events n ≡ level_set
    (slice_index_or syncs j d).kind
level_by_place events syncs n i j d is some bound e point =
    let passes : All (λ e. is_sync e ≡ true) syncs = subst (λ xs. All (λ e. is_sync e ≡ true) xs) (sym is) (filter_passes is_sync events) in
    syncs_alone events n ∙ (ap (λ xs. last_set xs n) (sym is) ∙ found_before syncs n i j d (λ j h. passes j d h) some bound e point)

-- One more event, of sync and of another kind

pub sync_put : (events syncs new synced : List Event) (e : Event) → syncs ≡ filter is_sync events → is_sync e ≡ true
    → new ≡ events ++ e ∷ [] → synced ≡ syncs ++ e ∷ [] → synced ≡ filter is_sync new
sync_put events syncs new synced e is sync put put_too =
    put_too ∙ ap (λ l. l ++ e ∷ []) is ∙ ap (λ b. filter is_sync events ++ cond b (e ∷ []) []) (sym sync)
    ∙ sym (filter-append is_sync events (e ∷ [])) ∙ ap (filter is_sync) (sym put)

pub other_put : (events syncs new : List Event) (e : Event) → syncs ≡ filter is_sync events → is_sync e ≡ false
    → new ≡ events ++ e ∷ [] → syncs ≡ filter is_sync new
other_put events syncs new e is other put =
    is ∙ sym (append-nil (filter is_sync events)) ∙ ap (λ b. filter is_sync events ++ cond b (e ∷ []) []) (sym other)
    ∙ sym (filter-append is_sync events (e ∷ [])) ∙ ap (filter is_sync) (sym put)
