-- Where the level is set anywhere, there is one everywhere, and it is 0 or 1.
use Rattle.std.proofs.Common.{◌≡◌, ◌⊎◌, inl, inr, All, ℕ, zero, suc, ◌+◌, ◌-◌, ◌%◌, ◌<◌, ◌≤◌, Bool, true, false, cond, ltb, List, [], ◌∷◌}
use Rattle.std.proofs.Common.{length, refl, ◌∙◌, ap, subst, arith}
use Rattle.std.proofs.Math.Nat.{add-mod_right, mod-lt, mod-mod}
use Rattle.std.specs.Prelude.{Option, Some, None, slice_get, slice_index}
use Rattle.std.proofs.lemmas.Bool.Decides.{eqb_tells, leb_tells}
use Rattle.std.proofs.lemmas.Option.{get_or_from_slice_get, slice_get_within}
use Rattle.std.proofs.lemmas.List.Elements.{All-get_or, All-tail}
use Rattle.uz_schedule.specs.Limits.{KindFits, EventFits, ScheduleFits}
use Rattle.uz_schedule.specs.declared.lines.Event.{Event}
use Rattle.uz_schedule.specs.declared.lines.EventKind.{EventKind}
use Rattle.uz_schedule.specs.declared.lines.EventKind.TheVariants.{Sync, Pixel, Sound, Leave}
use Rattle.uz_schedule.specs.declared.lines.Schedule.{Schedule}
use Rattle.uz_schedule.specs.Schedule.{length_of, frame_of, event_in, event_in_kind, event_from, events_of, event_at, sync_of, sync_at}
use Rattle.uz_schedule.specs.Schedule.{or_else, last_level, level_at}
use Rattle.uz_schedule.proofs.Modulo.{event_at_mod}

-- Every level is 0 or 1

event_fits : (events : List Event) (clock : ℕ) (kind : EventKind) → All EventFits events → event_in events clock ≡ Some kind → KindFits kind
event_fits [] clock kind h e = absurd cc
event_fits (first ∷ later) clock kind h e =
    elim (eqb_tells first.clock clock) [
      | inl t ↦
          let here : Some first.kind ≡ Some kind = rw t.0 at e in
          let is : first.kind ≡ kind = cc in
          subst KindFits is (h zero first (omega arith)).kind
      | inr t ↦ event_fits later clock kind (All-tail EventFits first later h) (rw t.0 at e)
    ]

listed_fits : (s : Schedule) (o : Option (List Event)) (clock : ℕ) (kind : EventKind) (k : ℕ) → ScheduleFits s → slice_get s.kinds k ≡ o
    → event_in_kind o clock ≡ Some kind → KindFits kind
listed_fits s None clock kind k fits f e = absurd cc
listed_fits s (Some events) clock kind k fits f e =
    let each = All-get_or (λ es. All EventFits es) s.kinds k [] (slice_get_within s.kinds k events f)
    (λ i d b. (fits.kinds.each i d b).each) in
    event_fits events clock kind (subst (All EventFits) (get_or_from_slice_get s.kinds k events [] f) each) e

level_fits : (o : Option EventKind) (v : ℕ) → ((kind : EventKind) → o ≡ Some kind → KindFits kind) → sync_of o ≡ Some v → v ≤ 1
level_fits None v h e = absurd cc
level_fits (Some (Sync level)) v h e = let is : level ≡ v = cc in subst (λ n. n ≤ 1) is (h (Sync level) refl)
level_fits (Some Pixel) v h e = absurd cc
level_fits (Some Sound) v h e = absurd cc
level_fits (Some Leave) v h e = absurd cc

chosen_fits : (t : Bool) (here there : Option EventKind) (kind : EventKind) → (here ≡ Some kind → KindFits kind)
    → (there ≡ Some kind → KindFits kind) → cond t here there ≡ Some kind → KindFits kind
chosen_fits true here there kind f g e = f e
chosen_fits false here there kind f g e = g e

walk_fits : (s : Schedule) (l count k : ℕ) (kind : EventKind) → ScheduleFits s → event_from s l count k ≡ Some kind → KindFits kind
walk_fits s l zero k kind fits e = absurd cc
walk_fits s l (suc count) k kind fits e =
    chosen_fits (ltb k (length_of s l)) (event_in_kind (events_of s l) k) (event_from s (suc l) count (k - length_of s l)) kind
    (λ h. listed_fits s (events_of s l) k kind (slice_index s.lines l) fits refl h) (λ h. walk_fits s (suc l) count (k - length_of s l) kind
    fits h) e

sync_fits : (s : Schedule) → ScheduleFits s → (p v : ℕ) → sync_at s p ≡ Some v → v ≤ 1
sync_fits s fits p v e = level_fits (event_at s p) v (λ kind f. walk_fits s 0 (length s.lines) (p % frame_of s) kind fits f) e

-- A level that is set somewhere in the count positions up to x is found

pub record Found (at : ℕ → Option ℕ) (n x : ℕ) : Type 0 where
  pub level : ℕ
  pub where_ : ℕ
  pub set : at where_ ≡ Some level
  pub is : last_level at n x ≡ Some level

set_or_not : (o : Option ℕ) → ((v : ℕ) × (o ≡ Some v)) ⊎ (o ≡ None)
set_or_not None = inr refl
set_or_not (Some v) = inl (v, refl)

same_some : (o : Option ℕ) (v : ℕ) → o ≡ Some v → o ≡ None → ⊥
same_some o v e f = absurd cc

found : (at : ℕ → Option ℕ) (n x y v : ℕ) → y ≤ x → x < y + n → at y ≡ Some v → Found at n x
found at zero x y v h g e = absurd (omega (arith, h, g))
found at (suc n) x y v h g e =
    elim (set_or_not (at x)) [
      | inl t ↦ record { level = t.0; where_ = x; set = t.1; is = ap (λ o. or_else o (last_level at n (x - 1))) t.1 }
      | inr t ↦
          elim (eqb_tells y x) [
            | inl u ↦ absurd (same_some (at y) v e (ap at u.1 ∙ t))
            | inr u ↦
                let rest = found at n (x - 1) y v (omega (arith, h, u.1)) (omega (arith, h, g, u.1)) e in
                record {
                  level = rest.level;
                  where_ = rest.where_;
                  set = rest.set;
                  is = ap (λ o. or_else o (last_level at n (x - 1))) t
                      ∙ rest.is;
                }
          ]
    ]

-- the level that is found is set somewhere
set_where : (at : ℕ → Option ℕ) (n x v : ℕ) → last_level at n x ≡ Some v → (y : ℕ) × (at y ≡ Some v)
set_where at zero x v e = absurd cc
set_where at (suc n) x v e =
    elim (set_or_not (at x)) [
      | inl t ↦ (x, first (at x) (last_level at n (x - 1)) t.0 v t.1 e)
      | inr t ↦ set_where at n (x - 1) v (later (at x) (last_level at n (x - 1)) v t e)
    ]
  where
    first : (o other : Option ℕ) (u v : ℕ) → o ≡ Some u → or_else o other ≡ Some v → o ≡ Some v
    first None other u v f e = absurd cc
    first (Some w) other u v f e = e

    later : (o other : Option ℕ) (v : ℕ) → o ≡ None → or_else o other ≡ Some v → other ≡ Some v
    later None other v f e = e
    later (Some w) other v f e = absurd cc

pub level_bit : (s : Schedule) (p v : ℕ) → ScheduleFits s → level_at s p ≡ Some v → v ≤ 1
level_bit s p v fits e =
    let at = set_where (sync_at s) (frame_of s) (p % frame_of s + frame_of s) v e in
    sync_fits s fits at.0 v at.1

pub level_somewhere : (s : Schedule) (p q v : ℕ) → 0 < frame_of s → sync_at s q ≡ Some v → (u : ℕ) × (level_at s p ≡ Some u)
level_somewhere s p q v some set =
    let x = p % frame_of s in
    let y = q % frame_of s in
    let below : x < frame_of s = mod-lt p some in
    let there : y < frame_of s = mod-lt q some in
    let here : sync_at s y ≡ Some v = ap sync_of (event_at_mod s y q (mod-mod q (frame_of s))) ∙ set in
    let again : sync_at s (y + frame_of s) ≡ Some v = ap sync_of (event_at_mod s (y + frame_of s) y (add-mod_right y (frame_of s)))
    ∙ here in
    let at = elim (leb_tells y x) as (λ _. Found (sync_at s) (frame_of s) (x + frame_of s)) [
      | inl t ↦ found (sync_at s) (frame_of s) (x + frame_of s) (y + frame_of s) v (omega (arith, t.1)) (omega (arith, below)) again
      | inr t ↦ found (sync_at s) (frame_of s) (x + frame_of s) y v (omega (arith, there)) (omega (arith, t.1)) here
    ] in
    (at.level, at.is)
