-- What the schedule has along a stretch, and the level after it.
use Rattle.uz_check.proofs.Common.{◌≡◌, ℕ, zero, suc, ◌+◌, ◌%◌, ◌<◌, ◌≤◌, List, [], ◌∷◌, ◌++◌, refl, sym, ◌∙◌, ap, arith, Option, Some}
use Rattle.uz_check.proofs.Common.{None, EventKind, Sync, Schedule, frame_of, event_at, sync_of, level_at, or_else, Shown, shown_at, listed}
use Rattle.uz_check.proofs.Common.{level_after, scheduled}
use Rattle.uz_schedule.specs.Schedule.{level_set}
use Rattle.uz_schedule.proofs.Modulo.{event_at_mod, mod_shift, level_step}

-- a stretch depends on its start modulo the frame
pub scheduled_mod : (s : Schedule) (p q k c : ℕ) → p % frame_of s ≡ q % frame_of s → scheduled (event_at s) p k c ≡ scheduled (event_at s) q
    k c
scheduled_mod s p q k zero e = refl
scheduled_mod s p q k (suc c) e =
    let i : p + 1 ≡ suc p = omega arith in
    let j : q + 1 ≡ suc q = omega arith in
    let one : suc p % frame_of s ≡ suc q % frame_of s = rw (i, j) at (mod_shift p q 1 (frame_of s) e) in
    let event = event_at_mod s (suc p) (suc q) one in
    let rest = scheduled_mod s (suc p) (suc q) (suc k) c one in
    rw (event, rest) refl

-- nothing happens where no event stands
pub scheduled_none : (at : ℕ → Option EventKind) (p k c : ℕ) → ((i : ℕ) → 1 ≤ i → i ≤ c → at (p + i) ≡ None) → scheduled at p k c ≡ []
scheduled_none at p k zero h = refl
scheduled_none at p k (suc c) h =
    let i : p + 1 ≡ suc p = omega arith in
    let now : at (suc p) ≡ None = rw i at (h 1 (omega arith) (omega arith)) in
    let rest = scheduled_none at (suc p) (suc k) c (λ j some few. ap at (omega arith) ∙ h (suc j) (omega arith) (omega arith)) in
    rw (now, rest) refl

-- the level after these events
abbrev pub last_in : List Shown → Option ℕ → Option ℕ
last_in [] o = o
last_in (e ∷ es) o = last_in es (or_else (level_set e.kind) o)

last_in_event : (event : Option EventKind) (k : ℕ) (rest : List Shown) (o : Option ℕ) → last_in (listed (shown_at event k) ++ rest)
    o ≡ last_in rest (or_else (sync_of event) o)
last_in_event None k rest o = refl
last_in_event (Some kind) k rest o = refl

-- the level after a stretch
pub level_along : (s : Schedule) (p k c : ℕ) → 0 < frame_of s → level_at s (p + c) ≡ last_in (scheduled (event_at s) p k c) (level_at s p)
level_along s p k zero some = ap (level_at s) (omega arith)
level_along s p k (suc c) some =
    ap (level_at s) (omega arith)
    ∙ (level_along s (suc p) (suc k) c some
    ∙ (ap (last_in (scheduled (event_at s) (suc p) (suc k) c)) (level_step s p some)
    ∙ sym (last_in_event (event_at s (suc p)) (suc k) (scheduled (event_at s) (suc p) (suc k) c) (level_at s p))))

-- the level after one event, or none
pub last_in_listed : (event : Option EventKind) (k v : ℕ) → last_in (listed (shown_at event k)) (Some v) ≡ Some (level_after event v)
last_in_listed (Some (Sync u)) k v = refl
last_in_listed event k v = refl
