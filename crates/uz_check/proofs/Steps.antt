-- From one turn to every run. Nothing here knows a machine's turn, a point or a rule: where each turn of a state that
-- meets `Meets` at a position keeps to the schedule and leads to a state that meets it again, every run does.
use Rattle.uz_check.proofs.Common.{◌≡◌, All, ℕ, zero, suc, ◌+◌, ◌-◌, ◌<◌, ◌≤◌, List, [], ◌++◌, refl, ◌∙◌, ap, append_assoc, arith}
use Rattle.uz_check.proofs.Common.{append-nil, filter-append, filter_map-append, All-append, nat_tests, Option, Some, None, EventKind, Edge}
use Rattle.uz_check.proofs.Common.{Run, event_of, shown_at, shown, listed, scheduled, until, InTime, Follows, add-zero, add-suc}
use Rattle.std.proofs.Common.{add_assoc, zero-add}
use Rattle.std.proofs.Math.Nat.{suc-add}

-- after n turns the state is at a later position, and the events are those of the schedule between
pub record Comes {S : Type 0} (clock_of : S → ℕ) (at : ℕ → Option EventKind) (Meets : ℕ → S → Type 0) (p : ℕ) (s : S) (n : ℕ)
    (edges : List Edge) (end : S) : Type 0 where
  pub clocks : ℕ
  pub some : n ≤ clocks
  pub clock : clock_of end ≡ clock_of s + clocks
  pub meets : Meets (p + clocks) end
  pub exact : shown edges ≡ scheduled at p (clock_of s) clocks
  pub entries : All (λ e. InTime e.kind) edges

pub record EveryStep {S : Type 0} (turn : S → List Edge → S → Type 0) (clock_of : S → ℕ) (at : ℕ → Option EventKind)
    (Meets : ℕ → S → Type 0) : Type 0 where
  pub goes_on : (p : ℕ) (s : S) → Meets p s → (more : List Edge) × (next : S) × turn s more next
  pub follows : (p : ℕ) (s : S) (edges : List Edge) (next : S) → Meets p s → turn s edges next → Comes clock_of at Meets p s 1
      edges next

shown-append : (first rest : List Edge) → shown (first ++ rest) ≡ shown first ++ shown rest
shown-append first rest = filter_map-append (λ e. shown_at (event_of e.kind) e.clock) first rest

-- a stretch of c + d clocks is one of c and then one of d
pub scheduled-+ : (at : ℕ → Option EventKind) (p k c d : ℕ) → scheduled at p k (c + d) ≡ scheduled at p k c ++ scheduled at (p + c) (k + c)
    d
scheduled-+ at p k zero d = simp (zero-add, add-zero)
scheduled-+ at p k (suc c) d =
    let rest = simp suc-add at (scheduled-+ at (suc p) (suc k) c d) in
    rw (suc-add, add-suc, add-suc, append_assoc) (ap (λ es. listed (shown_at (at (suc p)) (suc k)) ++ es) rest)

until-event_before : (o : Option EventKind) (k limit : ℕ) → limit < k → until limit (listed (shown_at o k)) ≡ []
until-event_before None k limit h = refl
until-event_before (Some v) k limit h = grind (arith, nat_tests)

until-event_within : (o : Option EventKind) (k limit : ℕ) → k ≤ limit → until limit (listed (shown_at o k)) ≡ listed (shown_at o k)
until-event_within None k limit h = refl
until-event_within (Some v) k limit h = grind (arith, nat_tests)

-- the events of a stretch come after its start
until-scheduled_before : (at : ℕ → Option EventKind) (p k n limit : ℕ) → limit ≤ k → until limit (scheduled at p k n) ≡ []
until-scheduled_before at p k zero limit h = refl
until-scheduled_before at p k (suc n) limit h =
    let now = until-event_before (at (suc p)) (suc k) limit (omega arith) in
    let rest = until-scheduled_before at (suc p) (suc k) n limit (omega arith) in
    rw filter-append cc

-- and up to its end
until-scheduled_whole : (at : ℕ → Option EventKind) (p k n limit : ℕ) → k + n ≤ limit → until limit (scheduled at p k n) ≡ scheduled at p k
    n
until-scheduled_whole at p k zero limit h = refl
until-scheduled_whole at p k (suc n) limit h =
    let now = until-event_within (at (suc p)) (suc k) limit (omega arith) in
    let rest = until-scheduled_whole at (suc p) (suc k) n limit (omega arith) in
    rw filter-append cc

-- so what a longer stretch has up to a clock is the shorter one
until-scheduled : (at : ℕ → Option EventKind) (p k n more : ℕ) → until (k + n) (scheduled at p k (n + more)) ≡ scheduled at p k n
until-scheduled at p k n more =
    let whole = until-scheduled_whole at p k n (k + n) (omega arith) in
    let none = until-scheduled_before at (p + n) (k + n) more (k + n) (omega arith) in
    rw (scheduled-+, filter-append) (ap (λ es. until (k + n) (scheduled at p k n) ++ es) none ∙ (append-nil _ ∙ whole))

up_to : (at : ℕ → Option EventKind) (p k n d : ℕ) (edges : List Edge) → shown edges ≡ scheduled at p k d → n ≤ d → until (k + n)
    (shown edges) ≡ scheduled at p k n
up_to at p k n d edges e h =
    let parts : d ≡ n + (d - n) = omega arith in
    rw (e, parts) (until-scheduled at p k n (d - n))

joined : (at : ℕ → Option EventKind) (p k c d k' : ℕ) (first rest : List Edge) → shown first ≡ scheduled at p k c → k' ≡ k + c
    → shown rest ≡ scheduled at (p + c) k' d → shown (first ++ rest) ≡ scheduled at p k (c + d)
joined at p k c d k' first rest f e r = shown-append first rest ∙ rw (scheduled-+, f, r, e) refl

module _ {S : Type 0} (turn : S → List Edge → S → Type 0) (clock_of : S → ℕ) (at : ℕ → Option EventKind) (Meets : ℕ → S → Type 0)
    (h : EveryStep turn clock_of at Meets) where
  pub along : (n p : ℕ) (s : S) (edges : List Edge) (end : S) → Meets p s → Run turn n s edges end → Comes clock_of at Meets p s n edges end
  along zero p s edges end m run =
      record {
        clocks = 0;
        some = omega arith;
        clock = rw add-zero (ap clock_of run.1);
        meets = rw (add-zero, run.1) m;
        exact = ap shown run.0;
        entries = rw run.0 (λ k d b. absurd (omega arith));
      }
  along (suc n) p s edges end m run =
      let mid = run.1 in
      let step = h.follows p s run.0 mid m run.3 in
      let rest = along n (p + step.clocks) mid run.2 end step.meets run.4 in
      record {
        clocks = step.clocks + rest.clocks;
        some = omega (arith, step.some, rest.some);
        clock = omega (arith, step.clock, rest.clock);
        meets = rw (← add_assoc) rest.meets;
        exact = ap shown run.5 ∙ joined at p (clock_of s) step.clocks rest.clocks (clock_of mid) run.0 run.2 step.exact step.clock
            rest.exact;
        entries = rw run.5 (All-append (λ e. InTime e.kind) run.0 run.2 step.entries rest.entries);
      }

  -- a run of n turns, however many
  pub goes : (n p : ℕ) (s : S) → Meets p s → (edges : List Edge) × (end : S) × Run turn n s edges end
  goes zero p s m = ([], s, (refl, refl))
  goes (suc n) p s m =
      let first = h.goes_on p s m in
      let step = h.follows p s first.0 first.1 m first.2 in
      let rest = goes n (p + step.clocks) first.1 step.meets in
      (first.0 ++ rest.0, rest.1, (first.0, first.1, rest.0, first.2, rest.2, refl))

  -- where every turn keeps to the schedule, every run does, for every number of clocks
  pub every_run : (p : ℕ) (s : S) → Meets p s → (T : ℕ) → Follows turn clock_of at s p T
  every_run p s m T =
      let far = goes T p s m in
      let came = along T p s far.0 far.1 m far.2 in
      record {
        goes_on = λ n edges end run below.
            let come = along n p s edges end m run in
            h.goes_on (p + come.clocks) end come.meets;
        comes = (T, far.0, far.1, far.2, omega (arith, came.clock, came.some));
        exact = λ n edges end run long.
            let come = along n p s edges end m run in
            up_to at p (clock_of s) T come.clocks edges come.exact (omega (arith, come.clock, long));
        entries = λ n edges end run. (along n p s edges end m run).entries;
      }
