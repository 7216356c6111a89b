-- Entries and returns alternate, and main's time between them.
use Rattle.uz_check.proofs.Common.{both_ways, ◌≡◌, ◌⊎◌, inl, inr, All, Contains, ℕ, zero, suc, ◌+◌, true, false, List, [], ◌∷◌, ◌++◌, refl}
use Rattle.uz_check.proofs.Common.{sym, ◌∙◌, ap, subst, arith, ⊤, nat_cmp, FinMap, All-tail, Kind, Rest, Instance, Cert, At, length_of}
use Rattle.uz_check.proofs.Common.{Edge, EdgeKind, Enter, bit_is_set, Core, PadHistory, history_wiring, State, Turn, Run, Begins, is_main}
use Rattle.uz_check.proofs.Common.{Running, RunsAlone, RunsMain, RunsHandler, Runs, Invariant, IsPlain, Spends, Goes, EveryTurnGoes, Pixel}
use Rattle.uz_check.proofs.Common.{Sound, Leave}
use Rattle.std.proofs.lemmas.List.{map-append}
use Rattle.uz_core.specs.declared.machine.EdgeKind.TheVariants.{Sync}
use Rattle.uz_console.specs.Entry.{BeginsMain}
use Rattle.uz_check.proofs.Premises.{Premises}
use Rattle.uz_check.specs.Ways.{Phase, InMain, InHandler, ReturnsAt, MainsTime, told, MainsTimeHolds}
use Rattle.uz_check.proofs.Headline.{every_turn_goes}
use Rattle.uz_check.proofs.Beginning.{begins_with}

-- what runs at a state, and since when
abbrev Since : Cert → State PadHistory → Running → Phase → Type 0
Since cert s (RunsAlone i o) phase = ⊥
Since cert s (RunsMain i o rest) InHandler = ⊥
Since cert s (RunsMain i o rest) (InMain since line at) =
    (rest.line ≡ line)
    × (((s.space.timer.matched ≡ false) × (s.clock + at ≡ since + s.space.timer.count))
    ⊎ ((s.space.timer.matched ≡ true) × (s.clock + at ≡ since + length_of cert.schedule line + s.space.timer.count)))
Since cert s (RunsHandler i m o was) (InMain since line at) = ⊥
Since cert s (RunsHandler i m o was) InHandler = ⊤

plain_time : (cert : Cert) (start p : ℕ) (phase : Phase) (edges : List Edge) (tail : List (ℕ × EdgeKind)) → All (λ e. IsPlain e.kind) edges
    → MainsTime cert start p phase tail → MainsTime cert start p phase (told edges ++ tail)
plain_time cert start p phase [] tail h more = more
plain_time cert start p phase (e ∷ es) tail h more = one e.clock e.kind (h 0 e (omega arith))
    (plain_time cert start p phase es tail (All-tail (λ e. IsPlain e.kind) e es h) more)
  where
    one : (clock : ℕ) (kind : EdgeKind) → IsPlain kind → MainsTime cert start p phase (told es ++ tail) → MainsTime cert start p phase
        ((clock, kind) ∷ (told es ++ tail))
    one clock (Sync v) h more = more
    one clock (Pixel v) h more = more
    one clock (Sound v) h more = more
    one clock (Enter t) h more = absurd h
    one clock Leave h more = absurd h

-- main goes on
spent : (cert : Cert) (s next : State PadHistory) (c : ℕ) (rest later : Rest) (i j : Instance) (o q : Core) (phase : Phase)
    → Since cert s (RunsMain i o rest) phase → next.clock ≡ s.clock + c → later ≡ rest → s.space.timer.matched ≡ false
    → Spends (length_of cert.schedule rest.line) s next c → Since cert next (RunsMain j q later) phase
spent cert s next c rest later i j o q InHandler since clock same clear spends = absurd since
spent cert s next c rest later i j o q (InMain k line at) (is, inr due) clock same clear spends =
    absurd (both_ways s.space.timer.matched clear due.0)
spent cert s next c rest later i j o q (InMain k line at) (is, inl before) clock same clear (inl within) =
    (ap (λ (r : Rest). r.line) same ∙ is, inl (within.0, omega (arith, before.1, clock, within.1)))
spent cert s next c rest later i j o q (InMain k line at) (is, inl before) clock same clear (inr past) =
    let length : length_of cert.schedule rest.line ≡ length_of cert.schedule line = ap (length_of cert.schedule) is in
    (ap (λ (r : Rest). r.line) same ∙ is, inr (past.0, omega (arith, before.1, clock, past.1, length)))

-- a return by RETI: its place in the frame is the rest's
returned : (cert : Cert) (start p q passed : ℕ) (next : State PadHistory) (j : Instance) (o : Core) (rest : Rest)
    → next.clock ≡ start + passed → q ≡ p + passed → Runs cert q next (RunsMain j o rest) → Contains cert.rests rest
    → next.space.timer.count ≡ rest.clock → next.space.timer.matched ≡ false → ReturnsAt cert start p next.clock rest
returned cert start p q passed next j o rest clock same runs is_rest count clear = record {
  is_rest = is_rest;
  passed = passed;
  counted = clock;
  place = elim runs.rests.phase [
    | inl before ↦ subst (λ m. At cert.schedule m rest.line rest.clock) same (subst (At cert.schedule q rest.line) count before.place)
    | inr due ↦ absurd (both_ways next.space.timer.matched clear due.set)
  ];
}

module _ (cert : Cert) (start p q passed : ℕ) (s next : State PadHistory) (c : ℕ) (clock : next.clock ≡ s.clock + c)
    (at : next.clock ≡ start + passed) (same : q ≡ p + passed) (edges : List Edge) (tail : List (ℕ × EdgeKind)) where
  time_step : (now then : Running) (phase : Phase) → Since cert s now phase → Runs cert q next then → Goes cert s next c now then edges
      → ((later : Phase) → Since cert next then later → MainsTime cert start p later tail)
      → MainsTime cert start p phase (told edges ++ tail)
  time_step (RunsAlone i o) then phase since runs goes more = absurd since
  time_step (RunsMain i o rest) (RunsAlone j r) phase since runs goes more = absurd goes
  time_step (RunsMain i o rest) (RunsMain j r later) phase since runs goes more =
      plain_time cert start p phase edges tail goes.0
      (more phase (spent cert s next c rest later i j o r phase since clock goes.1 goes.2 goes.3))
  time_step (RunsMain i o rest) (RunsHandler j m r was) InHandler since runs goes more = absurd since
  time_step (RunsMain i o rest) (RunsHandler j m r was) (InMain n line from) (is, inl before) runs goes more =
      absurd (both_ways s.space.timer.matched before.0 goes.2)
  time_step (RunsMain i o rest) (RunsHandler j m r was) (InMain n line from) (is, inr due) runs goes more =
      subst (λ es. MainsTime cert start p (InMain n line from) (told es ++ tail)) (sym goes.0) (goes.1, due.1, more InHandler tt)
  time_step (RunsHandler i m o was) (RunsAlone j r) phase since runs goes more = absurd goes
  time_step (RunsHandler i m o was) (RunsMain j r rest) InHandler since runs goes more =
      subst (λ es. MainsTime cert start p InHandler (told es ++ tail)) (sym goes.0) (
        rest,
        returned cert start p q passed next j r rest at same runs goes.1 goes.2 goes.3,
        more (InMain next.clock rest.line rest.clock) (refl, inl (goes.3, ap (λ n. next.clock + n) (sym goes.2))),
      )
  time_step (RunsHandler i m o was) (RunsHandler j n r later) InHandler since runs goes more =
      plain_time cert start p InHandler edges tail goes (more InHandler tt)
  time_step (RunsHandler i m o was) then (InMain n line from) since runs goes more = absurd since

run_time : (image : FinMap nat_cmp ℕ) (cert : Cert) → EveryTurnGoes image cert → (start p n q passed : ℕ) (s : State PadHistory)
    (edges : List Edge) (end : State PadHistory) (now : Invariant image cert q s) (phase : Phase) → s.clock ≡ start + passed
    → q ≡ p + passed → Since cert s now.running phase → Run (Turn history_wiring) n s edges end → MainsTime cert start p phase (told edges)
run_time image cert goes start p zero q d s edges end now phase at same since run =
    subst (λ es. MainsTime cert start p phase (told es)) (sym run.0) tt
run_time image cert goes start p (suc n) q d s edges end now phase at same since (first, mid, rest, turn, run, cut) =
    let step = goes s q first mid now turn in
    let whole : told edges ≡ told first ++ told rest = ap told cut ∙ map-append (λ (e : Edge). (e.clock, e.kind)) first rest in
    let later_at : mid.clock ≡ start + (d + step.0) = omega (arith, at, step.2) in
    let later_same : q + step.0 ≡ p + (d + step.0) = omega (arith, same) in
    subst (MainsTime cert start p phase) (sym whole)
    (time_step cert start p (q + step.0) (d + step.0) s mid step.0 step.2 later_at later_same first (told rest) now.running
    step.1.running phase since step.1.runs step.3
    (λ later sure. run_time image cert goes start p n (q + step.0) (d + step.0) mid rest end step.1 later later_at later_same sure run))

-- the rest at which main is
record AtRest (cert : Cert) (p : ℕ) (s : State PadHistory) (running : Running) : Type 0 where
  rest : Rest
  is_rest : Contains cert.rests rest
  place : At cert.schedule p rest.line s.space.timer.count
  since : Since cert s running (InMain s.clock rest.line s.space.timer.count)

clear_of : (s : State PadHistory) (kind : Kind) → bit_is_set s.core.sreg 7 ≡ true → bit_is_set s.core.sreg 7 ≡ is_main kind
    → is_main kind ≡ false → ⊥
clear_of s kind on is off = both_ways (bit_is_set s.core.sreg 7) (is ∙ off) on

at_rest : (cert : Cert) (p : ℕ) (s : State PadHistory) (running : Running) → bit_is_set s.core.sreg 7 ≡ true → s.space.timer.matched ≡ false
    → Runs cert p s running → AtRest cert p s running
at_rest cert p s (RunsAlone i o) on clear runs = absurd (clear_of s i.kind on runs.stands.meets.enabled (ap is_main runs.stands.of_kind))
at_rest cert p s (RunsHandler i m o was) on clear runs =
    absurd (clear_of s i.kind on runs.stands.meets.enabled (ap is_main runs.stands.of_kind))
at_rest cert p s (RunsMain i o rest) on clear runs =
    elim runs.rests.phase [
      | inl before ↦ record { rest = rest; is_rest = runs.rests.is_rest; place = before.place; since = (refl, inl (clear, refl)) }
      | inr due ↦ absurd (both_ways s.space.timer.matched clear due.set)
    ]

pub mains_time : (image : FinMap nat_cmp ℕ) (cert : Cert) → Premises image cert → MainsTimeHolds image cert
mains_time image cert h s p n edges end is_state flash entry kind run =
    let start : BeginsMain cert s p = subst (λ k. Begins k cert s p) kind entry.begins in
    let now = begins_with image cert h s p is_state flash entry in
    let place = at_rest cert p s now.running start.interrupts start.timer.clear now.runs in (
      place.rest,
      place.is_rest,
      place.place,
      run_time image cert (every_turn_goes image cert h) s.clock p n p 0 s edges end now
          (InMain s.clock place.rest.line s.space.timer.count) (omega arith) (omega arith) place.since run,
    )
