-- The least position of an entry, from the least ones of its parts.
use Rattle.std.proofs.Common.{◌≡◌, ℕ, ◌+◌, ◌%◌, ◌<◌, ◌≤◌, Bool, true, false, List, [], ◌∷◌, ◌++◌, Option, Some, None, refl, sym, ap, subst}
use Rattle.std.proofs.Common.{◌∙◌, inl, inr, ◌⊎◌, cond, arith}
use Rattle.std.specs.Prelude.{Contains, IfNone, IfSome, nat_lt, length, slice_index, suc}
use Rattle.std.proofs.Math.Nat.{le_trans, mod-eq_of_lt, mod-le}
use Rattle.std.proofs.lemmas.Bool.Decides.{nat_tests}
use Rattle.std.proofs.lemmas.List.Elements.{Contains-append_left, Contains-push, Contains-push_cases}
use Rattle.uz_schedule.specs.declared.lines.Schedule.{Schedule}
use Rattle.uz_schedule.specs.declared.states.Rest.{Rest}
use Rattle.uz_schedule.specs.declared.certificate.Cert.{Cert}
use Rattle.uz_schedule.specs.declared.kinds.Kind.{Kind}
use Rattle.uz_schedule.specs.declared.kinds.Kind.TheVariants.{Main, Handler, Alone}
use Rattle.uz_core.specs.Arithmetic.{bit_is_set}
use Rattle.uz_core.specs.Core.{Core}
use Rattle.uz_core.specs.Timer.{Timer, is_counting}
use Rattle.uz_core.specs.PadLine.{PadHistory}
use Rattle.uz_pads.specs.declared.pads.Pads.{Pads}
use Rattle.uz_console.specs.Consoles.{StateStandsFor}
use Rattle.uz_schedule.specs.Schedule.{At, length_of, frame_of, level_at, sync_at, last_level}
use Rattle.uz_core.specs.Turn.{State}
use Rattle.uz_schedule.specs.Tracked.{tracked}
use Rattle.uz_console.specs.Entry.{CellsHold, TimerWaits, BeginsMain, Begins, EntryCondition}
use Rattle.uz_console.specs.Entering.{IsFirstEntry, RegistersMatch, FlagsMatch, StackMatches, IsLeast, lesser, lesser_of, LevelMatches}
use Rattle.uz_console.specs.Entering.{MatchesEntry, WaitsAt, EntersAt, EntersAtOne, EntersAlone, position_of}

-- the level at a position is the one at its remainder
level_there : (s : Schedule) (p q : ℕ) → p % frame_of s ≡ q → q < frame_of s → level_at s p ≡ level_at s q
level_there s p q e h = ap (λ x. last_level (sync_at s) (frame_of s) (x + frame_of s)) (e ∙ sym (mod-eq_of_lt h))

pub none_waits : {P : Type 0} (cert : Cert) (s : State P) (rest : Rest) → (WaitsAt cert s rest → ⊥) → IsLeast (frame_of cert.schedule)
    (EntersAt cert s rest) None
none_waits cert s rest h p e = h e.waits

pub rest_found : {P : Type 0} (cert : Cert) (s : State P) (rest : Rest) (q : ℕ) → WaitsAt cert s rest → q ≡ position_of cert.schedule
    rest.line s.space.timer.count → q < frame_of cert.schedule → LevelMatches cert s q → IsLeast (frame_of cert.schedule)
    (EntersAt cert s rest) (Some q)
rest_found cert s rest q w e h l = (
  h,
  record { waits = w; place = mod-eq_of_lt h ∙ e; level = l },
  λ p enters. (let same : p % frame_of cert.schedule ≡ q = enters.place ∙ sym e in omega arith),
)

pub rest_missed : {P : Type 0} (cert : Cert) (s : State P) (rest : Rest) (q : ℕ) → q ≡ position_of cert.schedule rest.line
    s.space.timer.count → q < frame_of cert.schedule → (LevelMatches cert s q → ⊥) → IsLeast (frame_of cert.schedule) (EntersAt cert s rest)
    None
rest_missed cert s rest q e h n p enters = n (sym (level_there cert.schedule p q (enters.place ∙ sym e) h) ∙ enters.level)

pub alone_missed : {P : Type 0} (cert : Cert) (s : State P) (q : ℕ) → q ≡ position_of cert.schedule cert.entry.line cert.entry.clock
    → q < frame_of cert.schedule → (LevelMatches cert s q → ⊥) → IsLeast (frame_of cert.schedule) (EntersAlone cert s) None
alone_missed cert s q e h n p enters = n (sym (level_there cert.schedule p q (enters.begins.place ∙ sym e) h) ∙ enters.level)

-- one more rest
lesser_left : (a b : ℕ) → lesser_of a b ≤ a
lesser_left a b = grind (arith, nat_tests)

lesser_right : (a b : ℕ) → lesser_of a b ≤ b
lesser_right a b = grind (arith, nat_tests)

lesser_either : (a b : ℕ) → (lesser_of a b ≡ a) ⊎ (lesser_of a b ≡ b)
lesser_either a b = by_test (nat_lt b a)
  where
    by_test : (t : Bool) → (cond t b a ≡ a) ⊎ (cond t b a ≡ b)
    by_test true = inr refl
    by_test false = inl refl

pub one_more_rest : {P : Type 0} (cert : Cert) (s : State P) (frame : ℕ) (rests : List Rest) (rest : Rest) (least found : Option ℕ)
    → IsLeast frame (EntersAtOne cert s rests) least → IsLeast frame (EntersAt cert s rest) found → IsLeast frame
    (EntersAtOne cert s (rests ++ rest ∷ [])) (lesser least found)
one_more_rest cert s frame rests rest None None a b = λ p e. either p e (Contains-push_cases rests rest e.0 e.1)
  where
    either : (p : ℕ) (e : EntersAtOne cert s (rests ++ rest ∷ []) p) → Contains rests e.0 ⊎ (rest ≡ e.0) → ⊥
    either p e (inl old) = a p (e.0, old, e.2)
    either p e (inr new) = b p (subst (λ r. EntersAt cert s r p) (sym new) e.2)
one_more_rest cert s frame rests rest None (Some y) a b = (
  b.0,
  (rest, Contains-push rests rest, b.1),
  λ p e. least p e
      (Contains-push_cases rests rest e.0 e.1),
)
  where
    least : (p : ℕ) (e : EntersAtOne cert s (rests ++ rest ∷ []) p) → Contains rests e.0 ⊎ (rest ≡ e.0) → y ≤ p % frame
    least p e (inl old) = absurd (a p (e.0, old, e.2))
    least p e (inr new) = b.2 p (subst (λ r. EntersAt cert s r p) (sym new) e.2)
one_more_rest cert s frame rests rest (Some x) None a b = (
  a.0,
  (a.1.0, Contains-append_left rests (rest ∷ []) a.1.0 a.1.1, a.1.2),
  λ p e. least p e (Contains-push_cases rests rest e.0 e.1),
)
  where
    least : (p : ℕ) (e : EntersAtOne cert s (rests ++ rest ∷ []) p) → Contains rests e.0 ⊎ (rest ≡ e.0) → x ≤ p % frame
    least p e (inl old) = a.2 p (e.0, old, e.2)
    least p e (inr new) = absurd (b p (subst (λ r. EntersAt cert s r p) (sym new) e.2))
one_more_rest cert s frame rests rest (Some x) (Some y) a b = (
  within (lesser_either x y),
  holds (lesser_either x y),
  λ p e. least p e
      (Contains-push_cases rests rest e.0 e.1),
)
  where
    within : (lesser_of x y ≡ x) ⊎ (lesser_of x y ≡ y) → lesser_of x y < frame
    within (inl e) = (let h = a.0 in omega arith)
    within (inr e) = (let h = b.0 in omega arith)

    holds : (lesser_of x y ≡ x) ⊎ (lesser_of x y ≡ y) → EntersAtOne cert s (rests ++ rest ∷ []) (lesser_of x y)
    holds (inl e) = subst (EntersAtOne cert s (rests ++ rest ∷ [])) (sym e) (
      a.1.0,
      Contains-append_left rests (rest ∷ []) a.1.0 a.1.1,
      a.1.2,
    )
    holds (inr e) = subst (EntersAtOne cert s (rests ++ rest ∷ [])) (sym e) (rest, Contains-push rests rest, b.1)

    least : (p : ℕ) (e : EntersAtOne cert s (rests ++ rest ∷ []) p) → Contains rests e.0 ⊎ (rest ≡ e.0) → lesser_of x y ≤ p % frame
    least p e (inl old) = (let h = a.2 p (e.0, old, e.2) in let l = lesser_left x y in omega arith)
    least p e (inr new) = (let h = b.2 p (subst (λ r. EntersAt cert s r p) (sym new) e.2) in let l = lesser_right x y in omega arith)

-- the whole condition
whole : {P : Type 0} (cert : Cert) (s : State P) (p : ℕ) → MatchesEntry cert s → LevelMatches cert s p → Begins cert.entry.kind cert s p
    → EntryCondition cert s p
whole cert s p m l b = record {
  pc = m.pc;
  registers = m.registers;
  flags = m.flags;
  stack = m.stack;
  cells = m.cells;
  sp = m.sp;
  level = l;
  response = m.response;
  begins = b;
}

-- a least position of a property that means the same
same_least : (frame : ℕ) (F G : ℕ → Type 0) (o : Option ℕ) → ((p : ℕ) → F p → G p) → ((p : ℕ) → G p → F p) → IsLeast frame F o
    → IsLeast frame G o
same_least frame F G None to from h = λ p g. h p (from p g)
same_least frame F G (Some q) to from h = (h.0, to q h.1, λ p g. h.2 p (from p g))

main_begins : {P : Type 0} (cert : Cert) (s : State P) (p : ℕ) → EntersAtOne cert s cert.rests p → BeginsMain cert s p
main_begins cert s p e = record {
  rest = e.0;
  is_rest = e.1;
  interrupts = e.2.waits.interrupts;
  timer = e.2.waits.timer;
  place = e.2.place;
  rested = e.2.waits.rested;
  within = e.2.waits.within;
  cells = e.2.waits.cells;
}

main_enters : {P : Type 0} (cert : Cert) (s : State P) (p : ℕ) → BeginsMain cert s p → LevelMatches cert s p → EntersAtOne cert s cert.rests
    p
main_enters cert s p b l = (
  b.rest,
  b.is_rest,
  record {
    waits = record {
      interrupts = b.interrupts;
      timer = b.timer;
      rested = b.rested;
      within = b.within;
      cells = b.cells;
    };
    place = b.place;
    level = l;
  },
)

pub main_least : {P : Type 0} (cert : Cert) (s : State P) (o : Option ℕ) → cert.entry.kind ≡ Main → MatchesEntry cert s
    → IsLeast (frame_of cert.schedule) (EntersAtOne cert s cert.rests) o → IsLeast (frame_of cert.schedule) (EntryCondition cert s) o
main_least cert s o k m h =
    same_least _ _ _ o
    (λ p e. whole cert s p m e.2.level (subst (λ x. Begins x cert s p) (sym k) (main_begins cert s p e)))
    (λ p e. main_enters cert s p (subst (λ x. Begins x cert s p) k e.begins) e.level) h

-- What a console's state meets, the states that it stands for meet

-- equal in all that the condition looks at
record SameParts {P Q : Type 0} (t : State P) (s : State Q) : Type 0 where
  core : s.core ≡ t.core
  bytes : s.space.bytes ≡ t.space.bytes
  timer : s.space.timer ≡ t.space.timer
  response : s.response ≡ t.response
  is_owed : s.is_owed ≡ t.is_owed

carried : {P Q : Type 0} (cert : Cert) (t : State P) (s : State Q) (p : ℕ) → SameParts t s → EntryCondition cert t p → EntryCondition cert s
    p
carried cert t s p h e = record {
  pc = subst (λ (c : Core). c.pc ≡ cert.entry.pc) (sym h.core) e.pc;
  registers = subst (λ (c : Core). RegistersMatch cert.entry.regs c) (sym h.core) e.registers;
  flags = subst (λ (c : Core). FlagsMatch cert.entry.flags c.sreg) (sym h.core) e.flags;
  stack = subst (λ (c : Core). StackMatches cert.entry.stack.items c.sp s.space.bytes) (sym h.core)
      (subst (λ b. StackMatches cert.entry.stack.items t.core.sp b) (sym h.bytes) e.stack);
  cells = subst (λ b. CellsHold (tracked cert.head cert.entry.kind) cert.entry.cells.items b) (sym h.bytes) e.cells;
  sp = subst (λ (c : Core). c.sp + length cert.entry.stack.items ≡ cert.head.hi) (sym h.core) e.sp;
  level = e.level ∙ ap (λ b. Some (slice_index b 0x25 % 2)) (sym h.bytes);
  response = h.response ∙ e.response;
  begins = begins_carried cert.entry.kind e.begins;
}
  where
    timer_carried : (n : ℕ) → TimerWaits t n → TimerWaits s n
    timer_carried n w = record {
      counting = subst (λ (x : Timer). is_counting x ≡ true) (sym h.timer) w.counting;
      top = subst (λ (x : Timer). suc x.top ≡ n) (sym h.timer) w.top;
      enabled = subst (λ (x : Timer). bit_is_set x.interrupt_mask 1 ≡ true) (sym h.timer) w.enabled;
      clear = subst (λ (x : Timer). x.matched ≡ false) (sym h.timer) w.clear;
      settled = h.is_owed ∙ w.settled;
    }

    main_carried : BeginsMain cert t p → BeginsMain cert s p
    main_carried b = record {
      rest = b.rest;
      is_rest = b.is_rest;
      interrupts = subst (λ (c : Core). bit_is_set c.sreg 7 ≡ true) (sym h.core) b.interrupts;
      timer = timer_carried _ b.timer;
      place = subst (λ (x : Timer). At cert.schedule p b.rest.line x.count) (sym h.timer) b.place;
      rested = subst (λ (x : Timer). b.rest.clock ≤ x.count) (sym h.timer) b.rested;
      within = subst (λ (x : Timer). x.count < length_of cert.schedule b.rest.line) (sym h.timer) b.within;
      cells = subst (λ x. CellsHold (tracked cert.head Handler) b.rest.cells.items x) (sym h.bytes) b.cells;
    }

    begins_carried : (kind : Kind) → Begins kind cert t p → Begins kind cert s p
    begins_carried Main b = main_carried b
    begins_carried Handler b = b
    begins_carried Alone b = record {
      interrupts = subst (λ (c : Core). bit_is_set c.sreg 7 ≡ false) (sym h.core) b.interrupts;
      place = b.place;
    }

there : (t : State Pads) (s : State PadHistory) → StateStandsFor t s → SameParts t s
there t s h = record { core = h.core; bytes = h.bytes; timer = h.timer; response = h.response; is_owed = h.is_owed }

back : (t : State Pads) (s : State PadHistory) → StateStandsFor t s → SameParts s t
back t s h = record { core = sym h.core; bytes = sym h.bytes; timer = sym h.timer; response = sym h.response; is_owed = sym h.is_owed }

pub none_met : (cert : Cert) (t : State Pads) (o : Option ℕ) → IsLeast (frame_of cert.schedule) (EntryCondition cert t) o
    → IfNone o ((s : State PadHistory) (p : ℕ) → StateStandsFor t s → EntryCondition cert s p → ⊥)
none_met cert t None h = λ s p stands e. h p (carried cert s t p (back t s stands) e)
none_met cert t (Some q) h = tt

pub first_met : (cert : Cert) (t : State Pads) (o : Option ℕ) → IsLeast (frame_of cert.schedule) (EntryCondition cert t) o
    → IfSome o (λ p. (s : State PadHistory) → StateStandsFor t s → IsFirstEntry cert s p)
first_met cert t None h = tt
first_met cert t (Some q) h =
    λ s stands.
    record {
      in_frame = h.0;
      meets = carried cert t s q (there t s stands) h.1;
      first = λ p e. le_trans (h.2 p (carried cert s t p (back t s stands) e)) (mod-le p (frame_of cert.schedule));
    }
