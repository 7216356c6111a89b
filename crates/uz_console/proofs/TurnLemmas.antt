-- A turn of the console, from its parts.
use Rattle.std.proofs.Common.{◌≡◌, ◌≢◌, ℕ, ◌+◌, ◌<◌, ◌≤◌, Bool, true, false, not, ◌&&◌, ◌||◌, if◌then◌else◌, nat_le, List, refl, sym, ◌∙◌}
use Rattle.std.proofs.Common.{ap, subst, inl, inr, lit<, lit≤, arith, [], ◌∷◌, ◌++◌, length}
use Rattle.std.specs.Prelude.{◌==◌}
use Rattle.std.specs.Ordering.{nat_cmp}
use Rattle.std.specs.FinMap.{FinMap}
use Rattle.std.proofs.lemmas.Bool.Decides.{nat_tests}
use Rattle.avr_table.specs.declared.Instr.{Instr}
use Rattle.avr_table.specs.declared.Outcome.{Outcome}
use Rattle.avr_table.specs.Rows.{words_of, clocks_of}
use Rattle.uz_core.specs.declared.machine.HeldStore.{HeldStore}
use Rattle.uz_core.specs.declared.machine.Edge.{Edge}
use Rattle.uz_schedule.specs.declared.kinds.Response.{Response}
use Rattle.uz_schedule.specs.declared.kinds.Response.TheVariants.{Four, Five}
use Rattle.uz_schedule.specs.Schedule.{response_clocks}
use Rattle.uz_core.specs.declared.machine.Effect.{Effect}
use Rattle.uz_core.specs.declared.machine.Effect.TheVariants.{Stop}
use Rattle.uz_core.specs.Arithmetic.{bit_is_set}
use Rattle.uz_core.specs.Timer.{is_due}
use Rattle.uz_core.specs.Run.{HasNoTurn}
use Rattle.uz_core.proofs.RowClocks.{stops, clocks_within}
use Rattle.uz_core.specs.Effects.{effect_of}
use Rattle.uz_core.specs.Core.{Core, step_result, outcome_of, loaded_bytes, sample_clock, load_addresses, is_core_address, core_byte}
use Rattle.uz_core.specs.PadLine.{PadHistory}
use Rattle.uz_core.specs.Space.{Space, history_wiring, space_after, space_loads, byte_at}
use Rattle.uz_core.specs.Turn.{State, state_byte, is_entry, after_entry, entry_edges, after_instruction, instruction_edges, IsEntryTurn}
use Rattle.uz_core.specs.Turn.{IsInstructionTurn}
use Rattle.uz_core.specs.Turn.{after_stores, all_edge_kinds, edges_at}
use Rattle.uz_core.specs.declared.machine.EdgeKind.TheVariants.{Leave}
use Rattle.uz_core.specs.Turn as machine
use Rattle.uz_core.proofs.LoadModels.{LoadAlike, ResultAlike, same_effect_result}
use Rattle.uz_core.proofs.Wirings.{SpaceAlike, TurnAlike, same_byte, turn_alike, with_space}
use Rattle.uz_core.specs.Steps.{IsInstruction, IsStep}
use Rattle.uz_core.specs.declared.step.Why.{Why}
use Rattle.uz_core.specs.declared.step.Why.TheVariants.{Opcode, Spm}
use Rattle.uz_core.specs.declared.step.Step.{Step}
use Rattle.uz_core.specs.declared.step.Step.TheVariants as step
use Rattle.uz_pads.specs.declared.pads.Pads.{Pads}
use Rattle.uz_pads.specs.Pads.{pads_wiring, StandsFor}
use Rattle.uz_ports.proofs.PadBytes.{pads_alike}
use Rattle.uz_ports.specs.Boards.{BoardContent, board_loads, content_of, entry_edge}
use Rattle.uz_console.specs.declared.console.Console.{Console}
use Rattle.uz_console.specs.Consoles as console
use Rattle.uz_console.specs.Consoles.{state_of}
use Rattle.uz_console.specs.declared.turn.Made.{Made}
use Rattle.uz_console.specs.declared.turn.Made.TheVariants as made
use Rattle.uz_console.specs.Turns.{IsBoardStep, StopsAt, Halts, IsMade, TakesTime, IsInstructed, IsPassed, PassedTakesTime, stop_in}

-- A step over the board is a step over its data space

-- the space of a content, and the rest as it was
abbrev Same : BoardContent → BoardContent → Space Pads → Type 0
Same first c space = (c.space ≡ space) × (c.entered ≡ first.entered) × (c.clock ≡ first.clock)

board_alike : (first : BoardContent) → LoadAlike board_loads (space_loads pads_wiring) (Same first)
board_alike first = record {
  same = λ c space at late r. ap (λ x. (space_loads pads_wiring).byte x at late) r.0;
  kept = λ c space at late r. (ap (λ x. (space_loads pads_wiring).content_after x at late) r.0, r.1, r.2);
}

same_result : (image : FinMap nat_cmp ℕ) (s : Core) (c : BoardContent) (i : Instr) → ResultAlike (Same c)
    (step_result board_loads image i s c) (step_result (space_loads pads_wiring) image i s c.space)
same_result image s c i = same_effect_result board_loads (space_loads pads_wiring) (Same c) (board_alike c) image (effect_of i) (words_of i)
    (clocks_of i) s c c.space (refl, refl, refl)

pub board_step : (image : FinMap nat_cmp ℕ) (s : Core) (c : BoardContent) (s' : Core) (c' : BoardContent) (stores : List HeldStore)
    (answer : Step) → IsStep board_loads image s c s' c' stores answer → IsBoardStep image s c s' c' stores answer
board_step image s c s' c' stores (step.Took clocks owed returned) h =
    let i = h.0 in
    let r = h.3 in
    let same : ResultAlike (Same c) (step_result board_loads image i s c) (step_result (space_loads pads_wiring) image i s c.space) =
    same_result image s c i in
    let took : step.Took clocks owed returned ≡ step.Took (step_result board_loads image i s c).clocks
    (step_result board_loads image i s c).owed (step_result board_loads image i s c).returned = r.3 in
    let clocks_are : clocks ≡ (step_result board_loads image i s c).clocks = cc in
    let owed_is : owed ≡ (step_result board_loads image i s c).owed = cc in
    let returned_is : returned ≡ (step_result board_loads image i s c).returned = cc in (
      i,
      h.1,
      h.2,
      (
        r.0 ∙ same.core,
        ap (λ x. x.space) r.1 ∙ same.content.0,
        ap (λ x. x.entered) r.1 ∙ same.content.1,
        ap (λ x. x.clock) r.1 ∙ same.content.2,
        r.2 ∙ same.stores,
        clocks_are ∙ same.clocks,
        owed_is ∙ same.owed,
        returned_is ∙ same.returned,
      ),
    )
board_step image s c s' c' stores (step.Stopped (Opcode word)) h = ((h.0, h.1), h.2, h.3, h.4)
board_step image s c s' c' stores (step.Stopped Spm) h = ((h.0, h.1, h.2), h.3, h.4, h.5)

-- The console's turn, over the board's pads, is the machine's

-- a state of the machine that one over the board's pads stands for, over the latter's parts
state_is : (t : State Pads) (s : State PadHistory) → console.StateStandsFor t s → s ≡ with_space t s.space
state_is t s h =
    let by : FinMap nat_cmp ℕ → Core → ℕ → Bool → ℕ → State PadHistory = λ image core response owed clock. record {
      image = image;
      core = core;
      space = s.space;
      response = response;
      is_owed = owed;
      clock = clock;
    } in
    ap (λ x. by x s.core s.response s.is_owed s.clock) h.image ∙
    (ap (λ x. by t.image x s.response s.is_owed s.clock) h.core ∙
    (ap (λ x. by t.image t.core x s.is_owed s.clock) h.response ∙
    (ap (λ x. by t.image t.core t.response x s.clock) h.is_owed ∙
    ap (λ x. by t.image t.core t.response t.is_owed x) h.clock)))

space_is : (t : State Pads) (s : State PadHistory) → console.StateStandsFor t s → SpaceAlike StandsFor t.space s.space
space_is t s h = record { bytes = sym h.bytes; timer = sym h.timer; pads = h.pads }

-- a turn of a state over the board's pads is one of each state that it stands for
pub carried_state : (old new : State Pads) (edges : List Edge) → machine.Turn pads_wiring old edges new → (s : State PadHistory)
    → console.StateStandsFor old s →
    (next : State PadHistory) × machine.Turn history_wiring s edges next × console.StateStandsFor new next
carried_state old new edges turn s h =
    let t : TurnAlike StandsFor history_wiring old s.space edges new = turn_alike pads_wiring history_wiring StandsFor
    pads_alike old s.space (space_is old s h) edges new turn in
    let next = with_space new t.after in (
      next,
      subst (λ x. machine.Turn history_wiring x edges next) (sym (state_is old s h)) t.turn,
      record {
        image = refl;
        core = refl;
        bytes = sym t.alike.bytes;
        timer = sym t.alike.timer;
        pads = t.alike.pads;
        response = refl;
        is_owed = refl;
        clock = refl;
      },
    )

-- and so is one of the console's own state
carried : (old new : Console) (edges : List Edge) → machine.Turn pads_wiring (state_of old) edges (state_of new) → (s : State PadHistory)
    → console.StandsFor old s →
    (next : State PadHistory) × machine.Turn history_wiring s edges next × console.StandsFor new next
carried old new edges turn = carried_state (state_of old) (state_of new) edges turn

-- a byte of the console's own state is one of each state that it stands for
pub byte_is : (c : Console) (s : State PadHistory) (at : ℕ) → console.StandsFor c s → state_byte pads_wiring (state_of c) at ≡ state_byte
    history_wiring s at
byte_is c s at h =
    ap (λ core. if is_core_address at then core_byte core at else byte_at pads_wiring (state_of c).space at) (sym h.core) ∙
    ap (λ x. if is_core_address at then core_byte s.core at else x) (same_byte pads_wiring history_wiring StandsFor pads_alike
    (state_of c).space s.space at (space_is (state_of c) s h))

pub entry_is : (c : Console) (s : State PadHistory) → console.StandsFor c s → is_entry s ≡ is_entry (state_of c)
entry_is c s h =
    ap (λ timer. is_due timer && bit_is_set s.core.sreg 7 && not s.is_owed) h.timer ∙
    (ap (λ core. is_due (state_of c).space.timer && bit_is_set core.sreg 7 && not s.is_owed) h.core ∙
    ap (λ owed. is_due (state_of c).space.timer && bit_is_set (state_of c).core.sreg 7 && not owed) h.is_owed)

-- An entry

pub entered : (old new : Console) (edges : List Edge) → is_entry (state_of old) ≡ true → state_of new ≡ after_entry pads_wiring
    (state_of old) → edges ≡ entry_edges pads_wiring (state_of old) →
    (s : State PadHistory) → console.StandsFor old s → (next : State PadHistory) × machine.Turn history_wiring s edges next
    × console.StandsFor new next
entered old new edges e goes emits = carried old new edges (inl (record { enters = e; goes_to = goes; emits = emits }))

-- an entry is an edge itself
pub entry_shows : (old : Console) (edges : List Edge) → edges ≡ entry_edges pads_wiring (state_of old) → edges ≢ []
entry_shows old edges emits none = absurd cc

four_or_five : (irq : Response) → (0 < response_clocks irq) × (response_clocks irq ≤ 5)
four_or_five Four = (lit< tt, lit≤ tt)
four_or_five Five = (lit< tt, lit≤ tt)

pub entered_time : (old new : Console) → state_of new ≡ after_entry pads_wiring (state_of old)
    → (console.clock_of old < console.clock_of new) × (console.clock_of new ≤ console.clock_of old + 5)
entered_time old new goes =
    let clock : console.clock_of new ≡ console.clock_of old + response_clocks old.irq = ap (λ s. s.clock) goes in
    let few = four_or_five old.irq in
    (omega arith, omega arith)

-- An instruction

-- its outcome
abbrev outcome_in : State Pads → Instr → Outcome
outcome_in s i = outcome_of (effect_of i) s.image (words_of i) (loaded_bytes (space_loads pads_wiring) s.core
    (sample_clock (effect_of i) (clocks_of i)) s.space (load_addresses (effect_of i) s.core)) s.core

no_turn : (s : State PadHistory) (why : Why) → is_entry s ≡ false → StopsAt s.image s.core why → HasNoTurn s
no_turn s why e stops edges next (inl turn) = let enters : is_entry s ≡ true = turn.enters in absurd cc
no_turn s (Opcode word) e stops edges next (inr turn) = stops.1 turn.row turn.reads
no_turn s Spm e stops edges next (inr turn) = turn.runs (ap effect_of (stops.1.only turn.row turn.reads) ∙ stops.2)

halts : (c : Console) (s : State PadHistory) (why : Why) → console.StandsFor c s → is_entry (state_of c) ≡ false
    → StopsAt (state_of c).image (state_of c).core why → Halts s why
halts c s why h e stops =
    let enters : is_entry s ≡ false = entry_is c s h ∙ e in
    let here : StopsAt s.image s.core why = subst (λ core. StopsAt s.image core why) (sym h.core)
    (subst (λ image. StopsAt image (state_of c).core why) (sym h.image) stops) in
    record { enters = enters; stops = here; no_turn = no_turn s why enters here }

pub instructed : (old new : Console) (edges : List Edge) (answer : Made) → is_entry (state_of old) ≡ false → IsInstructed (state_of old)
    (state_of new) edges answer → IsMade old new edges answer
instructed old new edges made.Quiet e h = carried old new []
    (inr (record { enters = e; row = h.0; reads = h.1.reads; runs = h.2; goes_to = h.3; emits = h.4 }))
instructed old new edges (made.Edge edge) e h = carried old new (edge ∷ [])
    (inr (record { enters = e; row = h.0; reads = h.1.reads; runs = h.2; goes_to = h.3; emits = h.4 }))
instructed old new edges made.Edges e h = carried old new edges
    (inr (record { enters = e; row = h.0; reads = h.1.reads; runs = h.2; goes_to = h.3; emits = h.4 }))
instructed old new edges (made.Stopped why) e h = (h.1, λ s stands. halts old s why stands e h.0)

-- the state of a console that keeps its image and its response
abbrev pub with_parts : Console → Core → Space Pads → Bool → ℕ → State Pads
with_parts console core space is_owed clock = record (state_of console) {
  core = core;
  space = space;
  is_owed = is_owed;
  clock = clock;
}

-- what an instruction makes of a state, by these edges
abbrev pub Instructs : Console → State Pads → List Edge → Type 0
Instructs old new edges =
    (i : Instr) × IsInstruction old.program old.cpu i × (effect_of i ≢ Stop) ×
    (new ≡ after_instruction pads_wiring i (state_of old)) × (edges ≡ instruction_edges pads_wiring i (state_of old))

-- a step over the board and then the turn's end
stepped : (old : Console) (core : Core) (content : BoardContent) (stores : List HeldStore) (clocks : ℕ) (owed returned : Bool)
    (space : Space Pads) (clock : ℕ) (edges : List Edge)
    → IsBoardStep old.program old.cpu (content_of old.board) core content stores (step.Took clocks owed returned)
    → space ≡ after_stores pads_wiring stores (space_after clocks content.space) → clock ≡ content.clock + clocks
    → edges ≡ edges_at (content.clock + clocks) (all_edge_kinds pads_wiring stores (space_after clocks content.space)
    ++ (if returned then Leave ∷ [] else []))
    → Instructs old (with_parts old core space owed clock) edges
stepped old core content stores clocks owed returned space clock edges h at_space at_clock shows =
    let i = h.0 in
    let e = h.3 in
    let ends : with_parts old core space owed clock
    ≡ with_parts old core (after_stores pads_wiring stores (space_after clocks content.space)) owed (content.clock + clocks) =
    λ j. with_parts old core (at_space j) owed (at_clock j) in
    let same : with_parts old core (after_stores pads_wiring stores (space_after clocks content.space)) owed (content.clock + clocks)
    ≡ after_instruction pads_wiring i (state_of old) =
    λ j. with_parts old (e.0 j) (after_stores pads_wiring (e.4 j) (space_after (e.5 j) (e.1 j))) (e.6 j) (e.3 j + e.5 j) in
    let same_edges : edges_at (content.clock + clocks) (all_edge_kinds pads_wiring stores (space_after clocks content.space)
    ++ (if returned then Leave ∷ [] else [])) ≡ instruction_edges pads_wiring i (state_of old) =
    λ j. edges_at (e.3 j + e.5 j) (all_edge_kinds pads_wiring (e.4 j) (space_after (e.5 j) (e.1 j))
    ++ (if e.7 j then Leave ∷ [] else [])) in
    (i, h.1, h.2, ends ∙ same, shows ∙ same_edges)

-- nothing is stored, and it is no RETI
pub stepped_quietly : (old : Console) (core : Core) (content : BoardContent) (stores : List HeldStore) (clocks : ℕ) (owed returned : Bool)
    (space : Space Pads) (clock : ℕ)
    → IsBoardStep old.program old.cpu (content_of old.board) core content stores (step.Took clocks owed returned)
    → stores ≡ [] → returned ≡ false → space ≡ space_after clocks content.space → clock ≡ content.clock + clocks
    → Instructs old (with_parts old core space owed clock) []
stepped_quietly old core content stores clocks owed returned space clock h none stays at_space at_clock =
    stepped old core content stores clocks owed returned space clock [] h
    (at_space ∙ ap (λ held. after_stores pads_wiring held (space_after clocks content.space)) (sym none)) at_clock
    (λ j. edges_at (content.clock + clocks) (all_edge_kinds pads_wiring (sym none j) (space_after clocks content.space)
    ++ (if sym stays j then Leave ∷ [] else [])))

-- the turn's end tells the edges, of which none is an entry's
pub finished : (old : Console) (core : Core) (content : BoardContent) (stores : List HeldStore) (clocks : ℕ) (owed returned : Bool)
    (space : Space Pads) (clock : ℕ) (edges : List Edge)
    → IsBoardStep old.program old.cpu (content_of old.board) core content stores (step.Took clocks owed returned)
    → space ≡ after_stores pads_wiring stores (space_after clocks content.space) → clock ≡ content.clock + clocks
    → edges ≡ entry_edge content.clock content.entered ++ edges_at (content.clock + clocks)
    (all_edge_kinds pads_wiring stores (space_after clocks content.space) ++ (if returned then Leave ∷ [] else []))
    → Instructs old (with_parts old core space owed clock) edges
finished old core content stores clocks owed returned space clock edges h at_space at_clock shows =
    stepped old core content stores clocks owed returned space clock edges h at_space at_clock
    (shows ∙ ap (λ entered. entry_edge content.clock entered ++ edges_at (content.clock + clocks)
    (all_edge_kinds pads_wiring stores (space_after clocks content.space) ++ (if returned then Leave ∷ [] else [])))
    (h.3.2 ∙ old.left))

-- and there are none
no_edges : (edges : List Edge) → true ≡ (length edges == 0) → edges ≡ []
no_edges [] e = refl
no_edges (edge ∷ edges) e = absurd (grind (arith, nat_tests))

pub without_edges : (old : Console) (new : State Pads) (edges : List Edge) → true ≡ (length edges == 0) → Instructs old new edges
    → Instructs old new []
without_edges old new edges none h = (h.0, h.1, h.2, h.3, sym (no_edges edges none) ∙ h.4)

-- a step that stops
pub stopped : (old : Console) (core : Core) (content : BoardContent) → core ≡ old.cpu → content ≡ content_of old.board
    → with_parts old core content.space old.owed content.clock ≡ state_of old
stopped old core content e f = λ j. with_parts old (e j) (f j).space old.owed (f j).clock

not_stop : (e : Effect) → e ≢ Stop → stops e ≡ false
not_stop Stop h = absurd (h refl)
not_stop e h = refl

some_clocks : (b : Bool) (n : ℕ) → b ≡ false → (b || (nat_le 1 n && nat_le n 4)) ≡ true → (0 < n) × (n ≤ 4)
some_clocks b n e h = (grind (arith, nat_tests), grind (arith, nat_tests))

later : (old new : Console) (i : Instr) → effect_of i ≢ Stop → state_of new ≡ after_instruction pads_wiring i (state_of old)
    → (console.clock_of old < console.clock_of new) × (console.clock_of new ≤ console.clock_of old + 5)
later old new i runs goes =
    let outcome = outcome_in (state_of old) i in
    let clock : console.clock_of new ≡ console.clock_of old + clocks_of i outcome = ap (λ s. s.clock) goes in
    let few : (0 < clocks_of i outcome) × (clocks_of i outcome ≤ 4) = some_clocks (stops (effect_of i)) (clocks_of i outcome)
    (not_stop (effect_of i) runs) (clocks_within i outcome) in
    (omega arith, omega arith)

pub instructed_time : (old new : Console) (edges : List Edge) (answer : Made) → IsInstructed (state_of old) (state_of new) edges answer
    → TakesTime old new answer
instructed_time old new edges made.Quiet h = later old new h.0 h.2 h.3
instructed_time old new edges (made.Edge edge) h = later old new h.0 h.2 h.3
instructed_time old new edges made.Edges h = later old new h.0 h.2 h.3
instructed_time old new edges (made.Stopped why) h = ap (λ s. s.clock) h.1

-- a turn whose edges are those of a list
pub same_edges : (old new : Console) (all edges : List Edge) → edges ≡ all →
    ((s : State PadHistory) → console.StandsFor old s → (next : State PadHistory) × machine.Turn history_wiring s all next
    × console.StandsFor new next) →
    (s : State PadHistory) → console.StandsFor old s → (next : State PadHistory) × machine.Turn history_wiring s edges next
    × console.StandsFor new next
same_edges old new all edges e turn s h = let t = turn s h in (t.0, subst (λ es. machine.Turn history_wiring s es t.0) (sym e) t.1, t.2)

-- a turn whose edges aren't told

pub passed : (old new : Console) (edges : List Edge) (answer : Made) → IsMade old new edges answer → IsPassed old new (stop_in answer)
passed old new edges made.Quiet h = λ s stands. let t = h s stands in ([], t.0, t.1, t.2)
passed old new edges (made.Edge edge) h = λ s stands. let t = h s stands in (edge ∷ [], t.0, t.1, t.2)
passed old new edges made.Edges h = λ s stands. let t = h s stands in (edges, t.0, t.1, t.2)
passed old new edges (made.Stopped why) h = h

pub passed_time : (old new : Console) (answer : Made) → TakesTime old new answer → PassedTakesTime old new (stop_in answer)
passed_time old new made.Quiet h = h
passed_time old new (made.Edge edge) h = h
passed_time old new made.Edges h = h
passed_time old new (made.Stopped why) h = h
