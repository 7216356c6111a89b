-- What a console's turn does.
use Rattle.std.specs.Prelude.{◌≡◌, ◌≢◌, ℕ, ◌+◌, ◌<◌, ◌≤◌, List, [], ◌∷◌, IsFalse, Option, None, Some}
use Rattle.std.specs.Ordering.{nat_cmp}
use Rattle.std.specs.FinMap.{FinMap}
use Rattle.uz_hex.specs.Cells.{word_of}
use Rattle.avr_table.specs.declared.Instr.{Instr}
use Rattle.uz_core.specs.declared.machine.HeldStore.{HeldStore}
use Rattle.uz_core.specs.declared.machine.Edge.{Edge}
use Rattle.uz_core.specs.declared.machine.Effect.TheVariants.{Stop}
use Rattle.uz_core.specs.Core.{Core, step_result}
use Rattle.uz_core.specs.Effects.{effect_of}
use Rattle.uz_core.specs.PadLine.{PadHistory}
use Rattle.uz_core.specs.Space.{history_wiring, space_loads}
use Rattle.uz_core.specs.Turn.{State, is_entry, after_instruction, instruction_edges}
use Rattle.uz_core.specs.Turn as machine
use Rattle.uz_core.specs.Run.{HasNoTurn}
use Rattle.uz_core.specs.Steps.{ReadsHere, IsInstruction}
use Rattle.uz_core.specs.declared.step.Why.{Why}
use Rattle.uz_core.specs.declared.step.Why.TheVariants.{Opcode, Spm}
use Rattle.uz_core.specs.declared.step.Step.{Step}
use Rattle.uz_core.specs.declared.step.Step.TheVariants as step
use Rattle.uz_pads.specs.declared.pads.Pads.{Pads}
use Rattle.uz_pads.specs.Pads.{pads_wiring}
use Rattle.uz_ports.specs.Boards.{BoardContent}
use Rattle.uz_console.specs.declared.console.Console.{Console}
use Rattle.uz_console.specs.declared.turn.Turn.{Turn}
use Rattle.uz_console.specs.declared.turn.Turn.TheVariants.{Took, Stopped}
use Rattle.uz_console.specs.declared.turn.Made.{Made}
use Rattle.uz_console.specs.declared.turn.Made.TheVariants as made
use Rattle.uz_console.specs.Consoles.{StandsFor, state_of, clock_of}

-- why an instruction stops: no row reads the words at pc, of which the first is given; or they are SPM
abbrev pub StopsAt : FinMap nat_cmp ℕ → Core → Why → Type 0
StopsAt image core (Opcode word) = (word ≡ word_of image core.pc) × ((i : Instr) → ReadsHere image core i → ⊥)
StopsAt image core Spm = (i : Instr) × IsInstruction image core i × (effect_of i ≡ Stop)

-- A state that has no turn, and why: it doesn't enter the interrupt, and its instruction stops
pub record Halts (s : State PadHistory) (why : Why) : Type 0 where
  pub enters : IsFalse (is_entry s)
  pub stops : StopsAt s.image s.core why
  pub no_turn : HasNoTurn s

-- Took: for each state that the console stands for it is a turn with these edges, and the console then stands for the
-- state after it. Stopped: each such state has no turn, and the console is as before
abbrev pub IsTurn : Console → Console → Turn → Type 0
IsTurn old new (Took edges) =
    (s : State PadHistory) → StandsFor old s → (next : State PadHistory) × machine.Turn history_wiring s edges.items next × StandsFor new
    next
IsTurn old new (Stopped why) = (state_of new ≡ state_of old) × ((s : State PadHistory) → StandsFor old s → Halts s why)

-- a turn takes 1 to 5 clocks, and a console that stops stays
abbrev pub TurnTakesTime : Console → Console → Turn → Type 0
TurnTakesTime old new (Took edges) = (clock_of old < clock_of new) × (clock_of new ≤ clock_of old + 5)
TurnTakesTime old new (Stopped why) = clock_of new ≡ clock_of old

-- The same of a turn whose edges aren't told. None: it is made. Some: there is none
abbrev pub IsPassed : Console → Console → Option Why → Type 0
IsPassed old new None =
    (s : State PadHistory) → StandsFor old s → (edges : List Edge) × (next : State PadHistory) × machine.Turn history_wiring s edges next
    × StandsFor new next
IsPassed old new (Some why) = (state_of new ≡ state_of old) × ((s : State PadHistory) → StandsFor old s → Halts s why)

abbrev pub PassedTakesTime : Console → Console → Option Why → Type 0
PassedTakesTime old new None = (clock_of old < clock_of new) × (clock_of new ≤ clock_of old + 5)
PassedTakesTime old new (Some why) = clock_of new ≡ clock_of old

-- Steps by the code, over the board's own pads. The edges are those of the caller's list, and count where the answer says so

-- core and board after a step, with the stores that it holds
abbrev pub IsBoardStep : FinMap nat_cmp ℕ → Core → BoardContent → Core → BoardContent → List HeldStore → Step → Type 0
IsBoardStep image s c s' c' stores (step.Took clocks owed returned) =
    (i : Instr) × IsInstruction image s i × (effect_of i ≢ Stop) ×
    (let r = step_result (space_loads pads_wiring) image i s c.space in
    (s' ≡ r.core) × (c'.space ≡ r.content) × (c'.entered ≡ c.entered) × (c'.clock ≡ c.clock) ×
    (stores ≡ r.stores) × (clocks ≡ r.clocks) × (owed ≡ r.owed) × (returned ≡ r.returned))
IsBoardStep image s c s' c' stores (step.Stopped why) = StopsAt image s why × (s' ≡ s) × (c' ≡ c) × (stores ≡ [])

abbrev pub IsInstructed : State Pads → State Pads → List Edge → Made → Type 0
IsInstructed old new edges made.Quiet =
    (i : Instr) × IsInstruction old.image old.core i × (effect_of i ≢ Stop) ×
    (new ≡ after_instruction pads_wiring i old) × ([] ≡ instruction_edges pads_wiring i old)
IsInstructed old new edges (made.Edge edge) =
    (i : Instr) × IsInstruction old.image old.core i × (effect_of i ≢ Stop) ×
    (new ≡ after_instruction pads_wiring i old) × (edge ∷ [] ≡ instruction_edges pads_wiring i old)
IsInstructed old new edges made.Edges =
    (i : Instr) × IsInstruction old.image old.core i × (effect_of i ≢ Stop) ×
    (new ≡ after_instruction pads_wiring i old) × (edges ≡ instruction_edges pads_wiring i old)
IsInstructed old new edges (made.Stopped why) = StopsAt old.image old.core why × (new ≡ old)

abbrev pub IsMade : Console → Console → List Edge → Made → Type 0
IsMade old new edges made.Quiet =
    (s : State PadHistory) → StandsFor old s → (next : State PadHistory) × machine.Turn history_wiring s [] next × StandsFor new next
IsMade old new edges (made.Edge edge) =
    (s : State PadHistory) → StandsFor old s → (next : State PadHistory) × machine.Turn history_wiring s (edge ∷ []) next × StandsFor new next
IsMade old new edges made.Edges =
    (s : State PadHistory) → StandsFor old s → (next : State PadHistory) × machine.Turn history_wiring s edges next × StandsFor new next
IsMade old new edges (made.Stopped why) = (state_of new ≡ state_of old) × ((s : State PadHistory) → StandsFor old s → Halts s why)

-- a list of edges has some
abbrev pub HasSome : List Edge → Made → Type 0
HasSome edges made.Quiet = Unit {0}
HasSome edges (made.Edge edge) = Unit {0}
HasSome edges made.Edges = edges ≢ []
HasSome edges (made.Stopped why) = Unit {0}

abbrev pub TakesTime : Console → Console → Made → Type 0
TakesTime old new made.Quiet = (clock_of old < clock_of new) × (clock_of new ≤ clock_of old + 5)
TakesTime old new (made.Edge edge) = (clock_of old < clock_of new) × (clock_of new ≤ clock_of old + 5)
TakesTime old new made.Edges = (clock_of old < clock_of new) × (clock_of new ≤ clock_of old + 5)
TakesTime old new (made.Stopped why) = clock_of new ≡ clock_of old

-- why there is no turn, where there is none
abbrev pub stop_in : Made → Option Why
stop_in made.Quiet = None
stop_in (made.Edge edge) = None
stop_in made.Edges = None
stop_in (made.Stopped why) = Some why
