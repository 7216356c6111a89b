-- A turn of the machine: one interrupt entry or one whole instruction (ATmega644 data sheet, "Reset and Interrupt Handling").
--
-- This project's profile: an entry takes 4 or 5 clocks, which the state says; a store acts at a turn's end, after
-- the timer's change of that clock; RETI and BSET 7 leave one instruction owed, which is run before an interrupt is taken.
use Rattle.std.specs.Prelude.{◌≡◌, ◌≢◌, ℕ, ◌+◌, ◌%◌, Bool, false, not, ◌&&◌, ◌||◌, ◌==◌, if◌then◌else◌, List, [], ◌∷◌, ◌++◌, filter, ◌⊎◌}
use Rattle.std.specs.Prelude.{IsTrue, IsFalse}
use Rattle.std.specs.Ordering.{nat_cmp}
use Rattle.std.specs.FinMap.{FinMap}
use Rattle.uz_hex.specs.Cells.{word_of}
use Rattle.avr_table.specs.declared.Instr.{Instr}
use Rattle.avr_table.specs.Rows.{Reads}
use Rattle.uz_core.specs.declared.machine.HeldStore.{HeldStore}
use Rattle.uz_core.specs.declared.machine.HeldStore.TheVariants.{Byte, Bit}
use Rattle.uz_core.specs.declared.machine.Edge.{Edge}
use Rattle.uz_core.specs.declared.machine.EdgeKind.{EdgeKind}
use Rattle.uz_core.specs.declared.machine.EdgeKind.TheVariants.{Sync, Pixel, Sound, Enter, Leave}
use Rattle.uz_core.specs.declared.machine.Effect.TheVariants.{Stop}
use Rattle.uz_core.specs.Addresses.{PORTB, PINC, PORTC, OCR2A}
use Rattle.uz_core.specs.Arithmetic.{bit_is_set}
use Rattle.uz_core.specs.Effects.{effect_of}
use Rattle.uz_core.specs.Core.{Core, reset_core, is_core_address, core_byte, StepResult, step_result, interrupted_core, pc_stores}
use Rattle.uz_core.specs.Core.{leaves_core}
use Rattle.uz_core.specs.Timer.{is_due}
use Rattle.uz_core.specs.PadLine.{PadHistory}
use Rattle.uz_core.specs.Space.{Space, PadWiring, plain_byte, byte_at, space_after, space_loads, after_store, is_store, space_taken}
use Rattle.uz_core.specs.Space.{space_at_reset}

-- A state: the flash, the core, the data space with the pads, how many clocks an entry takes, whether an
-- instruction is owed, and the clock, a number without limit
pub record State (P : Type 0) : Type 0 where
  pub image : FinMap nat_cmp ℕ
  pub core : Core
  pub space : Space P
  pub response : ℕ
  pub is_owed : Bool
  pub clock : ℕ

-- The state at reset. PORTA has had one value, 0
abbrev pub state_at_reset : {P : Type 0} → FinMap nat_cmp ℕ → P → ℕ → State P
state_at_reset image pads response =
    record { image = image; core = reset_core; space = space_at_reset pads; response = response; is_owed = false; clock = 0 }

abbrev pub history_at_reset : List (ℕ × ℕ) → PadHistory
history_at_reset pairs = record { pairs = pairs; levels = 0 ∷ [] }

-- The byte that a read of any data address would give, without its effect; the core's own addresses too
abbrev pub state_byte : {P : Type 0} → PadWiring P → State P → ℕ → ℕ
state_byte wiring s at = if is_core_address at then core_byte s.core at else byte_at wiring s.space at

-- Edges

abbrev pub address_of : HeldStore → ℕ
address_of (Byte at value) = at
address_of (Bit at bit set) = at

-- the sync level is PORTB bit 0
abbrev pub sync_level : {P : Type 0} → Space P → ℕ
sync_level space = plain_byte space PORTB % 2

-- The edges of one store, from one data space to the next: a sync edge is a change of the sync level, a pixel each
-- store to PORTC or PINC, with PORTC's value after it, and a sound each store to OCR2A
abbrev pub edge_kinds : {P : Type 0} → HeldStore → Space P → Space P → List EdgeKind
edge_kinds store old new =
    (if sync_level old == sync_level new then [] else Sync (sync_level new) ∷ []) ++
    (if is_store store && (address_of store == PORTC || address_of store == PINC) then Pixel (plain_byte new PORTC) ∷ [] else []) ++
    (if is_store store && address_of store == OCR2A then Sound (plain_byte new OCR2A) ∷ [] else [])

-- Stores in order, and their edges

abbrev pub after_stores : {P : Type 0} → PadWiring P → List HeldStore → Space P → Space P
after_stores wiring [] space = space
after_stores wiring (store ∷ stores) space = after_stores wiring stores (after_store wiring store space)

abbrev pub all_edge_kinds : {P : Type 0} → PadWiring P → List HeldStore → Space P → List EdgeKind
all_edge_kinds wiring [] space = []
all_edge_kinds wiring (store ∷ stores) space =
    edge_kinds store space (after_store wiring store space) ++ all_edge_kinds wiring stores (after_store wiring store space)

-- edges of one clock
abbrev pub edges_at : ℕ → List EdgeKind → List Edge
edges_at clock [] = []
edges_at clock (kind ∷ kinds) = record { clock = clock; kind = kind } ∷ edges_at clock kinds

-- A turn's end: so many clocks pass, then the stores act, in order
abbrev pub state_after : {P : Type 0} → PadWiring P → State P → Core → Space P → List HeldStore → ℕ → Bool → State P
state_after wiring s core space stores clocks is_owed =
    record s { core = core; space = after_stores wiring stores (space_after clocks space); is_owed = is_owed; clock = s.clock + clocks }

-- Interrupt entry

-- whether the turn is an entry: OCF1A, OCIE1A and I are set, and no instruction is owed
abbrev pub is_entry : {P : Type 0} → State P → Bool
is_entry s = is_due s.space.timer && bit_is_set s.core.sreg 7 && not s.is_owed

-- the stores of an entry: the pc is pushed. Those to the core's own addresses are made by the core
abbrev pub entry_stores : {P : Type 0} → State P → List HeldStore
entry_stores s = filter leaves_core (pc_stores s.core.pc s.core)

abbrev pub after_entry : {P : Type 0} → PadWiring P → State P → State P
after_entry wiring s = state_after wiring s (interrupted_core s.core) (space_taken s.space) (entry_stores s) s.response false

-- an entry is noted at the clock when it is taken, with TCNT1 then
abbrev pub entry_edges : {P : Type 0} → PadWiring P → State P → List Edge
entry_edges wiring s =
    record { clock = s.clock; kind = Enter s.space.timer.count } ∷
    edges_at (s.clock + s.response) (all_edge_kinds wiring (entry_stores s) (space_after s.response (space_taken s.space)))

-- One instruction

abbrev pub instruction_result : {P : Type 0} → PadWiring P → Instr → State P → StepResult (Space P)
instruction_result wiring i s = step_result (space_loads wiring) s.image i s.core s.space

abbrev pub after_instruction : {P : Type 0} → PadWiring P → Instr → State P → State P
after_instruction wiring i s = let d = instruction_result wiring i s in state_after wiring s d.core d.content d.stores d.clocks d.owed

-- a leave is the end of a RETI
abbrev pub instruction_edges : {P : Type 0} → PadWiring P → Instr → State P → List Edge
instruction_edges wiring i s =
    let d = instruction_result wiring i s in
    edges_at (s.clock + d.clocks) (all_edge_kinds wiring d.stores (space_after d.clocks d.content)
    ++ (if d.returned then Leave ∷ [] else []))

-- The turn

pub record IsEntryTurn {P : Type 0} (wiring : PadWiring P) (s : State P) (edges : List Edge) (next : State P) : Type 0 where
  pub enters : IsTrue (is_entry s)
  pub goes_to : next ≡ after_entry wiring s
  pub emits : edges ≡ entry_edges wiring s

pub record IsInstructionTurn {P : Type 0} (wiring : PadWiring P) (s : State P) (edges : List Edge) (next : State P) : Type 0 where
  pub enters : IsFalse (is_entry s)
  pub row : Instr
  pub reads : Reads (word_of s.image s.core.pc) (word_of s.image ((s.core.pc + 1) % 32768)) row
  pub runs : effect_of row ≢ Stop
  pub goes_to : next ≡ after_instruction wiring row s
  pub emits : edges ≡ instruction_edges wiring row s

-- from a state, by a turn with these edges, to the next state
abbrev pub Turn : {P : Type 0} → PadWiring P → State P → List Edge → State P → Type 0
Turn wiring s edges next = IsEntryTurn wiring s edges next ⊎ IsInstructionTurn wiring s edges next
