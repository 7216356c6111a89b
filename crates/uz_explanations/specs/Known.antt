-- What an instruction reads, and what is known of it, in the words of a certificate.
use Rattle.std.specs.Prelude.{ℕ, ◌+◌, ◌*◌, ◌-◌, Bool, false, ◌&&◌, ◌||◌, if◌then◌else◌, List, [], ◌∷◌, ◌++◌, Option, Some, None}
use Rattle.std.specs.Prelude.{codes, decimal, drop, length, nat_eq, slice_index_or}
use Rattle.avr_table.specs.declared.Instr.{Instr}
use Rattle.uz_core.specs.Effects.{effect_of}
use Rattle.uz_core.specs.declared.machine.Operand.{Operand}
use Rattle.uz_core.specs.declared.machine.Operand.TheVariants.{Register, Constant}
use Rattle.uz_core.specs.declared.machine.BinaryOp.{BinaryOp}
use Rattle.uz_core.specs.declared.machine.BinaryOp.TheVariants.{Add, Subtract}
use Rattle.uz_core.specs.declared.machine.UnaryOp.{UnaryOp}
use Rattle.uz_core.specs.declared.machine.UnaryOp.TheVariants.{RotateRight}
use Rattle.uz_core.specs.declared.machine.AddressMode.{AddressMode}
use Rattle.uz_core.specs.declared.machine.AddressMode.TheVariants.{Direct, Displacement, PostIncrement, PreDecrement}
use Rattle.uz_core.specs.declared.machine.SkipTest.{SkipTest}
use Rattle.uz_core.specs.declared.machine.SkipTest.TheVariants.{Equal, RegisterBit, IoBit}
use Rattle.uz_core.specs.declared.machine.JumpTarget.{JumpTarget}
use Rattle.uz_core.specs.declared.machine.JumpTarget.TheVariants.{Indirect}
use Rattle.uz_core.specs.declared.machine.Effect.{Effect}
use Rattle.uz_core.specs.declared.machine.Effect.TheVariants.{CopyByte, CopyPair, Binary, Unary, AddToPair, Multiply, Load, Store, PushByte, PopByte}
use Rattle.uz_core.specs.declared.machine.Effect.TheVariants.{LoadProgram, LoadBit, StoreBit, Branch, SkipIf, Jump, Return}
use Rattle.uz_schedule.specs.Ends.{Ends}
use Rattle.uz_schedule.specs.declared.facts.Bit.{Bit}
use Rattle.uz_schedule.specs.declared.facts.Fact.{Fact}
use Rattle.uz_schedule.specs.declared.facts.Fact.TheVariants.{Between, Old as OldFact, OldFlags as OldFlagsFact}
use Rattle.uz_schedule.specs.declared.facts.PairFact.TheVariants.{Between as BetweenPair}
use Rattle.uz_schedule.specs.declared.facts.Val.{Val}
use Rattle.uz_schedule.specs.declared.facts.Val.TheVariants.{Range, Old, OldFlags}
use Rattle.uz_schedule.specs.declared.states.Instance.{Instance}
use Rattle.uz_cert_writer.specs.Spelling.{fact_word, pair_word, flag_word}
use Rattle.uz_explanations.specs.Pieces.{pieces}

-- Registers

abbrev pub is_operand : Operand → ℕ → Bool
is_operand (Register q) r = nat_eq q r
is_operand (Constant k) r = false

-- a pair is named by its low register
abbrev pub is_in_pair : ℕ → ℕ → Bool
is_in_pair d r = nat_eq d r || nat_eq (d + 1) r

abbrev pub is_pointer : AddressMode → ℕ → Bool
is_pointer (Direct at) r = false
is_pointer (Displacement p q) r = is_in_pair p r
is_pointer (PostIncrement p) r = is_in_pair p r
is_pointer (PreDecrement p) r = is_in_pair p r

abbrev pub is_tested : SkipTest → ℕ → Bool
is_tested (Equal d q) r = nat_eq d r || nat_eq q r
is_tested (RegisterBit q b set) r = nat_eq q r
is_tested (IoBit at b set) r = false

abbrev pub is_target : JumpTarget → ℕ → Bool
is_target Indirect r = is_in_pair 30 r
is_target target r = false

-- whether an effect depends on a register
abbrev pub reads_register : Effect → ℕ → Bool
reads_register (CopyByte d source) r = is_operand source r
reads_register (CopyPair d q) r = is_in_pair q r
reads_register (Binary op d source compare) r = nat_eq d r || is_operand source r
reads_register (Unary op d) r = nat_eq d r
reads_register (AddToPair d k subtract) r = is_in_pair d r
reads_register (Multiply d q d_signed q_signed shifted) r = nat_eq d r || nat_eq q r
reads_register (Load d from) r = is_pointer from r
reads_register (Store to q) r = is_pointer to r || nat_eq q r
reads_register (PushByte q) r = nat_eq q r
reads_register (LoadProgram d increment) r = is_in_pair 30 r
reads_register (LoadBit d b) r = nat_eq d r
reads_register (StoreBit d b) r = nat_eq d r
reads_register (SkipIf test) r = is_tested test r
reads_register (Jump target call) r = is_target target r
reads_register e r = false

-- whether it depends on both bytes of a pair
abbrev pub reads_pair : Effect → ℕ → Bool
reads_pair e d = reads_register e d && reads_register e (d + 1)

-- Flags, by their bits in the status register: 0 C, 1 Z, 2 N, 3 V, 4 S, 5 H, 6 T

-- with a carry it is C, and of a difference Z too, which may only be cleared
abbrev pub is_carried : BinaryOp → ℕ → Bool
is_carried (Add with_carry) b = with_carry && nat_eq b 0
is_carried (Subtract with_carry) b = with_carry && (nat_eq b 0 || nat_eq b 1)
is_carried op b = false

abbrev pub is_rotated : UnaryOp → ℕ → Bool
is_rotated RotateRight b = nat_eq b 0
is_rotated op b = false

-- the status register is at 0x5F
abbrev pub is_status : AddressMode → Bool
is_status (Direct at) = nat_eq at 0x5F
is_status mode = false

-- whether an effect depends on a flag
abbrev pub reads_flag : Effect → ℕ → Bool
reads_flag (Binary op d source compare) b = is_carried op b
reads_flag (Unary op d) b = is_rotated op b
reads_flag (Load d from) b = is_status from
reads_flag (LoadBit d k) b = nat_eq b 6
reads_flag (Branch flag set offset) b = nat_eq flag b
reads_flag e b = false

-- The stack: how many of its bytes an effect takes, from the last one pushed. RETI takes those of the interrupt entry, which aren't among
-- them
abbrev pub taken_slots : Effect → ℕ
taken_slots (PopByte d) = 1
taken_slots (Return false) = 2
taken_slots e = 0

-- Words

abbrev pub fact_of : Val → Fact
fact_of (Range e) = Between e
fact_of (Old r) = OldFact r
fact_of OldFlags = OldFlagsFact

abbrev pub val_word : Val → List ℕ
val_word v = fact_word (fact_of v)

-- an item behind a space, if it is read
abbrev pub item_if : Bool → List ℕ → List ℕ → List ℕ
item_if reads key value = if reads then codes " " ++ key ++ codes "=" ++ value else []

abbrev pub register_item : Effect → ℕ → Val → List ℕ
register_item e r v = item_if (reads_register e r) (codes "r" ++ decimal r) (val_word v)

-- X, Y and Z are the pairs of the registers 26, 28 and 30
abbrev pub pair_item : Effect → ℕ → Ends → List ℕ
pair_item e k range = item_if (reads_pair e (26 + 2 * k)) (slice_index_or (codes "xyz") k 0 ∷ []) (pair_word (BetweenPair range))

abbrev pub flag_item : Effect → ℕ → Bit → List ℕ
flag_item e b bit = item_if (reads_flag e b) (slice_index_or (codes "cznvsht") b 0 ∷ []) (flag_word bit)

abbrev pub slot_item : ℕ → Val → List ℕ
slot_item k v = codes " s:" ++ val_word v

-- the bytes of the stack that it takes, as far as there are so many
abbrev pub slots_of : Effect → List Val → List Val
slots_of e stack = drop (length stack - taken_slots e) stack

-- what is known of what an effect depends on: registers, pairs, flags, bytes of the stack
abbrev pub known_items : Effect → Instance → List ℕ
known_items e x =
    pieces (register_item e) 0 x.regs ++ pieces (pair_item e) 0 x.pairs ++ pieces (flag_item e) 0 x.flags
    ++ pieces slot_item 0 (slots_of e x.stack.items)

-- a line of items, if there are any
abbrev pub reads_line : List ℕ → List ℕ
reads_line [] = []
reads_line (c ∷ items) = codes "reads" ++ (c ∷ items) ++ codes "\n"

-- what is known of what an instruction depends on, as a line; nothing where the words are no instruction
unfoldable pub known_line : Option Instr → Instance → List ℕ
known_line None x = []
known_line (Some i) x = reads_line (known_items (effect_of i) x)
