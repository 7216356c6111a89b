-- The instruction of a line: for each name the operands that it wants, and the row that it is with their numbers.
-- Source: AVR Instruction Set Manual, the operands and ranges of each instruction.
use Rattle.std.specs.Prelude.{ℕ, ℤ, pos, List, [], ◌∷◌, codes, Option, Some, None, Ok, Err, if◌then◌else◌}
use Prim.Native.Char.{code}
use Rattle.avr_table.specs.declared.Instr.{Instr}
use Rattle.avr_table.specs.declared.Instr.TheVariants as i
use Rattle.avr_text.specs.declared.tokens.Token.{Token}
use Rattle.avr_text.specs.declared.tokens.TokenKind.{TokenKind}
use Rattle.avr_text.specs.declared.tokens.TokenKind.TheVariants.{Name}
use Rattle.avr_text.specs.Reading.{is_mark_of}
use Rattle.avr_text.specs.Tokens.{text_of}
use Rattle.avr_text.specs.Words.{is_word_named}
use Rattle.avr_text.specs.declared.errors.AsmWhy.TheVariants.{Operand}
use Rattle.avr_text.specs.declared.pointers.Pointer.{Pointer}
use Rattle.avr_text.specs.declared.pointers.Pointer.TheVariants.{X, Y, Z}
use Rattle.avr_text.specs.declared.pointers.Step.{Step}
use Rattle.avr_text.specs.declared.pointers.Step.TheVariants.{Plain, Increment, Decrement}
use Rattle.avr_text.specs.declared.mnemonics.Mnemonic.{Mnemonic}
use Rattle.avr_text.specs.declared.mnemonics.Mnemonic.TheVariants as m
use Rattle.avr_text.specs.Arithmetic.{complement_of}
use Rattle.avr_text.specs.declared.instructions.OperandForms.{OperandForms}
use Rattle.avr_text.specs.declared.instructions.OperandForms.TheVariants.{Zero, One, Two, Load, Store, LoadDisplaced, StoreDisplaced}
use Rattle.avr_text.specs.declared.instructions.OperandForms.TheVariants.{ProgramMemory}
use Rattle.avr_text.specs.declared.operands.OperandForm.{OperandForm}
use Rattle.avr_text.specs.declared.operands.OperandForm.TheVariants.{Register, UpperRegister, MiddleRegister, Pair, UpperPair, Byte}
use Rattle.avr_text.specs.declared.operands.OperandForm.TheVariants.{SixBits}
use Rattle.avr_text.specs.declared.operands.OperandForm.TheVariants.{FiveBits, ThreeBits, Word, Relative7, Relative12, Absolute}
use Rattle.avr_text.specs.Faults.{OrFault}
use Rattle.avr_text.specs.Fields.{field}
use Rattle.avr_text.specs.Operands.{Operands, register, number, both, one_value, pair_of, two_values}

-- no operand
abbrev pub none_of : Instr → List (List Token) → OrFault Instr
none_of instr [] = Ok instr
none_of instr other = Err Operand

abbrev pub none : Instr → Operands → OrFault Instr
none instr o = none_of instr o.parts

abbrev pub mapped : {X : Type 0} → OrFault X → (X → Instr) → OrFault Instr
mapped (Ok x) f = Ok (f x)
mapped (Err why) f = Err why

-- one operand
abbrev pub one : OperandForm → Operands → (ℤ → Instr) → OrFault Instr
one form o f = mapped (one_value form o o.parts) f

-- two operands
abbrev pub two : OperandForm → OperandForm → Operands → (ℤ → ℤ → Instr) → OrFault Instr
two form other o f = mapped (two_values form other o (pair_of o.parts)) (λ p. f p.0 p.1)

-- the pointers, in either case
abbrev pub pointer_named : List ℕ → Option Pointer
pointer_named word =
    if is_word_named word (codes "x") then Some X
    else if is_word_named word (codes "y") then Some Y
    else if is_word_named word (codes "z") then Some Z
    else None

abbrev pub pointer_if : TokenKind → List ℕ → Option Pointer
pointer_if Name word = pointer_named word
pointer_if other word = None

-- the pointer that a token is
abbrev pub pointer_of : List ℕ → Token → Option Pointer
pointer_of line token = pointer_if token.kind (text_of line token)

abbrev pub stepped : Option Pointer → Step → Option (Pointer × Step)
stepped None step = None
stepped (Some pointer) step = Some (pointer, step)

-- a pointer, `X+` or `-X`
abbrev pub address_of : List ℕ → List Token → Option (Pointer × Step)
address_of line (t ∷ []) = stepped (pointer_of line t) Plain
address_of line (t ∷ u ∷ []) =
    if is_mark_of (code "+") u.kind then stepped (pointer_of line t) Increment
    else if is_mark_of (code "-") t.kind then stepped (pointer_of line u) Decrement
    else None
address_of line other = None

-- Y and Z take a displacement: bit y of the row is 1 for Y
abbrev pub base_of : Option Pointer → List Token → Option (ℤ × List Token)
base_of None rest = None
base_of (Some X) rest = None
base_of (Some Y) rest = Some (pos 1, rest)
base_of (Some Z) rest = Some (pos 0, rest)

-- `Y+q` or `Z+q`: its pointer, and the tokens of q
abbrev pub displaced_of : List ℕ → List Token → Option (ℤ × List Token)
displaced_of line (t ∷ u ∷ rest) = if is_mark_of (code "+") u.kind then base_of (pointer_of line t) rest else None
displaced_of line other = None

-- LD by its pointer: plain Y and Z are LDD with q = 0
abbrev pub load : ℤ → Pointer → Step → Instr
load d X Plain = i.LdX (field 5 d)
load d X Increment = i.LdXInc (field 5 d)
load d X Decrement = i.LdXDec (field 5 d)
load d Y Plain = i.Ldd (field 5 d) (field 1 (pos 1)) (field 6 (pos 0))
load d Y Increment = i.LdYInc (field 5 d)
load d Y Decrement = i.LdYDec (field 5 d)
load d Z Plain = i.Ldd (field 5 d) (field 1 (pos 0)) (field 6 (pos 0))
load d Z Increment = i.LdZInc (field 5 d)
load d Z Decrement = i.LdZDec (field 5 d)

-- ST in the same way
abbrev pub store : ℤ → Pointer → Step → Instr
store r X Plain = i.StX (field 5 r)
store r X Increment = i.StXInc (field 5 r)
store r X Decrement = i.StXDec (field 5 r)
store r Y Plain = i.Std (field 1 (pos 1)) (field 6 (pos 0)) (field 5 r)
store r Y Increment = i.StYInc (field 5 r)
store r Y Decrement = i.StYDec (field 5 r)
store r Z Plain = i.Std (field 1 (pos 0)) (field 6 (pos 0)) (field 5 r)
store r Z Increment = i.StZInc (field 5 r)
store r Z Decrement = i.StZDec (field 5 r)

abbrev pub at_address : OrFault ℤ → Option (Pointer × Step) → (ℤ → Pointer → Step → Instr) → OrFault Instr
at_address (Err why) address f = Err why
at_address (Ok x) None f = Err Operand
at_address (Ok x) (Some address) f = Ok (f x address.0 address.1)

abbrev pub loaded : List ℕ → Option (List Token × List Token) → OrFault Instr
loaded line None = Err Operand
loaded line (Some p) = at_address (register line p.0) (address_of line p.1) load

abbrev pub stored : List ℕ → Option (List Token × List Token) → OrFault Instr
stored line None = Err Operand
stored line (Some p) = at_address (register line p.1) (address_of line p.0) store

abbrev pub displaced : OrFault ℤ → Option (ℤ × List Token) → Operands → (ℤ → ℤ → ℤ → Instr) → OrFault Instr
displaced x None o f = Err Operand
displaced x (Some d) o f = mapped (both x (number (pos 0) (pos 63) o.line o.symbols d.1)) (λ p. f p.0 d.0 p.1)

abbrev pub loaded_displaced : Operands → Option (List Token × List Token) → OrFault Instr
loaded_displaced o None = Err Operand
loaded_displaced o (Some p) =
    displaced (register o.line p.0) (displaced_of o.line p.1) o (λ d y q. i.Ldd (field 5 d) (field 1 y) (field 6 q))

abbrev pub stored_displaced : Operands → Option (List Token × List Token) → OrFault Instr
stored_displaced o None = Err Operand
stored_displaced o (Some p) =
    displaced (register o.line p.1) (displaced_of o.line p.0) o (λ r y q. i.Std (field 1 y) (field 6 q) (field 5 r))

-- LPM: alone, or with a register and Z or Z+
abbrev pub program_row : ℤ → Option (Pointer × Step) → OrFault Instr
program_row d (Some (Z, Plain)) = Ok (i.LpmZ (field 5 d))
program_row d (Some (Z, Increment)) = Ok (i.LpmZInc (field 5 d))
program_row d address = Err Operand

abbrev pub from_program : OrFault ℤ → Option (Pointer × Step) → OrFault Instr
from_program (Err why) address = Err why
from_program (Ok d) address = program_row d address

abbrev pub loaded_from_program : List ℕ → Option (List Token × List Token) → OrFault Instr
loaded_from_program line None = Err Operand
loaded_from_program line (Some p) = from_program (register line p.0) (address_of line p.1)

abbrev pub program_memory : List ℕ → List (List Token) → OrFault Instr
program_memory line [] = Ok i.Lpm
program_memory line (first ∷ others) = loaded_from_program line (pair_of (first ∷ others))

-- what each name wants of its operands
abbrev pub forms_of : Mnemonic → OperandForms
forms_of m.Add = Two Register Register
forms_of m.Adc = Two Register Register
forms_of m.Adiw = Two UpperPair SixBits
forms_of m.Sub = Two Register Register
forms_of m.Subi = Two UpperRegister Byte
forms_of m.Sbc = Two Register Register
forms_of m.Sbci = Two UpperRegister Byte
forms_of m.Sbiw = Two UpperPair SixBits
forms_of m.And = Two Register Register
forms_of m.Andi = Two UpperRegister Byte
forms_of m.Or = Two Register Register
forms_of m.Ori = Two UpperRegister Byte
forms_of m.Eor = Two Register Register
forms_of m.Com = One Register
forms_of m.Neg = One Register
forms_of m.Inc = One Register
forms_of m.Dec = One Register
forms_of m.Mul = Two Register Register
forms_of m.Muls = Two UpperRegister UpperRegister
forms_of m.Mulsu = Two MiddleRegister MiddleRegister
forms_of m.Fmul = Two MiddleRegister MiddleRegister
forms_of m.Fmuls = Two MiddleRegister MiddleRegister
forms_of m.Fmulsu = Two MiddleRegister MiddleRegister
forms_of m.Rjmp = One Relative12
forms_of m.Ijmp = Zero
forms_of m.Jmp = One Absolute
forms_of m.Rcall = One Relative12
forms_of m.Icall = Zero
forms_of m.Call = One Absolute
forms_of m.Ret = Zero
forms_of m.Reti = Zero
forms_of m.Cpse = Two Register Register
forms_of m.Cp = Two Register Register
forms_of m.Cpc = Two Register Register
forms_of m.Cpi = Two UpperRegister Byte
forms_of m.Sbrc = Two Register ThreeBits
forms_of m.Sbrs = Two Register ThreeBits
forms_of m.Sbic = Two FiveBits ThreeBits
forms_of m.Sbis = Two FiveBits ThreeBits
forms_of m.Brbs = Two ThreeBits Relative7
forms_of m.Brbc = Two ThreeBits Relative7
forms_of m.Mov = Two Register Register
forms_of m.Movw = Two Pair Pair
forms_of m.Ldi = Two UpperRegister Byte
forms_of m.Ld = Load
forms_of m.Ldd = LoadDisplaced
forms_of m.Lds = Two Register Word
forms_of m.St = Store
forms_of m.Std = StoreDisplaced
forms_of m.Sts = Two Word Register
forms_of m.Lpm = ProgramMemory
forms_of m.Spm = Zero
forms_of m.In = Two Register SixBits
forms_of m.Out = Two SixBits Register
forms_of m.Push = One Register
forms_of m.Pop = One Register
forms_of m.Lsr = One Register
forms_of m.Ror = One Register
forms_of m.Asr = One Register
forms_of m.Swap = One Register
forms_of m.Bset = One ThreeBits
forms_of m.Bclr = One ThreeBits
forms_of m.Sbi = Two FiveBits ThreeBits
forms_of m.Cbi = Two FiveBits ThreeBits
forms_of m.Bst = Two Register ThreeBits
forms_of m.Bld = Two Register ThreeBits
forms_of m.Break = Zero
forms_of m.Nop = Zero
forms_of m.Sleep = Zero
forms_of m.Wdr = Zero
forms_of m.Lsl = One Register
forms_of m.Rol = One Register
forms_of m.Tst = One Register
forms_of m.Clr = One Register
forms_of m.Ser = One UpperRegister
forms_of m.Cbr = Two UpperRegister Byte
forms_of (m.SetFlag s) = Zero
forms_of (m.ClearFlag s) = Zero
forms_of (m.BranchIfSet s) = One Relative7
forms_of (m.BranchIfClear s) = One Relative7

-- each bit turned over, so that the low 8 are 255 less what they were
abbrev pub turned : ℤ → ℤ
turned y = complement_of y

-- the row that each name is, with the numbers of its operands. Rows by pointer have their own cases above
abbrev pub row_of : Mnemonic → ℤ → ℤ → Instr
row_of m.Add x y = i.Add (field 5 x) (field 5 y)
row_of m.Adc x y = i.Adc (field 5 x) (field 5 y)
row_of m.Adiw x y = i.Adiw (field 2 x) (field 6 y)
row_of m.Sub x y = i.Sub (field 5 x) (field 5 y)
row_of m.Subi x y = i.Subi (field 4 x) (field 8 y)
row_of m.Sbc x y = i.Sbc (field 5 x) (field 5 y)
row_of m.Sbci x y = i.Sbci (field 4 x) (field 8 y)
row_of m.Sbiw x y = i.Sbiw (field 2 x) (field 6 y)
row_of m.And x y = i.And (field 5 x) (field 5 y)
row_of m.Andi x y = i.Andi (field 4 x) (field 8 y)
row_of m.Or x y = i.Or (field 5 x) (field 5 y)
row_of m.Ori x y = i.Ori (field 4 x) (field 8 y)
row_of m.Eor x y = i.Eor (field 5 x) (field 5 y)
row_of m.Com x y = i.Com (field 5 x)
row_of m.Neg x y = i.Neg (field 5 x)
row_of m.Inc x y = i.Inc (field 5 x)
row_of m.Dec x y = i.Dec (field 5 x)
row_of m.Mul x y = i.Mul (field 5 x) (field 5 y)
row_of m.Muls x y = i.Muls (field 4 x) (field 4 y)
row_of m.Mulsu x y = i.Mulsu (field 3 x) (field 3 y)
row_of m.Fmul x y = i.Fmul (field 3 x) (field 3 y)
row_of m.Fmuls x y = i.Fmuls (field 3 x) (field 3 y)
row_of m.Fmulsu x y = i.Fmulsu (field 3 x) (field 3 y)
row_of m.Rjmp x y = i.Rjmp (field 12 x)
row_of m.Ijmp x y = i.Ijmp
row_of m.Jmp x y = i.Jmp (field 15 x)
row_of m.Rcall x y = i.Rcall (field 12 x)
row_of m.Icall x y = i.Icall
row_of m.Call x y = i.Call (field 15 x)
row_of m.Ret x y = i.Ret
row_of m.Reti x y = i.Reti
row_of m.Cpse x y = i.Cpse (field 5 x) (field 5 y)
row_of m.Cp x y = i.Cp (field 5 x) (field 5 y)
row_of m.Cpc x y = i.Cpc (field 5 x) (field 5 y)
row_of m.Cpi x y = i.Cpi (field 4 x) (field 8 y)
row_of m.Sbrc x y = i.Sbrc (field 5 x) (field 3 y)
row_of m.Sbrs x y = i.Sbrs (field 5 x) (field 3 y)
row_of m.Sbic x y = i.Sbic (field 5 x) (field 3 y)
row_of m.Sbis x y = i.Sbis (field 5 x) (field 3 y)
row_of m.Brbs x y = i.Brbs (field 3 x) (field 7 y)
row_of m.Brbc x y = i.Brbc (field 3 x) (field 7 y)
row_of m.Mov x y = i.Mov (field 5 x) (field 5 y)
row_of m.Movw x y = i.Movw (field 4 x) (field 4 y)
row_of m.Ldi x y = i.Ldi (field 4 x) (field 8 y)
row_of m.Ld x y = i.LdX (field 5 x)
row_of m.Ldd x y = i.Ldd (field 5 x) (field 1 (pos 0)) (field 6 y)
row_of m.Lds x y = i.Lds (field 5 x) (field 16 y)
row_of m.St x y = i.StX (field 5 x)
row_of m.Std x y = i.Std (field 1 (pos 0)) (field 6 x) (field 5 y)
row_of m.Sts x y = i.Sts (field 16 x) (field 5 y)
row_of m.Lpm x y = i.Lpm
row_of m.Spm x y = i.Spm
row_of m.In x y = i.In (field 5 x) (field 6 y)
row_of m.Out x y = i.Out (field 6 x) (field 5 y)
row_of m.Push x y = i.Push (field 5 x)
row_of m.Pop x y = i.Pop (field 5 x)
row_of m.Lsr x y = i.Lsr (field 5 x)
row_of m.Ror x y = i.Ror (field 5 x)
row_of m.Asr x y = i.Asr (field 5 x)
row_of m.Swap x y = i.Swap (field 5 x)
row_of m.Bset x y = i.Bset (field 3 x)
row_of m.Bclr x y = i.Bclr (field 3 x)
row_of m.Sbi x y = i.Sbi (field 5 x) (field 3 y)
row_of m.Cbi x y = i.Cbi (field 5 x) (field 3 y)
row_of m.Bst x y = i.Bst (field 5 x) (field 3 y)
row_of m.Bld x y = i.Bld (field 5 x) (field 3 y)
row_of m.Break x y = i.Break
row_of m.Nop x y = i.Nop
row_of m.Sleep x y = i.Sleep
row_of m.Wdr x y = i.Wdr
row_of m.Lsl x y = i.Add (field 5 x) (field 5 x)
row_of m.Rol x y = i.Adc (field 5 x) (field 5 x)
row_of m.Tst x y = i.And (field 5 x) (field 5 x)
row_of m.Clr x y = i.Eor (field 5 x) (field 5 x)
row_of m.Ser x y = i.Ldi (field 4 x) (field 8 (pos 255))
row_of m.Cbr x y = i.Andi (field 4 x) (field 8 (turned y))
row_of (m.SetFlag s) x y = i.Bset (field 3 (pos s))
row_of (m.ClearFlag s) x y = i.Bclr (field 3 (pos s))
row_of (m.BranchIfSet s) x y = i.Brbs (field 3 (pos s)) (field 7 x)
row_of (m.BranchIfClear s) x y = i.Brbc (field 3 (pos s)) (field 7 x)

-- the instruction of a name with its operands
abbrev pub by_forms : OperandForms → Mnemonic → Operands → OrFault Instr
by_forms Zero mnemonic o = none (row_of mnemonic (pos 0) (pos 0)) o
by_forms (One form) mnemonic o = one form o (λ x. row_of mnemonic x (pos 0))
by_forms (Two form other) mnemonic o = two form other o (row_of mnemonic)
by_forms Load mnemonic o = loaded o.line (pair_of o.parts)
by_forms Store mnemonic o = stored o.line (pair_of o.parts)
by_forms LoadDisplaced mnemonic o = loaded_displaced o (pair_of o.parts)
by_forms StoreDisplaced mnemonic o = stored_displaced o (pair_of o.parts)
by_forms ProgramMemory mnemonic o = program_memory o.line o.parts

unfoldable pub instruction_of : Mnemonic → Operands → OrFault Instr
instruction_of mnemonic o = by_forms (forms_of mnemonic) mnemonic o
