-- The text of an instruction: its mnemonic in lower case, and its operands as the AVR Instruction Set
-- Manual writes them. Numbers are decimal. In this project's profile a relative target is written as a
-- number of bytes after the following instruction, .+n or .-n, and the target of JMP and CALL as a byte address.
use Rattle.std.specs.Prelude.{ℕ, ◌+◌, ◌-◌, ◌*◌, ◌^◌, if◌then◌else◌, List, [], ◌∷◌, ◌++◌, map, codes, decimal, nat_eq, nat_lt}
use Rattle.std.specs.Char.{to_ascii_lowercase}
use Rattle.avr_table.specs.declared.Instr.{Instr}
use Rattle.avr_table.specs.declared.Instr.TheVariants.{Add, Adc, Adiw, Sub, Subi, Sbc, Sbci, Sbiw, And, Andi, Or, Ori, Eor, Com, Neg, Inc}
use Rattle.avr_table.specs.declared.Instr.TheVariants.{Dec, Mul, Muls, Mulsu, Fmul, Fmuls, Fmulsu, Rjmp, Jmp, Rcall, Call, Cpse, Cp, Cpc}
use Rattle.avr_table.specs.declared.Instr.TheVariants.{Cpi, Sbrc, Sbrs, Sbic, Sbis, Brbs, Brbc, Mov, Movw, Ldi, LdX, LdXInc, LdXDec, LdYInc}
use Rattle.avr_table.specs.declared.Instr.TheVariants.{LdYDec, LdZInc, LdZDec, Ldd, Lds, StX, StXInc, StXDec, StYInc, StYDec, StZInc}
use Rattle.avr_table.specs.declared.Instr.TheVariants.{StZDec, Std, Sts, LpmZ, LpmZInc, In, Out, Push, Pop, Lsr, Ror, Asr, Swap, Bset, Bclr}
use Rattle.avr_table.specs.declared.Instr.TheVariants.{Sbi, Cbi, Bst, Bld}
use Rattle.avr_table.specs.Rows.{name_of}

abbrev pub register : ℕ → List ℕ
register n = codes "r" ++ decimal n

-- Y+q where y is 1, and else Z+q
abbrev pub displaced : ℕ → ℕ → List ℕ
displaced y q = (if nat_eq y 1 then codes "Y+" else codes "Z+") ++ decimal q

-- a number of words of so many bits, in two's complement, as a number of bytes
abbrev pub relative : ℕ → ℕ → List ℕ
relative bits k = if nat_lt k (2 ^ (bits - 1)) then codes ".+" ++ decimal (2 * k) else codes ".-" ++ decimal (2 * (2 ^ bits - k))

abbrev pub operands_of : Instr → List (List ℕ)
-- Arithmetic and logic
operands_of (Add d r) = register d.value ∷ register r.value ∷ []
operands_of (Adc d r) = register d.value ∷ register r.value ∷ []
operands_of (Adiw d k) = register (24 + 2 * d.value) ∷ decimal k.value ∷ []
operands_of (Sub d r) = register d.value ∷ register r.value ∷ []
operands_of (Subi d k) = register (16 + d.value) ∷ decimal k.value ∷ []
operands_of (Sbc d r) = register d.value ∷ register r.value ∷ []
operands_of (Sbci d k) = register (16 + d.value) ∷ decimal k.value ∷ []
operands_of (Sbiw d k) = register (24 + 2 * d.value) ∷ decimal k.value ∷ []
operands_of (And d r) = register d.value ∷ register r.value ∷ []
operands_of (Andi d k) = register (16 + d.value) ∷ decimal k.value ∷ []
operands_of (Or d r) = register d.value ∷ register r.value ∷ []
operands_of (Ori d k) = register (16 + d.value) ∷ decimal k.value ∷ []
operands_of (Eor d r) = register d.value ∷ register r.value ∷ []
operands_of (Com d) = register d.value ∷ []
operands_of (Neg d) = register d.value ∷ []
operands_of (Inc d) = register d.value ∷ []
operands_of (Dec d) = register d.value ∷ []
operands_of (Mul d r) = register d.value ∷ register r.value ∷ []
operands_of (Muls d r) = register (16 + d.value) ∷ register (16 + r.value) ∷ []
operands_of (Mulsu d r) = register (16 + d.value) ∷ register (16 + r.value) ∷ []
operands_of (Fmul d r) = register (16 + d.value) ∷ register (16 + r.value) ∷ []
operands_of (Fmuls d r) = register (16 + d.value) ∷ register (16 + r.value) ∷ []
operands_of (Fmulsu d r) = register (16 + d.value) ∷ register (16 + r.value) ∷ []
-- Branches
operands_of (Rjmp k) = relative 12 k.value ∷ []
operands_of (Jmp k) = decimal (2 * k.value) ∷ []
operands_of (Rcall k) = relative 12 k.value ∷ []
operands_of (Call k) = decimal (2 * k.value) ∷ []
operands_of (Cpse d r) = register d.value ∷ register r.value ∷ []
operands_of (Cp d r) = register d.value ∷ register r.value ∷ []
operands_of (Cpc d r) = register d.value ∷ register r.value ∷ []
operands_of (Cpi d k) = register (16 + d.value) ∷ decimal k.value ∷ []
operands_of (Sbrc r b) = register r.value ∷ decimal b.value ∷ []
operands_of (Sbrs r b) = register r.value ∷ decimal b.value ∷ []
operands_of (Sbic a b) = decimal a.value ∷ decimal b.value ∷ []
operands_of (Sbis a b) = decimal a.value ∷ decimal b.value ∷ []
operands_of (Brbs s k) = decimal s.value ∷ relative 7 k.value ∷ []
operands_of (Brbc s k) = decimal s.value ∷ relative 7 k.value ∷ []
-- Data transfer
operands_of (Mov d r) = register d.value ∷ register r.value ∷ []
operands_of (Movw d r) = register (2 * d.value) ∷ register (2 * r.value) ∷ []
operands_of (Ldi d k) = register (16 + d.value) ∷ decimal k.value ∷ []
operands_of (LdX d) = register d.value ∷ codes "X" ∷ []
operands_of (LdXInc d) = register d.value ∷ codes "X+" ∷ []
operands_of (LdXDec d) = register d.value ∷ codes "-X" ∷ []
operands_of (LdYInc d) = register d.value ∷ codes "Y+" ∷ []
operands_of (LdYDec d) = register d.value ∷ codes "-Y" ∷ []
operands_of (LdZInc d) = register d.value ∷ codes "Z+" ∷ []
operands_of (LdZDec d) = register d.value ∷ codes "-Z" ∷ []
operands_of (Ldd d y q) = register d.value ∷ displaced y.value q.value ∷ []
operands_of (Lds d k) = register d.value ∷ decimal k.value ∷ []
operands_of (StX r) = codes "X" ∷ register r.value ∷ []
operands_of (StXInc r) = codes "X+" ∷ register r.value ∷ []
operands_of (StXDec r) = codes "-X" ∷ register r.value ∷ []
operands_of (StYInc r) = codes "Y+" ∷ register r.value ∷ []
operands_of (StYDec r) = codes "-Y" ∷ register r.value ∷ []
operands_of (StZInc r) = codes "Z+" ∷ register r.value ∷ []
operands_of (StZDec r) = codes "-Z" ∷ register r.value ∷ []
operands_of (Std y q r) = displaced y.value q.value ∷ register r.value ∷ []
operands_of (Sts k r) = decimal k.value ∷ register r.value ∷ []
operands_of (LpmZ d) = register d.value ∷ codes "Z" ∷ []
operands_of (LpmZInc d) = register d.value ∷ codes "Z+" ∷ []
operands_of (In d a) = register d.value ∷ decimal a.value ∷ []
operands_of (Out a r) = decimal a.value ∷ register r.value ∷ []
operands_of (Push r) = register r.value ∷ []
operands_of (Pop d) = register d.value ∷ []
-- Bits and bit tests
operands_of (Lsr d) = register d.value ∷ []
operands_of (Ror d) = register d.value ∷ []
operands_of (Asr d) = register d.value ∷ []
operands_of (Swap d) = register d.value ∷ []
operands_of (Bset s) = decimal s.value ∷ []
operands_of (Bclr s) = decimal s.value ∷ []
operands_of (Sbi a b) = decimal a.value ∷ decimal b.value ∷ []
operands_of (Cbi a b) = decimal a.value ∷ decimal b.value ∷ []
operands_of (Bst d b) = register d.value ∷ decimal b.value ∷ []
operands_of (Bld d b) = register d.value ∷ decimal b.value ∷ []
-- all others have none
operands_of i = []

abbrev pub more : List (List ℕ) → List ℕ
more [] = []
more (x ∷ xs) = codes "," ++ x ++ more xs

-- operands stand after a space, with commas between them
abbrev pub joined : List (List ℕ) → List ℕ
joined [] = []
joined (x ∷ xs) = codes " " ++ x ++ more xs

-- The text of an instruction.
abbrev pub text_of : Instr → List ℕ
text_of i = map to_ascii_lowercase (codes (name_of i)) ++ joined (operands_of i)
