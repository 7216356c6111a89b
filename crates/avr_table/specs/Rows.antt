-- The instruction table, one line a row, in the order of the groups of the AVR Instruction Set Manual:
-- the mnemonic, the pattern as the manual prints it, and the field that each letter spells.
-- JMP and CALL: the manual's k has 22 places. This part has 32,768 words of flash, and in a row's k all
-- upper bits are 0, so the pattern has them as digits and k has 15 places.
use Rattle.std.specs.Prelude.{◌≡◌, ℕ, ◌+◌, ◌-◌, ◌*◌, ◌^◌, if◌then◌else◌, List, [], ◌∷◌, ◌++◌, length, replicate, IsTrue, nat_le}
use Rattle.std.specs.List.{AllByRecursion}
use Prim.Native.String.{String}
use Prim.Native.Char.{Char, code}
use Rattle.avr_table.specs.Pattern.{places, stands, spelled}
use Rattle.avr_table.specs.declared.Instr.{Instr}
use Rattle.avr_table.specs.declared.Instr.TheVariants.{Add, Adc, Adiw, Sub, Subi, Sbc, Sbci, Sbiw, And, Andi, Or, Ori, Eor, Com, Neg, Inc}
use Rattle.avr_table.specs.declared.Instr.TheVariants.{Dec, Mul, Muls, Mulsu, Fmul, Fmuls, Fmulsu, Rjmp, Ijmp, Jmp, Rcall, Icall, Call, Ret}
use Rattle.avr_table.specs.declared.Instr.TheVariants.{Reti, Cpse, Cp, Cpc, Cpi, Sbrc, Sbrs, Sbic, Sbis, Brbs, Brbc, Mov, Movw, Ldi, LdX}
use Rattle.avr_table.specs.declared.Instr.TheVariants.{LdXInc, LdXDec, LdYInc, LdYDec, LdZInc, LdZDec, Ldd, Lds, StX, StXInc, StXDec}
use Rattle.avr_table.specs.declared.Instr.TheVariants.{StYInc, StYDec, StZInc, StZDec, Std, Sts, Lpm, LpmZ, LpmZInc, Spm, In, Out, Push}
use Rattle.avr_table.specs.declared.Instr.TheVariants.{Pop, Lsr, Ror, Asr, Swap, Bset, Bclr, Sbi, Cbi, Bst, Bld, Break, Nop, Sleep, Wdr}
use Rattle.avr_table.specs.declared.Outcome.{Outcome}
use Rattle.avr_table.specs.declared.Outcome.TheVariants.{Taken, SkipOne, SkipTwo}

pub record Row : Type 0 where
  pub name : String
  pub pattern : String
  pub letters : List (Char × ℕ)

abbrev pub row : Instr → Row
-- Arithmetic and logic
row (Add d r) = record { name = "ADD"; pattern = "0000 11rd dddd rrrr"; letters = ("d", d.value) ∷ ("r", r.value) ∷ [] }
row (Adc d r) = record { name = "ADC"; pattern = "0001 11rd dddd rrrr"; letters = ("d", d.value) ∷ ("r", r.value) ∷ [] }
row (Adiw d k) = record { name = "ADIW"; pattern = "1001 0110 KKdd KKKK"; letters = ("d", d.value) ∷ ("K", k.value) ∷ [] }
row (Sub d r) = record { name = "SUB"; pattern = "0001 10rd dddd rrrr"; letters = ("d", d.value) ∷ ("r", r.value) ∷ [] }
row (Subi d k) = record { name = "SUBI"; pattern = "0101 KKKK dddd KKKK"; letters = ("d", d.value) ∷ ("K", k.value) ∷ [] }
row (Sbc d r) = record { name = "SBC"; pattern = "0000 10rd dddd rrrr"; letters = ("d", d.value) ∷ ("r", r.value) ∷ [] }
row (Sbci d k) = record { name = "SBCI"; pattern = "0100 KKKK dddd KKKK"; letters = ("d", d.value) ∷ ("K", k.value) ∷ [] }
row (Sbiw d k) = record { name = "SBIW"; pattern = "1001 0111 KKdd KKKK"; letters = ("d", d.value) ∷ ("K", k.value) ∷ [] }
row (And d r) = record { name = "AND"; pattern = "0010 00rd dddd rrrr"; letters = ("d", d.value) ∷ ("r", r.value) ∷ [] }
row (Andi d k) = record { name = "ANDI"; pattern = "0111 KKKK dddd KKKK"; letters = ("d", d.value) ∷ ("K", k.value) ∷ [] }
row (Or d r) = record { name = "OR"; pattern = "0010 10rd dddd rrrr"; letters = ("d", d.value) ∷ ("r", r.value) ∷ [] }
row (Ori d k) = record { name = "ORI"; pattern = "0110 KKKK dddd KKKK"; letters = ("d", d.value) ∷ ("K", k.value) ∷ [] }
row (Eor d r) = record { name = "EOR"; pattern = "0010 01rd dddd rrrr"; letters = ("d", d.value) ∷ ("r", r.value) ∷ [] }
row (Com d) = record { name = "COM"; pattern = "1001 010d dddd 0000"; letters = ("d", d.value) ∷ [] }
row (Neg d) = record { name = "NEG"; pattern = "1001 010d dddd 0001"; letters = ("d", d.value) ∷ [] }
row (Inc d) = record { name = "INC"; pattern = "1001 010d dddd 0011"; letters = ("d", d.value) ∷ [] }
row (Dec d) = record { name = "DEC"; pattern = "1001 010d dddd 1010"; letters = ("d", d.value) ∷ [] }
row (Mul d r) = record { name = "MUL"; pattern = "1001 11rd dddd rrrr"; letters = ("d", d.value) ∷ ("r", r.value) ∷ [] }
row (Muls d r) = record { name = "MULS"; pattern = "0000 0010 dddd rrrr"; letters = ("d", d.value) ∷ ("r", r.value) ∷ [] }
row (Mulsu d r) = record { name = "MULSU"; pattern = "0000 0011 0ddd 0rrr"; letters = ("d", d.value) ∷ ("r", r.value) ∷ [] }
row (Fmul d r) = record { name = "FMUL"; pattern = "0000 0011 0ddd 1rrr"; letters = ("d", d.value) ∷ ("r", r.value) ∷ [] }
row (Fmuls d r) = record { name = "FMULS"; pattern = "0000 0011 1ddd 0rrr"; letters = ("d", d.value) ∷ ("r", r.value) ∷ [] }
row (Fmulsu d r) = record { name = "FMULSU"; pattern = "0000 0011 1ddd 1rrr"; letters = ("d", d.value) ∷ ("r", r.value) ∷ [] }
-- Branches
row (Rjmp k) = record { name = "RJMP"; pattern = "1100 kkkk kkkk kkkk"; letters = ("k", k.value) ∷ [] }
row Ijmp = record { name = "IJMP"; pattern = "1001 0100 0000 1001"; letters = [] }
row (Jmp k) = record { name = "JMP"; pattern = "1001 0100 0000 1100 0kkk kkkk kkkk kkkk"; letters = ("k", k.value) ∷ [] }
row (Rcall k) = record { name = "RCALL"; pattern = "1101 kkkk kkkk kkkk"; letters = ("k", k.value) ∷ [] }
row Icall = record { name = "ICALL"; pattern = "1001 0101 0000 1001"; letters = [] }
row (Call k) = record { name = "CALL"; pattern = "1001 0100 0000 1110 0kkk kkkk kkkk kkkk"; letters = ("k", k.value) ∷ [] }
row Ret = record { name = "RET"; pattern = "1001 0101 0000 1000"; letters = [] }
row Reti = record { name = "RETI"; pattern = "1001 0101 0001 1000"; letters = [] }
row (Cpse d r) = record { name = "CPSE"; pattern = "0001 00rd dddd rrrr"; letters = ("d", d.value) ∷ ("r", r.value) ∷ [] }
row (Cp d r) = record { name = "CP"; pattern = "0001 01rd dddd rrrr"; letters = ("d", d.value) ∷ ("r", r.value) ∷ [] }
row (Cpc d r) = record { name = "CPC"; pattern = "0000 01rd dddd rrrr"; letters = ("d", d.value) ∷ ("r", r.value) ∷ [] }
row (Cpi d k) = record { name = "CPI"; pattern = "0011 KKKK dddd KKKK"; letters = ("d", d.value) ∷ ("K", k.value) ∷ [] }
row (Sbrc r b) = record { name = "SBRC"; pattern = "1111 110r rrrr 0bbb"; letters = ("r", r.value) ∷ ("b", b.value) ∷ [] }
row (Sbrs r b) = record { name = "SBRS"; pattern = "1111 111r rrrr 0bbb"; letters = ("r", r.value) ∷ ("b", b.value) ∷ [] }
row (Sbic a b) = record { name = "SBIC"; pattern = "1001 1001 AAAA Abbb"; letters = ("A", a.value) ∷ ("b", b.value) ∷ [] }
row (Sbis a b) = record { name = "SBIS"; pattern = "1001 1011 AAAA Abbb"; letters = ("A", a.value) ∷ ("b", b.value) ∷ [] }
row (Brbs s k) = record { name = "BRBS"; pattern = "1111 00kk kkkk ksss"; letters = ("s", s.value) ∷ ("k", k.value) ∷ [] }
row (Brbc s k) = record { name = "BRBC"; pattern = "1111 01kk kkkk ksss"; letters = ("s", s.value) ∷ ("k", k.value) ∷ [] }
-- Data transfer
row (Mov d r) = record { name = "MOV"; pattern = "0010 11rd dddd rrrr"; letters = ("d", d.value) ∷ ("r", r.value) ∷ [] }
row (Movw d r) = record { name = "MOVW"; pattern = "0000 0001 dddd rrrr"; letters = ("d", d.value) ∷ ("r", r.value) ∷ [] }
row (Ldi d k) = record { name = "LDI"; pattern = "1110 KKKK dddd KKKK"; letters = ("d", d.value) ∷ ("K", k.value) ∷ [] }
row (LdX d) = record { name = "LD"; pattern = "1001 000d dddd 1100"; letters = ("d", d.value) ∷ [] }
row (LdXInc d) = record { name = "LD"; pattern = "1001 000d dddd 1101"; letters = ("d", d.value) ∷ [] }
row (LdXDec d) = record { name = "LD"; pattern = "1001 000d dddd 1110"; letters = ("d", d.value) ∷ [] }
row (LdYInc d) = record { name = "LD"; pattern = "1001 000d dddd 1001"; letters = ("d", d.value) ∷ [] }
row (LdYDec d) = record { name = "LD"; pattern = "1001 000d dddd 1010"; letters = ("d", d.value) ∷ [] }
row (LdZInc d) = record { name = "LD"; pattern = "1001 000d dddd 0001"; letters = ("d", d.value) ∷ [] }
row (LdZDec d) = record { name = "LD"; pattern = "1001 000d dddd 0010"; letters = ("d", d.value) ∷ [] }
row (Ldd d y q) = record { name = "LDD"; pattern = "10q0 qq0d dddd yqqq"; letters = ("d", d.value) ∷ ("y", y.value) ∷ ("q", q.value) ∷ [] }
row (Lds d k) = record { name = "LDS"; pattern = "1001 000d dddd 0000 kkkk kkkk kkkk kkkk"; letters = ("d", d.value) ∷ ("k", k.value) ∷ [] }
row (StX r) = record { name = "ST"; pattern = "1001 001r rrrr 1100"; letters = ("r", r.value) ∷ [] }
row (StXInc r) = record { name = "ST"; pattern = "1001 001r rrrr 1101"; letters = ("r", r.value) ∷ [] }
row (StXDec r) = record { name = "ST"; pattern = "1001 001r rrrr 1110"; letters = ("r", r.value) ∷ [] }
row (StYInc r) = record { name = "ST"; pattern = "1001 001r rrrr 1001"; letters = ("r", r.value) ∷ [] }
row (StYDec r) = record { name = "ST"; pattern = "1001 001r rrrr 1010"; letters = ("r", r.value) ∷ [] }
row (StZInc r) = record { name = "ST"; pattern = "1001 001r rrrr 0001"; letters = ("r", r.value) ∷ [] }
row (StZDec r) = record { name = "ST"; pattern = "1001 001r rrrr 0010"; letters = ("r", r.value) ∷ [] }
row (Std y q r) = record { name = "STD"; pattern = "10q0 qq1r rrrr yqqq"; letters = ("y", y.value) ∷ ("q", q.value) ∷ ("r", r.value) ∷ [] }
row (Sts k r) = record { name = "STS"; pattern = "1001 001r rrrr 0000 kkkk kkkk kkkk kkkk"; letters = ("k", k.value) ∷ ("r", r.value) ∷ [] }
row Lpm = record { name = "LPM"; pattern = "1001 0101 1100 1000"; letters = [] }
row (LpmZ d) = record { name = "LPM"; pattern = "1001 000d dddd 0100"; letters = ("d", d.value) ∷ [] }
row (LpmZInc d) = record { name = "LPM"; pattern = "1001 000d dddd 0101"; letters = ("d", d.value) ∷ [] }
row Spm = record { name = "SPM"; pattern = "1001 0101 1110 1000"; letters = [] }
row (In d a) = record { name = "IN"; pattern = "1011 0AAd dddd AAAA"; letters = ("d", d.value) ∷ ("A", a.value) ∷ [] }
row (Out a r) = record { name = "OUT"; pattern = "1011 1AAr rrrr AAAA"; letters = ("A", a.value) ∷ ("r", r.value) ∷ [] }
row (Push r) = record { name = "PUSH"; pattern = "1001 001r rrrr 1111"; letters = ("r", r.value) ∷ [] }
row (Pop d) = record { name = "POP"; pattern = "1001 000d dddd 1111"; letters = ("d", d.value) ∷ [] }
-- Bits and bit tests
row (Lsr d) = record { name = "LSR"; pattern = "1001 010d dddd 0110"; letters = ("d", d.value) ∷ [] }
row (Ror d) = record { name = "ROR"; pattern = "1001 010d dddd 0111"; letters = ("d", d.value) ∷ [] }
row (Asr d) = record { name = "ASR"; pattern = "1001 010d dddd 0101"; letters = ("d", d.value) ∷ [] }
row (Swap d) = record { name = "SWAP"; pattern = "1001 010d dddd 0010"; letters = ("d", d.value) ∷ [] }
row (Bset s) = record { name = "BSET"; pattern = "1001 0100 0sss 1000"; letters = ("s", s.value) ∷ [] }
row (Bclr s) = record { name = "BCLR"; pattern = "1001 0100 1sss 1000"; letters = ("s", s.value) ∷ [] }
row (Sbi a b) = record { name = "SBI"; pattern = "1001 1010 AAAA Abbb"; letters = ("A", a.value) ∷ ("b", b.value) ∷ [] }
row (Cbi a b) = record { name = "CBI"; pattern = "1001 1000 AAAA Abbb"; letters = ("A", a.value) ∷ ("b", b.value) ∷ [] }
row (Bst d b) = record { name = "BST"; pattern = "1111 101d dddd 0bbb"; letters = ("d", d.value) ∷ ("b", b.value) ∷ [] }
row (Bld d b) = record { name = "BLD"; pattern = "1111 100d dddd 0bbb"; letters = ("d", d.value) ∷ ("b", b.value) ∷ [] }
-- Control
row Break = record { name = "BREAK"; pattern = "1001 0101 1001 1000"; letters = [] }
row Nop = record { name = "NOP"; pattern = "0000 0000 0000 0000"; letters = [] }
row Sleep = record { name = "SLEEP"; pattern = "1001 0101 1000 1000"; letters = [] }
row Wdr = record { name = "WDR"; pattern = "1001 0101 1010 1000"; letters = [] }

-- The clocks by outcome, for a 16-bit program counter. An outcome that the row can't have counts as Next.
-- SPM isn't run in this project's profile, and has none.
abbrev pub clocks_of : Instr → Outcome → ℕ
clocks_of (Adiw d k) outcome = 2
clocks_of (Sbiw d k) outcome = 2
clocks_of (Mul d r) outcome = 2
clocks_of (Muls d r) outcome = 2
clocks_of (Mulsu d r) outcome = 2
clocks_of (Fmul d r) outcome = 2
clocks_of (Fmuls d r) outcome = 2
clocks_of (Fmulsu d r) outcome = 2
clocks_of (Rjmp k) outcome = 2
clocks_of Ijmp outcome = 2
clocks_of (Jmp k) outcome = 3
clocks_of (Rcall k) outcome = 3
clocks_of Icall outcome = 3
clocks_of (Call k) outcome = 4
clocks_of Ret outcome = 4
clocks_of Reti outcome = 4
clocks_of (Cpse d r) SkipOne = 2
clocks_of (Cpse d r) SkipTwo = 3
clocks_of (Sbrc r b) SkipOne = 2
clocks_of (Sbrc r b) SkipTwo = 3
clocks_of (Sbrs r b) SkipOne = 2
clocks_of (Sbrs r b) SkipTwo = 3
clocks_of (Sbic a b) SkipOne = 2
clocks_of (Sbic a b) SkipTwo = 3
clocks_of (Sbis a b) SkipOne = 2
clocks_of (Sbis a b) SkipTwo = 3
clocks_of (Brbs s k) Taken = 2
clocks_of (Brbc s k) Taken = 2
clocks_of (LdX d) outcome = 2
clocks_of (LdXInc d) outcome = 2
clocks_of (LdXDec d) outcome = 2
clocks_of (LdYInc d) outcome = 2
clocks_of (LdYDec d) outcome = 2
clocks_of (LdZInc d) outcome = 2
clocks_of (LdZDec d) outcome = 2
clocks_of (Ldd d y q) outcome = 2
clocks_of (Lds d k) outcome = 2
clocks_of (StX r) outcome = 2
clocks_of (StXInc r) outcome = 2
clocks_of (StXDec r) outcome = 2
clocks_of (StYInc r) outcome = 2
clocks_of (StYDec r) outcome = 2
clocks_of (StZInc r) outcome = 2
clocks_of (StZDec r) outcome = 2
clocks_of (Std y q r) outcome = 2
clocks_of (Sts k r) outcome = 2
clocks_of Lpm outcome = 3
clocks_of (LpmZ d) outcome = 3
clocks_of (LpmZInc d) outcome = 3
clocks_of Spm outcome = 0
clocks_of (Push r) outcome = 2
clocks_of (Pop d) outcome = 2
clocks_of (Sbi a b) outcome = 2
clocks_of (Cbi a b) outcome = 2
-- all others
clocks_of i outcome = 1

abbrev pub name_of : Instr → String
name_of i = (row i).name

-- one word, or two where the pattern has more than 16 places
abbrev pub words_of : Instr → ℕ
words_of i = if nat_le (length (places (row i).pattern)) 16 then 1 else 2

-- A pattern over two words: a row of one word doesn't look at the second. 45 is a dash.
abbrev pub padded : List ℕ → List ℕ
padded pattern = pattern ++ replicate (32 - length pattern) 45

abbrev pub pattern_of : Instr → List ℕ
pattern_of i = padded (places (row i).pattern)

-- each letter spells its field's number
abbrev pub Spells : List ℕ → ℕ → List (Char × ℕ) → Type 0
Spells pattern n letters = AllByRecursion (λ x. x.1 ≡ spelled (code x.0) pattern n) letters

-- an instruction is read at two words, taken as one number of 32 bits
pub record ReadsAt (n : ℕ) (i : Instr) : Type 0 where
  pub fixed : IsTrue (stands (pattern_of i) n)
  pub letters : Spells (pattern_of i) n (row i).letters

-- An instruction is read at these two words.
abbrev pub Reads : ℕ → ℕ → Instr → Type 0
Reads first second i = ReadsAt (first * 2 ^ 16 + second) i
