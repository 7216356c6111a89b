-- The place of each row in the table, and the mnemonics in that order.
use Rattle.std.specs.Prelude.{ℕ, List, [], ◌∷◌}
use Prim.Native.String.{String}
use Rattle.avr_table.specs.declared.Instr.{Instr}
use Rattle.avr_table.specs.declared.Instr.TheVariants.{Add, Adc, Adiw, Sub, Subi, Sbc, Sbci, Sbiw, And, Andi, Or, Ori, Eor, Com, Neg, Inc}
use Rattle.avr_table.specs.declared.Instr.TheVariants.{Dec, Mul, Muls, Mulsu, Fmul, Fmuls, Fmulsu, Rjmp, Ijmp, Jmp, Rcall, Icall, Call, Ret}
use Rattle.avr_table.specs.declared.Instr.TheVariants.{Reti, Cpse, Cp, Cpc, Cpi, Sbrc, Sbrs, Sbic, Sbis, Brbs, Brbc, Mov, Movw, Ldi, LdX}
use Rattle.avr_table.specs.declared.Instr.TheVariants.{LdXInc, LdXDec, LdYInc, LdYDec, LdZInc, LdZDec, Ldd, Lds, StX, StXInc, StXDec}
use Rattle.avr_table.specs.declared.Instr.TheVariants.{StYInc, StYDec, StZInc, StZDec, Std, Sts, Lpm, LpmZ, LpmZInc, Spm, In, Out, Push}
use Rattle.avr_table.specs.declared.Instr.TheVariants.{Pop, Lsr, Ror, Asr, Swap, Bset, Bclr, Sbi, Cbi, Bst, Bld, Break, Nop, Sleep, Wdr}

abbrev pub place_of : Instr → ℕ
place_of (Add d r) = 0
place_of (Adc d r) = 1
place_of (Adiw d k) = 2
place_of (Sub d r) = 3
place_of (Subi d k) = 4
place_of (Sbc d r) = 5
place_of (Sbci d k) = 6
place_of (Sbiw d k) = 7
place_of (And d r) = 8
place_of (Andi d k) = 9
place_of (Or d r) = 10
place_of (Ori d k) = 11
place_of (Eor d r) = 12
place_of (Com d) = 13
place_of (Neg d) = 14
place_of (Inc d) = 15
place_of (Dec d) = 16
place_of (Mul d r) = 17
place_of (Muls d r) = 18
place_of (Mulsu d r) = 19
place_of (Fmul d r) = 20
place_of (Fmuls d r) = 21
place_of (Fmulsu d r) = 22
place_of (Rjmp k) = 23
place_of Ijmp = 24
place_of (Jmp k) = 25
place_of (Rcall k) = 26
place_of Icall = 27
place_of (Call k) = 28
place_of Ret = 29
place_of Reti = 30
place_of (Cpse d r) = 31
place_of (Cp d r) = 32
place_of (Cpc d r) = 33
place_of (Cpi d k) = 34
place_of (Sbrc r b) = 35
place_of (Sbrs r b) = 36
place_of (Sbic a b) = 37
place_of (Sbis a b) = 38
place_of (Brbs s k) = 39
place_of (Brbc s k) = 40
place_of (Mov d r) = 41
place_of (Movw d r) = 42
place_of (Ldi d k) = 43
place_of (LdX d) = 44
place_of (LdXInc d) = 45
place_of (LdXDec d) = 46
place_of (LdYInc d) = 47
place_of (LdYDec d) = 48
place_of (LdZInc d) = 49
place_of (LdZDec d) = 50
place_of (Ldd d y q) = 51
place_of (Lds d k) = 52
place_of (StX r) = 53
place_of (StXInc r) = 54
place_of (StXDec r) = 55
place_of (StYInc r) = 56
place_of (StYDec r) = 57
place_of (StZInc r) = 58
place_of (StZDec r) = 59
place_of (Std y q r) = 60
place_of (Sts k r) = 61
place_of Lpm = 62
place_of (LpmZ d) = 63
place_of (LpmZInc d) = 64
place_of Spm = 65
place_of (In d a) = 66
place_of (Out a r) = 67
place_of (Push r) = 68
place_of (Pop d) = 69
place_of (Lsr d) = 70
place_of (Ror d) = 71
place_of (Asr d) = 72
place_of (Swap d) = 73
place_of (Bset s) = 74
place_of (Bclr s) = 75
place_of (Sbi a b) = 76
place_of (Cbi a b) = 77
place_of (Bst d b) = 78
place_of (Bld d b) = 79
place_of Break = 80
place_of Nop = 81
place_of Sleep = 82
place_of Wdr = 83

abbrev pub names : List String
names =
    "ADD" ∷ "ADC" ∷ "ADIW" ∷ "SUB" ∷ "SUBI" ∷ "SBC" ∷ "SBCI" ∷ "SBIW" ∷ "AND" ∷ "ANDI" ∷ "OR" ∷ "ORI" ∷ "EOR" ∷ "COM" ∷ "NEG" ∷ "INC"
    ∷ "DEC" ∷ "MUL" ∷ "MULS" ∷ "MULSU" ∷ "FMUL" ∷ "FMULS" ∷ "FMULSU" ∷ "RJMP" ∷ "IJMP" ∷ "JMP" ∷ "RCALL" ∷ "ICALL" ∷ "CALL" ∷ "RET" ∷
    "RETI" ∷ "CPSE" ∷ "CP" ∷ "CPC" ∷ "CPI" ∷ "SBRC" ∷ "SBRS" ∷ "SBIC" ∷ "SBIS" ∷ "BRBS" ∷ "BRBC" ∷ "MOV" ∷ "MOVW" ∷ "LDI" ∷ "LD" ∷
    "LD" ∷ "LD" ∷ "LD" ∷ "LD" ∷ "LD" ∷ "LD" ∷ "LDD" ∷ "LDS" ∷ "ST" ∷ "ST" ∷ "ST" ∷ "ST" ∷ "ST" ∷ "ST" ∷ "ST" ∷ "STD" ∷ "STS" ∷ "LPM" ∷
    "LPM" ∷ "LPM" ∷ "SPM" ∷ "IN" ∷ "OUT" ∷ "PUSH" ∷ "POP" ∷ "LSR" ∷ "ROR" ∷ "ASR" ∷ "SWAP" ∷ "BSET" ∷ "BCLR" ∷ "SBI" ∷ "CBI" ∷ "BST" ∷
    "BLD" ∷ "BREAK" ∷ "NOP" ∷ "SLEEP" ∷ "WDR" ∷ []
