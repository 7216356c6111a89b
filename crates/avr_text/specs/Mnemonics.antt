-- The names of instructions: the mnemonics of the instruction table, and the other names that the AVR Instruction Set
-- Manual has for some of its instructions. All are read in either case.
use Rattle.std.specs.Prelude.{ℕ, List, [], ◌∷◌, codes, Option, Some, None, if◌then◌else◌}
use Rattle.avr_text.specs.Words.{is_word_named}
use Rattle.avr_text.specs.declared.mnemonics.Mnemonic.{Mnemonic}
use Rattle.avr_text.specs.declared.mnemonics.Mnemonic.TheVariants.{Add, Adc, Adiw, Sub, Subi, Sbc, Sbci, Sbiw, And, Andi, Or, Ori, Eor}
use Rattle.avr_text.specs.declared.mnemonics.Mnemonic.TheVariants.{Com, Neg, Inc, Dec, Mul, Muls, Mulsu, Fmul, Fmuls, Fmulsu, Rjmp}
use Rattle.avr_text.specs.declared.mnemonics.Mnemonic.TheVariants.{Ijmp, Jmp, Rcall, Icall, Call, Ret, Reti, Cpse, Cp, Cpc, Cpi, Sbrc}
use Rattle.avr_text.specs.declared.mnemonics.Mnemonic.TheVariants.{Sbrs, Sbic, Sbis, Brbs, Brbc, Mov, Movw, Ldi, Ld, Ldd, Lds, St, Std}
use Rattle.avr_text.specs.declared.mnemonics.Mnemonic.TheVariants.{Sts, Lpm, Spm, In, Out, Push, Pop, Lsr, Ror, Asr, Swap, Bset, Bclr}
use Rattle.avr_text.specs.declared.mnemonics.Mnemonic.TheVariants.{Sbi, Cbi, Bst, Bld, Break, Nop, Sleep, Wdr, Lsl, Rol, Tst, Clr, Ser}
use Rattle.avr_text.specs.declared.mnemonics.Mnemonic.TheVariants.{Cbr, SetFlag, ClearFlag, BranchIfSet, BranchIfClear}

-- the first name that a word is
abbrev pub first_named : List ℕ → List (List ℕ × Mnemonic) → Option Mnemonic
first_named word [] = None
first_named word (n ∷ names) = if is_word_named word n.0 then Some n.1 else first_named word names

-- sums and differences
abbrev pub sum_name : List ℕ → Option Mnemonic
sum_name word = first_named word (
    (codes "add", Add) ∷
    (codes "adc", Adc) ∷
    (codes "adiw", Adiw) ∷
    (codes "sub", Sub) ∷
    (codes "subi", Subi) ∷
    (codes "sbc", Sbc) ∷
    (codes "sbci", Sbci) ∷
    (codes "sbiw", Sbiw) ∷
    [])

-- logic, and arithmetic of one register
abbrev pub logic_name : List ℕ → Option Mnemonic
logic_name word = first_named word (
    (codes "and", And) ∷
    (codes "andi", Andi) ∷
    (codes "or", Or) ∷
    (codes "ori", Ori) ∷
    (codes "eor", Eor) ∷
    (codes "com", Com) ∷
    (codes "neg", Neg) ∷
    (codes "inc", Inc) ∷
    (codes "dec", Dec) ∷
    [])

-- products
abbrev pub product_name : List ℕ → Option Mnemonic
product_name word = first_named word (
    (codes "mul", Mul) ∷
    (codes "muls", Muls) ∷
    (codes "mulsu", Mulsu) ∷
    (codes "fmul", Fmul) ∷
    (codes "fmuls", Fmuls) ∷
    (codes "fmulsu", Fmulsu) ∷
    [])

-- jumps, calls and returns
abbrev pub jump_name : List ℕ → Option Mnemonic
jump_name word = first_named word (
    (codes "rjmp", Rjmp) ∷
    (codes "ijmp", Ijmp) ∷
    (codes "jmp", Jmp) ∷
    (codes "rcall", Rcall) ∷
    (codes "icall", Icall) ∷
    (codes "call", Call) ∷
    (codes "ret", Ret) ∷
    (codes "reti", Reti) ∷
    [])

-- comparisons, skips and branches
abbrev pub branch_name : List ℕ → Option Mnemonic
branch_name word = first_named word (
    (codes "cpse", Cpse) ∷
    (codes "cp", Cp) ∷
    (codes "cpc", Cpc) ∷
    (codes "cpi", Cpi) ∷
    (codes "sbrc", Sbrc) ∷
    (codes "sbrs", Sbrs) ∷
    (codes "sbic", Sbic) ∷
    (codes "sbis", Sbis) ∷
    (codes "brbs", Brbs) ∷
    (codes "brbc", Brbc) ∷
    [])

-- data transfer
abbrev pub transfer_name : List ℕ → Option Mnemonic
transfer_name word = first_named word (
    (codes "mov", Mov) ∷
    (codes "movw", Movw) ∷
    (codes "ldi", Ldi) ∷
    (codes "ld", Ld) ∷
    (codes "ldd", Ldd) ∷
    (codes "lds", Lds) ∷
    (codes "st", St) ∷
    (codes "std", Std) ∷
    (codes "sts", Sts) ∷
    (codes "lpm", Lpm) ∷
    (codes "spm", Spm) ∷
    (codes "in", In) ∷
    (codes "out", Out) ∷
    (codes "push", Push) ∷
    (codes "pop", Pop) ∷
    [])

-- bits and control
abbrev pub bit_name : List ℕ → Option Mnemonic
bit_name word = first_named word (
    (codes "lsr", Lsr) ∷
    (codes "ror", Ror) ∷
    (codes "asr", Asr) ∷
    (codes "swap", Swap) ∷
    (codes "bset", Bset) ∷
    (codes "bclr", Bclr) ∷
    (codes "sbi", Sbi) ∷
    (codes "cbi", Cbi) ∷
    (codes "bst", Bst) ∷
    (codes "bld", Bld) ∷
    (codes "break", Break) ∷
    (codes "nop", Nop) ∷
    (codes "sleep", Sleep) ∷
    (codes "wdr", Wdr) ∷
    [])

-- the names that set a flag
abbrev pub set_name : List ℕ → Option Mnemonic
set_name word = first_named word (
    (codes "sec", (SetFlag 0)) ∷
    (codes "sez", (SetFlag 1)) ∷
    (codes "sen", (SetFlag 2)) ∷
    (codes "sev", (SetFlag 3)) ∷
    (codes "ses", (SetFlag 4)) ∷
    (codes "seh", (SetFlag 5)) ∷
    (codes "set", (SetFlag 6)) ∷
    (codes "sei", (SetFlag 7)) ∷
    [])

-- the names that clear a flag
abbrev pub clear_name : List ℕ → Option Mnemonic
clear_name word = first_named word (
    (codes "clc", (ClearFlag 0)) ∷
    (codes "clz", (ClearFlag 1)) ∷
    (codes "cln", (ClearFlag 2)) ∷
    (codes "clv", (ClearFlag 3)) ∷
    (codes "cls", (ClearFlag 4)) ∷
    (codes "clh", (ClearFlag 5)) ∷
    (codes "clt", (ClearFlag 6)) ∷
    (codes "cli", (ClearFlag 7)) ∷
    [])

-- the names that branch where a flag is set
abbrev pub branch_if_set_name : List ℕ → Option Mnemonic
branch_if_set_name word = first_named word (
    (codes "brcs", (BranchIfSet 0)) ∷
    (codes "breq", (BranchIfSet 1)) ∷
    (codes "brmi", (BranchIfSet 2)) ∷
    (codes "brvs", (BranchIfSet 3)) ∷
    (codes "brlt", (BranchIfSet 4)) ∷
    (codes "brhs", (BranchIfSet 5)) ∷
    (codes "brts", (BranchIfSet 6)) ∷
    (codes "brie", (BranchIfSet 7)) ∷
    (codes "brlo", (BranchIfSet 0)) ∷
    [])

-- the names that branch where a flag is clear
abbrev pub branch_if_clear_name : List ℕ → Option Mnemonic
branch_if_clear_name word = first_named word (
    (codes "brcc", (BranchIfClear 0)) ∷
    (codes "brne", (BranchIfClear 1)) ∷
    (codes "brpl", (BranchIfClear 2)) ∷
    (codes "brvc", (BranchIfClear 3)) ∷
    (codes "brge", (BranchIfClear 4)) ∷
    (codes "brhc", (BranchIfClear 5)) ∷
    (codes "brtc", (BranchIfClear 6)) ∷
    (codes "brid", (BranchIfClear 7)) ∷
    (codes "brsh", (BranchIfClear 0)) ∷
    [])

-- the other names of rows with registers
abbrev pub other_name : List ℕ → Option Mnemonic
other_name word = first_named word (
    (codes "lsl", Lsl) ∷
    (codes "rol", Rol) ∷
    (codes "tst", Tst) ∷
    (codes "clr", Clr) ∷
    (codes "ser", Ser) ∷
    (codes "sbr", Ori) ∷
    (codes "cbr", Cbr) ∷
    [])

-- the first that is there
abbrev pub or_else : Option Mnemonic → Option Mnemonic → Option Mnemonic
or_else None other = other
or_else (Some m) other = Some m

-- the instruction that a word names
abbrev pub mnemonic_of : List ℕ → Option Mnemonic
mnemonic_of word =
    or_else (sum_name word) (or_else (logic_name word) (or_else (product_name word) (or_else (jump_name word) (or_else (branch_name word)
    (or_else (transfer_name word) (or_else (bit_name word) (or_else (set_name word) (or_else (clear_name word)
    (or_else (branch_if_set_name word) (or_else (branch_if_clear_name word) (other_name word)))))))))))

-- how many words the instruction has
abbrev pub words_of : Mnemonic → ℕ
words_of Jmp = 2
words_of Call = 2
words_of Lds = 2
words_of Sts = 2
words_of other = 1
