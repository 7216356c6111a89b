-- At most one instruction is read at two words. Rows are numbered, and any two of them fix some bit otherwise, which one test of
-- their masks shows. The row's number and the words give the instruction: its fields are what its letters spell.
use Rattle.std.proofs.Common.{◌≡◌, ℕ, zero, suc, ◌<◌, ◌^◌, ◌%◌, Bool, true, false, ◌&&◌, List, [], ◌∷◌, nat_eq, bit_and, refl, sym, ◌∙◌, ap}
use Rattle.std.proofs.Common.{subst, arith}
use Rattle.std.proofs.Math.Bridge.{le_prop}
use Rattle.std.proofs.Math.Nat.{mod-eq_of_lt}
use Rattle.std.proofs.lemmas.Bool.Decides.{nat_tests}
use Rattle.std.proofs.lemmas.Nat.{pow_pos, mod_below, and_assoc, and_comm}
use Rattle.std.specs.Int.Bits.{and_zero_r}
use Rattle.std.specs.Prelude.{not}
use Prim.Native.Char.{Char, code}
use Prim.Native.String.{String}
use Rattle.avr_table.proofs.PatternLemmas.{mask_of, value_of, mask_from_stands}
use Rattle.avr_table.specs.Pattern.{places, spelled}
use Rattle.avr_table.specs.Rows.{padded, pattern_of, ReadsAt}
use Rattle.avr_table.specs.declared.Field.{Field}
use Rattle.avr_table.specs.declared.Instr.{Instr}
use Rattle.avr_table.specs.declared.Instr.TheVariants.{Add, Adc, Adiw, Sub, Subi, Sbc, Sbci, Sbiw, And, Andi, Or, Ori, Eor, Com, Neg, Inc}
use Rattle.avr_table.specs.declared.Instr.TheVariants.{Dec, Mul, Muls, Mulsu, Fmul, Fmuls, Fmulsu, Rjmp, Ijmp, Jmp, Rcall, Icall, Call, Ret}
use Rattle.avr_table.specs.declared.Instr.TheVariants.{Reti, Cpse, Cp, Cpc, Cpi, Sbrc, Sbrs, Sbic, Sbis, Brbs, Brbc, Mov, Movw, Ldi, LdX}
use Rattle.avr_table.specs.declared.Instr.TheVariants.{LdXInc, LdXDec, LdYInc, LdYDec, LdZInc, LdZDec, Ldd, Lds, StX, StXInc, StXDec}
use Rattle.avr_table.specs.declared.Instr.TheVariants.{StYInc, StYDec, StZInc, StZDec, Std, Sts, Lpm, LpmZ, LpmZInc, Spm, In, Out, Push}
use Rattle.avr_table.specs.declared.Instr.TheVariants.{Pop, Lsr, Ror, Asr, Swap, Bset, Bclr, Sbi, Cbi, Bst, Bld, Break, Nop, Sleep, Wdr}

-- fields of one number are one
made : (b v : ℕ) → v < 2 ^ b → Field b
made b v p = record { value = v; in_range = p }

same_made : (b v w : ℕ) → v ≡ w → (p : v < 2 ^ b) (q : w < 2 ^ b) → made b v p ≡ made b w q
same_made b v w h p q = subst (λ x. (q : x < 2 ^ b) → made b v p ≡ made b x q) h (λ q. ap (made b v) (le_prop p q)) q

pub same_field : (b : ℕ) (f g : Field b) → f.value ≡ g.value → f ≡ g
unfolding made
same_field b f g h = same_made b f.value g.value h f.in_range g.in_range

-- a number's lowest bits as a field
abbrev taken : (b v : ℕ) → Field b
taken b v = record { value = v % 2 ^ b; in_range = mod_below v (2 ^ b) (pow_pos b) }

is_taken : {b v : ℕ} (f : Field b) → f.value ≡ v → f ≡ taken b v
is_taken {b} {v} f h = same_field b f (taken b v) (sym (mod-eq_of_lt f.in_range) ∙ ap (λ x. x % 2 ^ b) h)

one : {A C : Type 0} (make : A → C) {a a' : A} → a ≡ a' → make a ≡ make a'
one make e = ap make e

two : {A B C : Type 0} (make : A → B → C) {a a' : A} {b b' : B} → a ≡ a' → b ≡ b' → make a b ≡ make a' b'
two make {a} {a'} {b} {b'} e f = ap (λ x. make x b) e ∙ ap (make a') f

three : {A B C D : Type 0} (make : A → B → C → D) {a a' : A} {b b' : B} {c c' : C} → a ≡ a' → b ≡ b' → c ≡ c'
    → make a b c ≡ make a' b' c'
three make {a} {a'} {b} {b'} {c} {c'} e f g = ap (λ x. make x b c) e ∙ two (make a') f g

-- a row: its fixed bits, their values, and its instruction at two words
record Numbered : Type 0 where
  mask : ℕ
  value : ℕ
  make : ℕ → Instr

abbrev Fits : ℕ → Numbered → Type 0
Fits n r = bit_and n r.mask ≡ r.value

abbrev differ : Numbered → Numbered → Bool
differ r s = not (nat_eq (bit_and r.value s.mask) (bit_and s.value r.mask))

abbrev differs_from : Numbered → List Numbered → Bool
differs_from r [] = true
differs_from r (s ∷ rest) = differ r s && differs_from r rest

abbrev all_differ : List Numbered → Bool
all_differ [] = true
all_differ (r ∷ rest) = differs_from r rest && all_differ rest

-- past the last one, a row that no words fit
abbrev row_at : List Numbered → ℕ → Numbered
row_at [] k = record { mask = 0; value = 1; make = λ n. Nop }
row_at (r ∷ rest) zero = r
row_at (r ∷ rest) (suc k) = row_at rest k

abbrev numbered : ℕ → ℕ → String → ((Char → ℕ) → Instr) → Numbered
numbered mask value text make =
    record { mask = mask; value = value; make = λ n. make (λ c. spelled (code c) (padded (places text)) n) }

abbrev rows : List Numbered
rows =
    numbered 4227858432 201326592 "0000 11rd dddd rrrr" (λ s. Add (taken 5 (s "d")) (taken 5 (s "r"))) ∷
    numbered 4227858432 469762048 "0001 11rd dddd rrrr" (λ s. Adc (taken 5 (s "d")) (taken 5 (s "r"))) ∷
    numbered 4278190080 2516582400 "1001 0110 KKdd KKKK" (λ s. Adiw (taken 2 (s "d")) (taken 6 (s "K"))) ∷
    numbered 4227858432 402653184 "0001 10rd dddd rrrr" (λ s. Sub (taken 5 (s "d")) (taken 5 (s "r"))) ∷
    numbered 4026531840 1342177280 "0101 KKKK dddd KKKK" (λ s. Subi (taken 4 (s "d")) (taken 8 (s "K"))) ∷
    numbered 4227858432 134217728 "0000 10rd dddd rrrr" (λ s. Sbc (taken 5 (s "d")) (taken 5 (s "r"))) ∷
    numbered 4026531840 1073741824 "0100 KKKK dddd KKKK" (λ s. Sbci (taken 4 (s "d")) (taken 8 (s "K"))) ∷
    numbered 4278190080 2533359616 "1001 0111 KKdd KKKK" (λ s. Sbiw (taken 2 (s "d")) (taken 6 (s "K"))) ∷
    numbered 4227858432 536870912 "0010 00rd dddd rrrr" (λ s. And (taken 5 (s "d")) (taken 5 (s "r"))) ∷
    numbered 4026531840 1879048192 "0111 KKKK dddd KKKK" (λ s. Andi (taken 4 (s "d")) (taken 8 (s "K"))) ∷
    numbered 4227858432 671088640 "0010 10rd dddd rrrr" (λ s. Or (taken 5 (s "d")) (taken 5 (s "r"))) ∷
    numbered 4026531840 1610612736 "0110 KKKK dddd KKKK" (λ s. Ori (taken 4 (s "d")) (taken 8 (s "K"))) ∷
    numbered 4227858432 603979776 "0010 01rd dddd rrrr" (λ s. Eor (taken 5 (s "d")) (taken 5 (s "r"))) ∷
    numbered 4262395904 2483027968 "1001 010d dddd 0000" (λ s. Com (taken 5 (s "d"))) ∷
    numbered 4262395904 2483093504 "1001 010d dddd 0001" (λ s. Neg (taken 5 (s "d"))) ∷
    numbered 4262395904 2483224576 "1001 010d dddd 0011" (λ s. Inc (taken 5 (s "d"))) ∷
    numbered 4262395904 2483683328 "1001 010d dddd 1010" (λ s. Dec (taken 5 (s "d"))) ∷
    numbered 4227858432 2617245696 "1001 11rd dddd rrrr" (λ s. Mul (taken 5 (s "d")) (taken 5 (s "r"))) ∷
    numbered 4278190080 33554432 "0000 0010 dddd rrrr" (λ s. Muls (taken 4 (s "d")) (taken 4 (s "r"))) ∷
    numbered 4287102976 50331648 "0000 0011 0ddd 0rrr" (λ s. Mulsu (taken 3 (s "d")) (taken 3 (s "r"))) ∷
    numbered 4287102976 50855936 "0000 0011 0ddd 1rrr" (λ s. Fmul (taken 3 (s "d")) (taken 3 (s "r"))) ∷
    numbered 4287102976 58720256 "0000 0011 1ddd 0rrr" (λ s. Fmuls (taken 3 (s "d")) (taken 3 (s "r"))) ∷
    numbered 4287102976 59244544 "0000 0011 1ddd 1rrr" (λ s. Fmulsu (taken 3 (s "d")) (taken 3 (s "r"))) ∷
    numbered 4026531840 3221225472 "1100 kkkk kkkk kkkk" (λ s. Rjmp (taken 12 (s "k"))) ∷
    numbered 4294901760 2483617792 "1001 0100 0000 1001" (λ s. Ijmp) ∷
    numbered 4294934528 2483814400 "1001 0100 0000 1100 0kkk kkkk kkkk kkkk" (λ s. Jmp (taken 15 (s "k"))) ∷
    numbered 4026531840 3489660928 "1101 kkkk kkkk kkkk" (λ s. Rcall (taken 12 (s "k"))) ∷
    numbered 4294901760 2500395008 "1001 0101 0000 1001" (λ s. Icall) ∷
    numbered 4294934528 2483945472 "1001 0100 0000 1110 0kkk kkkk kkkk kkkk" (λ s. Call (taken 15 (s "k"))) ∷
    numbered 4294901760 2500329472 "1001 0101 0000 1000" (λ s. Ret) ∷
    numbered 4294901760 2501378048 "1001 0101 0001 1000" (λ s. Reti) ∷
    numbered 4227858432 268435456 "0001 00rd dddd rrrr" (λ s. Cpse (taken 5 (s "d")) (taken 5 (s "r"))) ∷
    numbered 4227858432 335544320 "0001 01rd dddd rrrr" (λ s. Cp (taken 5 (s "d")) (taken 5 (s "r"))) ∷
    numbered 4227858432 67108864 "0000 01rd dddd rrrr" (λ s. Cpc (taken 5 (s "d")) (taken 5 (s "r"))) ∷
    numbered 4026531840 805306368 "0011 KKKK dddd KKKK" (λ s. Cpi (taken 4 (s "d")) (taken 8 (s "K"))) ∷
    numbered 4261937152 4227858432 "1111 110r rrrr 0bbb" (λ s. Sbrc (taken 5 (s "r")) (taken 3 (s "b"))) ∷
    numbered 4261937152 4261412864 "1111 111r rrrr 0bbb" (λ s. Sbrs (taken 5 (s "r")) (taken 3 (s "b"))) ∷
    numbered 4278190080 2566914048 "1001 1001 AAAA Abbb" (λ s. Sbic (taken 5 (s "A")) (taken 3 (s "b"))) ∷
    numbered 4278190080 2600468480 "1001 1011 AAAA Abbb" (λ s. Sbis (taken 5 (s "A")) (taken 3 (s "b"))) ∷
    numbered 4227858432 4026531840 "1111 00kk kkkk ksss" (λ s. Brbs (taken 3 (s "s")) (taken 7 (s "k"))) ∷
    numbered 4227858432 4093640704 "1111 01kk kkkk ksss" (λ s. Brbc (taken 3 (s "s")) (taken 7 (s "k"))) ∷
    numbered 4227858432 738197504 "0010 11rd dddd rrrr" (λ s. Mov (taken 5 (s "d")) (taken 5 (s "r"))) ∷
    numbered 4278190080 16777216 "0000 0001 dddd rrrr" (λ s. Movw (taken 4 (s "d")) (taken 4 (s "r"))) ∷
    numbered 4026531840 3758096384 "1110 KKKK dddd KKKK" (λ s. Ldi (taken 4 (s "d")) (taken 8 (s "K"))) ∷
    numbered 4262395904 2416705536 "1001 000d dddd 1100" (λ s. LdX (taken 5 (s "d"))) ∷
    numbered 4262395904 2416771072 "1001 000d dddd 1101" (λ s. LdXInc (taken 5 (s "d"))) ∷
    numbered 4262395904 2416836608 "1001 000d dddd 1110" (λ s. LdXDec (taken 5 (s "d"))) ∷
    numbered 4262395904 2416508928 "1001 000d dddd 1001" (λ s. LdYInc (taken 5 (s "d"))) ∷
    numbered 4262395904 2416574464 "1001 000d dddd 1010" (λ s. LdYDec (taken 5 (s "d"))) ∷
    numbered 4262395904 2415984640 "1001 000d dddd 0001" (λ s. LdZInc (taken 5 (s "d"))) ∷
    numbered 4262395904 2416050176 "1001 000d dddd 0010" (λ s. LdZDec (taken 5 (s "d"))) ∷
    numbered 3523215360 2147483648 "10q0 qq0d dddd yqqq" (λ s. Ldd (taken 5 (s "d")) (taken 1 (s "y")) (taken 6 (s "q"))) ∷
    numbered 4262395904 2415919104 "1001 000d dddd 0000 kkkk kkkk kkkk kkkk" (λ s. Lds (taken 5 (s "d")) (taken 16 (s "k"))) ∷
    numbered 4262395904 2450259968 "1001 001r rrrr 1100" (λ s. StX (taken 5 (s "r"))) ∷
    numbered 4262395904 2450325504 "1001 001r rrrr 1101" (λ s. StXInc (taken 5 (s "r"))) ∷
    numbered 4262395904 2450391040 "1001 001r rrrr 1110" (λ s. StXDec (taken 5 (s "r"))) ∷
    numbered 4262395904 2450063360 "1001 001r rrrr 1001" (λ s. StYInc (taken 5 (s "r"))) ∷
    numbered 4262395904 2450128896 "1001 001r rrrr 1010" (λ s. StYDec (taken 5 (s "r"))) ∷
    numbered 4262395904 2449539072 "1001 001r rrrr 0001" (λ s. StZInc (taken 5 (s "r"))) ∷
    numbered 4262395904 2449604608 "1001 001r rrrr 0010" (λ s. StZDec (taken 5 (s "r"))) ∷
    numbered 3523215360 2181038080 "10q0 qq1r rrrr yqqq" (λ s. Std (taken 1 (s "y")) (taken 6 (s "q")) (taken 5 (s "r"))) ∷
    numbered 4262395904 2449473536 "1001 001r rrrr 0000 kkkk kkkk kkkk kkkk" (λ s. Sts (taken 16 (s "k")) (taken 5 (s "r"))) ∷
    numbered 4294901760 2512912384 "1001 0101 1100 1000" (λ s. Lpm) ∷
    numbered 4262395904 2416181248 "1001 000d dddd 0100" (λ s. LpmZ (taken 5 (s "d"))) ∷
    numbered 4262395904 2416246784 "1001 000d dddd 0101" (λ s. LpmZInc (taken 5 (s "d"))) ∷
    numbered 4294901760 2515009536 "1001 0101 1110 1000" (λ s. Spm) ∷
    numbered 4160749568 2952790016 "1011 0AAd dddd AAAA" (λ s. In (taken 5 (s "d")) (taken 6 (s "A"))) ∷
    numbered 4160749568 3087007744 "1011 1AAr rrrr AAAA" (λ s. Out (taken 6 (s "A")) (taken 5 (s "r"))) ∷
    numbered 4262395904 2450456576 "1001 001r rrrr 1111" (λ s. Push (taken 5 (s "r"))) ∷
    numbered 4262395904 2416902144 "1001 000d dddd 1111" (λ s. Pop (taken 5 (s "d"))) ∷
    numbered 4262395904 2483421184 "1001 010d dddd 0110" (λ s. Lsr (taken 5 (s "d"))) ∷
    numbered 4262395904 2483486720 "1001 010d dddd 0111" (λ s. Ror (taken 5 (s "d"))) ∷
    numbered 4262395904 2483355648 "1001 010d dddd 0101" (λ s. Asr (taken 5 (s "d"))) ∷
    numbered 4262395904 2483159040 "1001 010d dddd 0010" (λ s. Swap (taken 5 (s "d"))) ∷
    numbered 4287561728 2483552256 "1001 0100 0sss 1000" (λ s. Bset (taken 3 (s "s"))) ∷
    numbered 4287561728 2491940864 "1001 0100 1sss 1000" (λ s. Bclr (taken 3 (s "s"))) ∷
    numbered 4278190080 2583691264 "1001 1010 AAAA Abbb" (λ s. Sbi (taken 5 (s "A")) (taken 3 (s "b"))) ∷
    numbered 4278190080 2550136832 "1001 1000 AAAA Abbb" (λ s. Cbi (taken 5 (s "A")) (taken 3 (s "b"))) ∷
    numbered 4261937152 4194304000 "1111 101d dddd 0bbb" (λ s. Bst (taken 5 (s "d")) (taken 3 (s "b"))) ∷
    numbered 4261937152 4160749568 "1111 100d dddd 0bbb" (λ s. Bld (taken 5 (s "d")) (taken 3 (s "b"))) ∷
    numbered 4294901760 2509766656 "1001 0101 1001 1000" (λ s. Break) ∷
    numbered 4294901760 0 "0000 0000 0000 0000" (λ s. Nop) ∷
    numbered 4294901760 2508718080 "1001 0101 1000 1000" (λ s. Sleep) ∷
    numbered 4294901760 2510815232 "1001 0101 1010 1000" (λ s. Wdr) ∷ []

abbrev number_of : Instr → ℕ
number_of (Add d r) = 0
number_of (Adc d r) = 1
number_of (Adiw d k) = 2
number_of (Sub d r) = 3
number_of (Subi d k) = 4
number_of (Sbc d r) = 5
number_of (Sbci d k) = 6
number_of (Sbiw d k) = 7
number_of (And d r) = 8
number_of (Andi d k) = 9
number_of (Or d r) = 10
number_of (Ori d k) = 11
number_of (Eor d r) = 12
number_of (Com d) = 13
number_of (Neg d) = 14
number_of (Inc d) = 15
number_of (Dec d) = 16
number_of (Mul d r) = 17
number_of (Muls d r) = 18
number_of (Mulsu d r) = 19
number_of (Fmul d r) = 20
number_of (Fmuls d r) = 21
number_of (Fmulsu d r) = 22
number_of (Rjmp k) = 23
number_of Ijmp = 24
number_of (Jmp k) = 25
number_of (Rcall k) = 26
number_of Icall = 27
number_of (Call k) = 28
number_of Ret = 29
number_of Reti = 30
number_of (Cpse d r) = 31
number_of (Cp d r) = 32
number_of (Cpc d r) = 33
number_of (Cpi d k) = 34
number_of (Sbrc r b) = 35
number_of (Sbrs r b) = 36
number_of (Sbic a b) = 37
number_of (Sbis a b) = 38
number_of (Brbs s k) = 39
number_of (Brbc s k) = 40
number_of (Mov d r) = 41
number_of (Movw d r) = 42
number_of (Ldi d k) = 43
number_of (LdX d) = 44
number_of (LdXInc d) = 45
number_of (LdXDec d) = 46
number_of (LdYInc d) = 47
number_of (LdYDec d) = 48
number_of (LdZInc d) = 49
number_of (LdZDec d) = 50
number_of (Ldd d y q) = 51
number_of (Lds d k) = 52
number_of (StX r) = 53
number_of (StXInc r) = 54
number_of (StXDec r) = 55
number_of (StYInc r) = 56
number_of (StYDec r) = 57
number_of (StZInc r) = 58
number_of (StZDec r) = 59
number_of (Std y q r) = 60
number_of (Sts k r) = 61
number_of Lpm = 62
number_of (LpmZ d) = 63
number_of (LpmZInc d) = 64
number_of Spm = 65
number_of (In d a) = 66
number_of (Out a r) = 67
number_of (Push r) = 68
number_of (Pop d) = 69
number_of (Lsr d) = 70
number_of (Ror d) = 71
number_of (Asr d) = 72
number_of (Swap d) = 73
number_of (Bset s) = 74
number_of (Bclr s) = 75
number_of (Sbi a b) = 76
number_of (Cbi a b) = 77
number_of (Bst d b) = 78
number_of (Bld d b) = 79
number_of Break = 80
number_of Nop = 81
number_of Sleep = 82
number_of Wdr = 83

-- the row of that number has the fixed bits of the pattern
has_fixed : (i : Instr) → (mask_of (pattern_of i) ≡ (row_at rows (number_of i)).mask)
    × (value_of (pattern_of i) ≡ (row_at rows (number_of i)).value)
has_fixed Nop = (refl, refl)
has_fixed i = (refl, refl)

fits : (n : ℕ) (i : Instr) → ReadsAt n i → Fits n (row_at rows (number_of i))
fits n i was = ap (bit_and n) (sym (has_fixed i).0) ∙ mask_from_stands (pattern_of i) n was.fixed ∙ (has_fixed i).1

-- no number fits two rows that differ
both_fit : (n m v k w : ℕ) → bit_and n m ≡ v → bit_and n k ≡ w → bit_and v k ≡ bit_and w m
both_fit n m v k w e f =
    ap (λ x. bit_and x k) (sym e) ∙ and_assoc k n m ∙ ap (bit_and n) (and_comm m k) ∙ sym (and_assoc m n k) ∙ ap (λ x. bit_and x m) f

unequal : (a b : ℕ) → a ≡ b → not (nat_eq a b) ≡ true → ⊥
unequal a b e h = absurd (grind (arith, nat_tests))

and_true : (a b : Bool) → (a && b) ≡ true → (a ≡ true) × (b ≡ true)
and_true true b h = (refl, h)
and_true false b h = absurd (cc)

no_more : (n : ℕ) → bit_and n 0 ≡ 1 → ⊥
no_more n h = absurd (omega (arith, h, and_zero_r n))

not_both : (n : ℕ) (r : Numbered) (rest : List Numbered) (k : ℕ) → differs_from r rest ≡ true → Fits n r → Fits n (row_at rest k) → ⊥
not_both n r [] k h f g = no_more n g
not_both n r (s ∷ rest) zero h f g =
    unequal _ _ (both_fit n r.mask r.value s.mask s.value f g) (and_true (differ r s) (differs_from r rest) h).0
not_both n r (s ∷ rest) (suc k) h f g = not_both n r rest k (and_true (differ r s) (differs_from r rest) h).1 f g

one_row : (n : ℕ) (all : List Numbered) (k l : ℕ) → all_differ all ≡ true → Fits n (row_at all k) → Fits n (row_at all l) → k ≡ l
one_row n [] k l h f g = absurd (no_more n f)
one_row n (r ∷ rest) zero zero h f g = refl
one_row n (r ∷ rest) zero (suc l) h f g = absurd (not_both n r rest l (and_true (differs_from r rest) (all_differ rest) h).0 f g)
one_row n (r ∷ rest) (suc k) zero h f g = absurd (not_both n r rest k (and_true (differs_from r rest) (all_differ rest) h).0 g f)
one_row n (r ∷ rest) (suc k) (suc l) h f g = ap suc (one_row n rest k l (and_true (differs_from r rest) (all_differ rest) h).1 f g)

-- an instruction is what its row makes of the words
is_made : (n : ℕ) (i : Instr) → ReadsAt n i → i ≡ (row_at rows (number_of i)).make n
is_made n (Add d r) was = two Add (is_taken d was.letters.0) (is_taken r was.letters.1.0)
is_made n (Adc d r) was = two Adc (is_taken d was.letters.0) (is_taken r was.letters.1.0)
is_made n (Adiw d k) was = two Adiw (is_taken d was.letters.0) (is_taken k was.letters.1.0)
is_made n (Sub d r) was = two Sub (is_taken d was.letters.0) (is_taken r was.letters.1.0)
is_made n (Subi d k) was = two Subi (is_taken d was.letters.0) (is_taken k was.letters.1.0)
is_made n (Sbc d r) was = two Sbc (is_taken d was.letters.0) (is_taken r was.letters.1.0)
is_made n (Sbci d k) was = two Sbci (is_taken d was.letters.0) (is_taken k was.letters.1.0)
is_made n (Sbiw d k) was = two Sbiw (is_taken d was.letters.0) (is_taken k was.letters.1.0)
is_made n (And d r) was = two And (is_taken d was.letters.0) (is_taken r was.letters.1.0)
is_made n (Andi d k) was = two Andi (is_taken d was.letters.0) (is_taken k was.letters.1.0)
is_made n (Or d r) was = two Or (is_taken d was.letters.0) (is_taken r was.letters.1.0)
is_made n (Ori d k) was = two Ori (is_taken d was.letters.0) (is_taken k was.letters.1.0)
is_made n (Eor d r) was = two Eor (is_taken d was.letters.0) (is_taken r was.letters.1.0)
is_made n (Com d) was = one Com (is_taken d was.letters.0)
is_made n (Neg d) was = one Neg (is_taken d was.letters.0)
is_made n (Inc d) was = one Inc (is_taken d was.letters.0)
is_made n (Dec d) was = one Dec (is_taken d was.letters.0)
is_made n (Mul d r) was = two Mul (is_taken d was.letters.0) (is_taken r was.letters.1.0)
is_made n (Muls d r) was = two Muls (is_taken d was.letters.0) (is_taken r was.letters.1.0)
is_made n (Mulsu d r) was = two Mulsu (is_taken d was.letters.0) (is_taken r was.letters.1.0)
is_made n (Fmul d r) was = two Fmul (is_taken d was.letters.0) (is_taken r was.letters.1.0)
is_made n (Fmuls d r) was = two Fmuls (is_taken d was.letters.0) (is_taken r was.letters.1.0)
is_made n (Fmulsu d r) was = two Fmulsu (is_taken d was.letters.0) (is_taken r was.letters.1.0)
is_made n (Rjmp k) was = one Rjmp (is_taken k was.letters.0)
is_made n Ijmp was = refl
is_made n (Jmp k) was = one Jmp (is_taken k was.letters.0)
is_made n (Rcall k) was = one Rcall (is_taken k was.letters.0)
is_made n Icall was = refl
is_made n (Call k) was = one Call (is_taken k was.letters.0)
is_made n Ret was = refl
is_made n Reti was = refl
is_made n (Cpse d r) was = two Cpse (is_taken d was.letters.0) (is_taken r was.letters.1.0)
is_made n (Cp d r) was = two Cp (is_taken d was.letters.0) (is_taken r was.letters.1.0)
is_made n (Cpc d r) was = two Cpc (is_taken d was.letters.0) (is_taken r was.letters.1.0)
is_made n (Cpi d k) was = two Cpi (is_taken d was.letters.0) (is_taken k was.letters.1.0)
is_made n (Sbrc r b) was = two Sbrc (is_taken r was.letters.0) (is_taken b was.letters.1.0)
is_made n (Sbrs r b) was = two Sbrs (is_taken r was.letters.0) (is_taken b was.letters.1.0)
is_made n (Sbic a b) was = two Sbic (is_taken a was.letters.0) (is_taken b was.letters.1.0)
is_made n (Sbis a b) was = two Sbis (is_taken a was.letters.0) (is_taken b was.letters.1.0)
is_made n (Brbs s k) was = two Brbs (is_taken s was.letters.0) (is_taken k was.letters.1.0)
is_made n (Brbc s k) was = two Brbc (is_taken s was.letters.0) (is_taken k was.letters.1.0)
is_made n (Mov d r) was = two Mov (is_taken d was.letters.0) (is_taken r was.letters.1.0)
is_made n (Movw d r) was = two Movw (is_taken d was.letters.0) (is_taken r was.letters.1.0)
is_made n (Ldi d k) was = two Ldi (is_taken d was.letters.0) (is_taken k was.letters.1.0)
is_made n (LdX d) was = one LdX (is_taken d was.letters.0)
is_made n (LdXInc d) was = one LdXInc (is_taken d was.letters.0)
is_made n (LdXDec d) was = one LdXDec (is_taken d was.letters.0)
is_made n (LdYInc d) was = one LdYInc (is_taken d was.letters.0)
is_made n (LdYDec d) was = one LdYDec (is_taken d was.letters.0)
is_made n (LdZInc d) was = one LdZInc (is_taken d was.letters.0)
is_made n (LdZDec d) was = one LdZDec (is_taken d was.letters.0)
is_made n (Ldd d y q) was = three Ldd (is_taken d was.letters.0) (is_taken y was.letters.1.0) (is_taken q was.letters.1.1.0)
is_made n (Lds d k) was = two Lds (is_taken d was.letters.0) (is_taken k was.letters.1.0)
is_made n (StX r) was = one StX (is_taken r was.letters.0)
is_made n (StXInc r) was = one StXInc (is_taken r was.letters.0)
is_made n (StXDec r) was = one StXDec (is_taken r was.letters.0)
is_made n (StYInc r) was = one StYInc (is_taken r was.letters.0)
is_made n (StYDec r) was = one StYDec (is_taken r was.letters.0)
is_made n (StZInc r) was = one StZInc (is_taken r was.letters.0)
is_made n (StZDec r) was = one StZDec (is_taken r was.letters.0)
is_made n (Std y q r) was = three Std (is_taken y was.letters.0) (is_taken q was.letters.1.0) (is_taken r was.letters.1.1.0)
is_made n (Sts k r) was = two Sts (is_taken k was.letters.0) (is_taken r was.letters.1.0)
is_made n Lpm was = refl
is_made n (LpmZ d) was = one LpmZ (is_taken d was.letters.0)
is_made n (LpmZInc d) was = one LpmZInc (is_taken d was.letters.0)
is_made n Spm was = refl
is_made n (In d a) was = two In (is_taken d was.letters.0) (is_taken a was.letters.1.0)
is_made n (Out a r) was = two Out (is_taken a was.letters.0) (is_taken r was.letters.1.0)
is_made n (Push r) was = one Push (is_taken r was.letters.0)
is_made n (Pop d) was = one Pop (is_taken d was.letters.0)
is_made n (Lsr d) was = one Lsr (is_taken d was.letters.0)
is_made n (Ror d) was = one Ror (is_taken d was.letters.0)
is_made n (Asr d) was = one Asr (is_taken d was.letters.0)
is_made n (Swap d) was = one Swap (is_taken d was.letters.0)
is_made n (Bset s) was = one Bset (is_taken s was.letters.0)
is_made n (Bclr s) was = one Bclr (is_taken s was.letters.0)
is_made n (Sbi a b) was = two Sbi (is_taken a was.letters.0) (is_taken b was.letters.1.0)
is_made n (Cbi a b) was = two Cbi (is_taken a was.letters.0) (is_taken b was.letters.1.0)
is_made n (Bst d b) was = two Bst (is_taken d was.letters.0) (is_taken b was.letters.1.0)
is_made n (Bld d b) was = two Bld (is_taken d was.letters.0) (is_taken b was.letters.1.0)
is_made n Break was = refl
is_made n Nop was = refl
is_made n Sleep was = refl
is_made n Wdr was = refl

pub unique : (n : ℕ) (i j : Instr) → ReadsAt n i → ReadsAt n j → i ≡ j
unique n i j was read =
    is_made n i was ∙ ap (λ k. (row_at rows k).make n) (one_row n rows (number_of i) (number_of j) refl (fits n i was) (fits n j read))
    ∙ sym (is_made n j read)
