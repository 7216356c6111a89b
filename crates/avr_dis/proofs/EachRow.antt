-- At each two words an instruction is read, or none is: a row is read where its pattern stands, with the numbers that its letters
-- spell.
use Rattle.std.proofs.Common.{◌≡◌, ℕ, zero, suc, ◌+◌, ◌*◌, ◌^◌, ◌<◌, ◌⊎◌, Bool, true, false, cond, List, [], ◌∷◌, length, nat_eq, refl, sym}
use Rattle.std.proofs.Common.{◌∙◌, ap, subst, inl, inr, arith}
use Rattle.std.proofs.lemmas.Bool.Decides.{nat_tests}
use Rattle.std.proofs.lemmas.List.Sums.{sum_by-cons}
use Rattle.std.proofs.lemmas.Nat.Bits.{bit_at-lt}
use Rattle.std.specs.Prelude.{IsTrue, count_by}
use Rattle.std.specs.Int.{bit_at}
use Prim.Native.Char.{code}
use Rattle.avr_table.specs.Pattern.{places, stands, spelled}
use Rattle.avr_table.specs.Rows.{padded, pattern_of, ReadsAt}
use Rattle.avr_table.specs.declared.Field.{Field}
use Rattle.avr_table.specs.declared.Instr.{Instr}
use Rattle.avr_table.specs.declared.Instr.TheVariants.{Add, Adc, Adiw, Sub, Subi, Sbc, Sbci, Sbiw, And, Andi, Or, Ori, Eor, Com, Neg, Inc}
use Rattle.avr_table.specs.declared.Instr.TheVariants.{Dec, Mul, Muls, Mulsu, Fmul, Fmuls, Fmulsu, Rjmp, Ijmp, Jmp, Rcall, Icall, Call, Ret}
use Rattle.avr_table.specs.declared.Instr.TheVariants.{Reti, Cpse, Cp, Cpc, Cpi, Sbrc, Sbrs, Sbic, Sbis, Brbs, Brbc, Mov, Movw, Ldi, LdX}
use Rattle.avr_table.specs.declared.Instr.TheVariants.{LdXInc, LdXDec, LdYInc, LdYDec, LdZInc, LdZDec, Ldd, Lds, StX, StXInc, StXDec}
use Rattle.avr_table.specs.declared.Instr.TheVariants.{StYInc, StYDec, StZInc, StZDec, Std, Sts, Lpm, LpmZ, LpmZInc, Spm, In, Out, Push}
use Rattle.avr_table.specs.declared.Instr.TheVariants.{Pop, Lsr, Ror, Asr, Swap, Bset, Bclr, Sbi, Cbi, Bst, Bld, Break, Nop, Sleep, Wdr}

-- what a letter's places spell fits as many bits
same_test : (a b : ℕ) → nat_eq a b ≡ nat_eq b a
same_test a b = grind (arith, nat_tests)

one_more : (n : ℕ) → 1 + n ≡ suc n
one_more n = omega arith

none_more : (n : ℕ) → 0 + n ≡ n
none_more n = omega arith

spelled_fits : (c : ℕ) (p : List ℕ) (n : ℕ) → spelled c p n < 2 ^ count_by (nat_eq c) p
unfolding spelled
spelled_fits c [] n = omega arith
spelled_fits c (d ∷ ds) n = go (nat_eq d c) (same_test c d) (spelled_fits c ds n)
  where
    go : (t : Bool) → nat_eq c d ≡ t → spelled c ds n < 2 ^ count_by (nat_eq c) ds
        → cond t (bit_at n (length ds) * 2 ^ count_by (nat_eq c) ds + spelled c ds n) (spelled c ds n) < 2 ^ count_by (nat_eq c) (d ∷ ds)
    go true e h =
        let count : count_by (nat_eq c) (d ∷ ds) ≡ suc (count_by (nat_eq c) ds) = sum_by-cons (λ x. cond (nat_eq c x) 1 0) d ds
        ∙ ap (λ t. cond t 1 0 + count_by (nat_eq c) ds) e ∙ one_more (count_by (nat_eq c) ds) in
        let bit = bit_at-lt n (length ds) in
        subst (λ k. bit_at n (length ds) * 2 ^ count_by (nat_eq c) ds + spelled c ds n < 2 ^ k) (sym count)
        (digit_fits (bit_at n (length ds)) (2 ^ count_by (nat_eq c) ds) (2 ^ suc (count_by (nat_eq c) ds)) bit h (omega arith))
      where
        digit_fits : (b m q : ℕ) {s : ℕ} → b < 2 → s < m → q ≡ 2 * m → b * m + s < q
        digit_fits zero m q lt h e = omega (arith, h, e)
        digit_fits (suc zero) m q lt h e = omega (arith, h, e)
        digit_fits (suc (suc b)) m q lt h e = absurd (omega arith)
    go false e h =
        let count : count_by (nat_eq c) (d ∷ ds) ≡ count_by (nat_eq c) ds = sum_by-cons (λ x. cond (nat_eq c x) 1 0) d ds
        ∙ ap (λ t. cond t 1 0 + count_by (nat_eq c) ds) e ∙ none_more (count_by (nat_eq c) ds) in
        subst (λ k. spelled c ds n < 2 ^ k) (sym count) h

-- a letter's field
abbrev taken : (b c : ℕ) (p : List ℕ) (n : ℕ) → count_by (nat_eq c) p ≡ b → Field b
taken b c p n e = record { value = spelled c p n; in_range = subst (λ k. spelled c p n < 2 ^ k) e (spelled_fits c p n) }

-- the instruction of a row where its pattern stands
abbrev pub Found : ℕ → Type 0
Found n = (i : Instr) × ReadsAt n i

row_Add : (n : ℕ) → IsTrue (stands (padded (places "0000 11rd dddd rrrr")) n) → (i : Instr) × ReadsAt n i
row_Add n h =
    let p = padded (places "0000 11rd dddd rrrr") in
    (Add (taken 5 (code "d") p n refl) (taken 5 (code "r") p n refl), record { fixed = h; letters = (refl, (refl, tt)) })

row_Adc : (n : ℕ) → IsTrue (stands (padded (places "0001 11rd dddd rrrr")) n) → (i : Instr) × ReadsAt n i
row_Adc n h =
    let p = padded (places "0001 11rd dddd rrrr") in
    (Adc (taken 5 (code "d") p n refl) (taken 5 (code "r") p n refl), record { fixed = h; letters = (refl, (refl, tt)) })

row_Adiw : (n : ℕ) → IsTrue (stands (padded (places "1001 0110 KKdd KKKK")) n) → (i : Instr) × ReadsAt n i
row_Adiw n h =
    let p = padded (places "1001 0110 KKdd KKKK") in
    (Adiw (taken 2 (code "d") p n refl) (taken 6 (code "K") p n refl), record { fixed = h; letters = (refl, (refl, tt)) })

row_Sub : (n : ℕ) → IsTrue (stands (padded (places "0001 10rd dddd rrrr")) n) → (i : Instr) × ReadsAt n i
row_Sub n h =
    let p = padded (places "0001 10rd dddd rrrr") in
    (Sub (taken 5 (code "d") p n refl) (taken 5 (code "r") p n refl), record { fixed = h; letters = (refl, (refl, tt)) })

row_Subi : (n : ℕ) → IsTrue (stands (padded (places "0101 KKKK dddd KKKK")) n) → (i : Instr) × ReadsAt n i
row_Subi n h =
    let p = padded (places "0101 KKKK dddd KKKK") in
    (Subi (taken 4 (code "d") p n refl) (taken 8 (code "K") p n refl), record { fixed = h; letters = (refl, (refl, tt)) })

row_Sbc : (n : ℕ) → IsTrue (stands (padded (places "0000 10rd dddd rrrr")) n) → (i : Instr) × ReadsAt n i
row_Sbc n h =
    let p = padded (places "0000 10rd dddd rrrr") in
    (Sbc (taken 5 (code "d") p n refl) (taken 5 (code "r") p n refl), record { fixed = h; letters = (refl, (refl, tt)) })

row_Sbci : (n : ℕ) → IsTrue (stands (padded (places "0100 KKKK dddd KKKK")) n) → (i : Instr) × ReadsAt n i
row_Sbci n h =
    let p = padded (places "0100 KKKK dddd KKKK") in
    (Sbci (taken 4 (code "d") p n refl) (taken 8 (code "K") p n refl), record { fixed = h; letters = (refl, (refl, tt)) })

row_Sbiw : (n : ℕ) → IsTrue (stands (padded (places "1001 0111 KKdd KKKK")) n) → (i : Instr) × ReadsAt n i
row_Sbiw n h =
    let p = padded (places "1001 0111 KKdd KKKK") in
    (Sbiw (taken 2 (code "d") p n refl) (taken 6 (code "K") p n refl), record { fixed = h; letters = (refl, (refl, tt)) })

row_And : (n : ℕ) → IsTrue (stands (padded (places "0010 00rd dddd rrrr")) n) → (i : Instr) × ReadsAt n i
row_And n h =
    let p = padded (places "0010 00rd dddd rrrr") in
    (And (taken 5 (code "d") p n refl) (taken 5 (code "r") p n refl), record { fixed = h; letters = (refl, (refl, tt)) })

row_Andi : (n : ℕ) → IsTrue (stands (padded (places "0111 KKKK dddd KKKK")) n) → (i : Instr) × ReadsAt n i
row_Andi n h =
    let p = padded (places "0111 KKKK dddd KKKK") in
    (Andi (taken 4 (code "d") p n refl) (taken 8 (code "K") p n refl), record { fixed = h; letters = (refl, (refl, tt)) })

row_Or : (n : ℕ) → IsTrue (stands (padded (places "0010 10rd dddd rrrr")) n) → (i : Instr) × ReadsAt n i
row_Or n h =
    let p = padded (places "0010 10rd dddd rrrr") in
    (Or (taken 5 (code "d") p n refl) (taken 5 (code "r") p n refl), record { fixed = h; letters = (refl, (refl, tt)) })

row_Ori : (n : ℕ) → IsTrue (stands (padded (places "0110 KKKK dddd KKKK")) n) → (i : Instr) × ReadsAt n i
row_Ori n h =
    let p = padded (places "0110 KKKK dddd KKKK") in
    (Ori (taken 4 (code "d") p n refl) (taken 8 (code "K") p n refl), record { fixed = h; letters = (refl, (refl, tt)) })

row_Eor : (n : ℕ) → IsTrue (stands (padded (places "0010 01rd dddd rrrr")) n) → (i : Instr) × ReadsAt n i
row_Eor n h =
    let p = padded (places "0010 01rd dddd rrrr") in
    (Eor (taken 5 (code "d") p n refl) (taken 5 (code "r") p n refl), record { fixed = h; letters = (refl, (refl, tt)) })

row_Com : (n : ℕ) → IsTrue (stands (padded (places "1001 010d dddd 0000")) n) → (i : Instr) × ReadsAt n i
row_Com n h =
    let p = padded (places "1001 010d dddd 0000") in
    (Com (taken 5 (code "d") p n refl), record { fixed = h; letters = (refl, tt) })

row_Neg : (n : ℕ) → IsTrue (stands (padded (places "1001 010d dddd 0001")) n) → (i : Instr) × ReadsAt n i
row_Neg n h =
    let p = padded (places "1001 010d dddd 0001") in
    (Neg (taken 5 (code "d") p n refl), record { fixed = h; letters = (refl, tt) })

row_Inc : (n : ℕ) → IsTrue (stands (padded (places "1001 010d dddd 0011")) n) → (i : Instr) × ReadsAt n i
row_Inc n h =
    let p = padded (places "1001 010d dddd 0011") in
    (Inc (taken 5 (code "d") p n refl), record { fixed = h; letters = (refl, tt) })

row_Dec : (n : ℕ) → IsTrue (stands (padded (places "1001 010d dddd 1010")) n) → (i : Instr) × ReadsAt n i
row_Dec n h =
    let p = padded (places "1001 010d dddd 1010") in
    (Dec (taken 5 (code "d") p n refl), record { fixed = h; letters = (refl, tt) })

row_Mul : (n : ℕ) → IsTrue (stands (padded (places "1001 11rd dddd rrrr")) n) → (i : Instr) × ReadsAt n i
row_Mul n h =
    let p = padded (places "1001 11rd dddd rrrr") in
    (Mul (taken 5 (code "d") p n refl) (taken 5 (code "r") p n refl), record { fixed = h; letters = (refl, (refl, tt)) })

row_Muls : (n : ℕ) → IsTrue (stands (padded (places "0000 0010 dddd rrrr")) n) → (i : Instr) × ReadsAt n i
row_Muls n h =
    let p = padded (places "0000 0010 dddd rrrr") in
    (Muls (taken 4 (code "d") p n refl) (taken 4 (code "r") p n refl), record { fixed = h; letters = (refl, (refl, tt)) })

row_Mulsu : (n : ℕ) → IsTrue (stands (padded (places "0000 0011 0ddd 0rrr")) n) → (i : Instr) × ReadsAt n i
row_Mulsu n h =
    let p = padded (places "0000 0011 0ddd 0rrr") in
    (Mulsu (taken 3 (code "d") p n refl) (taken 3 (code "r") p n refl), record { fixed = h; letters = (refl, (refl, tt)) })

row_Fmul : (n : ℕ) → IsTrue (stands (padded (places "0000 0011 0ddd 1rrr")) n) → (i : Instr) × ReadsAt n i
row_Fmul n h =
    let p = padded (places "0000 0011 0ddd 1rrr") in
    (Fmul (taken 3 (code "d") p n refl) (taken 3 (code "r") p n refl), record { fixed = h; letters = (refl, (refl, tt)) })

row_Fmuls : (n : ℕ) → IsTrue (stands (padded (places "0000 0011 1ddd 0rrr")) n) → (i : Instr) × ReadsAt n i
row_Fmuls n h =
    let p = padded (places "0000 0011 1ddd 0rrr") in
    (Fmuls (taken 3 (code "d") p n refl) (taken 3 (code "r") p n refl), record { fixed = h; letters = (refl, (refl, tt)) })

row_Fmulsu : (n : ℕ) → IsTrue (stands (padded (places "0000 0011 1ddd 1rrr")) n) → (i : Instr) × ReadsAt n i
row_Fmulsu n h =
    let p = padded (places "0000 0011 1ddd 1rrr") in
    (Fmulsu (taken 3 (code "d") p n refl) (taken 3 (code "r") p n refl), record { fixed = h; letters = (refl, (refl, tt)) })

row_Rjmp : (n : ℕ) → IsTrue (stands (padded (places "1100 kkkk kkkk kkkk")) n) → (i : Instr) × ReadsAt n i
row_Rjmp n h =
    let p = padded (places "1100 kkkk kkkk kkkk") in
    (Rjmp (taken 12 (code "k") p n refl), record { fixed = h; letters = (refl, tt) })

row_Ijmp : (n : ℕ) → IsTrue (stands (padded (places "1001 0100 0000 1001")) n) → (i : Instr) × ReadsAt n i
row_Ijmp n h =
    let p = padded (places "1001 0100 0000 1001") in
    (Ijmp, record { fixed = h; letters = tt })

row_Jmp : (n : ℕ) → IsTrue (stands (padded (places "1001 0100 0000 1100 0kkk kkkk kkkk kkkk")) n) → (i : Instr) × ReadsAt n i
row_Jmp n h =
    let p = padded (places "1001 0100 0000 1100 0kkk kkkk kkkk kkkk") in
    (Jmp (taken 15 (code "k") p n refl), record { fixed = h; letters = (refl, tt) })

row_Rcall : (n : ℕ) → IsTrue (stands (padded (places "1101 kkkk kkkk kkkk")) n) → (i : Instr) × ReadsAt n i
row_Rcall n h =
    let p = padded (places "1101 kkkk kkkk kkkk") in
    (Rcall (taken 12 (code "k") p n refl), record { fixed = h; letters = (refl, tt) })

row_Icall : (n : ℕ) → IsTrue (stands (padded (places "1001 0101 0000 1001")) n) → (i : Instr) × ReadsAt n i
row_Icall n h =
    let p = padded (places "1001 0101 0000 1001") in
    (Icall, record { fixed = h; letters = tt })

row_Call : (n : ℕ) → IsTrue (stands (padded (places "1001 0100 0000 1110 0kkk kkkk kkkk kkkk")) n) → (i : Instr) × ReadsAt n i
row_Call n h =
    let p = padded (places "1001 0100 0000 1110 0kkk kkkk kkkk kkkk") in
    (Call (taken 15 (code "k") p n refl), record { fixed = h; letters = (refl, tt) })

row_Ret : (n : ℕ) → IsTrue (stands (padded (places "1001 0101 0000 1000")) n) → (i : Instr) × ReadsAt n i
row_Ret n h =
    let p = padded (places "1001 0101 0000 1000") in
    (Ret, record { fixed = h; letters = tt })

row_Reti : (n : ℕ) → IsTrue (stands (padded (places "1001 0101 0001 1000")) n) → (i : Instr) × ReadsAt n i
row_Reti n h =
    let p = padded (places "1001 0101 0001 1000") in
    (Reti, record { fixed = h; letters = tt })

row_Cpse : (n : ℕ) → IsTrue (stands (padded (places "0001 00rd dddd rrrr")) n) → (i : Instr) × ReadsAt n i
row_Cpse n h =
    let p = padded (places "0001 00rd dddd rrrr") in
    (Cpse (taken 5 (code "d") p n refl) (taken 5 (code "r") p n refl), record { fixed = h; letters = (refl, (refl, tt)) })

row_Cp : (n : ℕ) → IsTrue (stands (padded (places "0001 01rd dddd rrrr")) n) → (i : Instr) × ReadsAt n i
row_Cp n h =
    let p = padded (places "0001 01rd dddd rrrr") in
    (Cp (taken 5 (code "d") p n refl) (taken 5 (code "r") p n refl), record { fixed = h; letters = (refl, (refl, tt)) })

row_Cpc : (n : ℕ) → IsTrue (stands (padded (places "0000 01rd dddd rrrr")) n) → (i : Instr) × ReadsAt n i
row_Cpc n h =
    let p = padded (places "0000 01rd dddd rrrr") in
    (Cpc (taken 5 (code "d") p n refl) (taken 5 (code "r") p n refl), record { fixed = h; letters = (refl, (refl, tt)) })

row_Cpi : (n : ℕ) → IsTrue (stands (padded (places "0011 KKKK dddd KKKK")) n) → (i : Instr) × ReadsAt n i
row_Cpi n h =
    let p = padded (places "0011 KKKK dddd KKKK") in
    (Cpi (taken 4 (code "d") p n refl) (taken 8 (code "K") p n refl), record { fixed = h; letters = (refl, (refl, tt)) })

row_Sbrc : (n : ℕ) → IsTrue (stands (padded (places "1111 110r rrrr 0bbb")) n) → (i : Instr) × ReadsAt n i
row_Sbrc n h =
    let p = padded (places "1111 110r rrrr 0bbb") in
    (Sbrc (taken 5 (code "r") p n refl) (taken 3 (code "b") p n refl), record { fixed = h; letters = (refl, (refl, tt)) })

row_Sbrs : (n : ℕ) → IsTrue (stands (padded (places "1111 111r rrrr 0bbb")) n) → (i : Instr) × ReadsAt n i
row_Sbrs n h =
    let p = padded (places "1111 111r rrrr 0bbb") in
    (Sbrs (taken 5 (code "r") p n refl) (taken 3 (code "b") p n refl), record { fixed = h; letters = (refl, (refl, tt)) })

row_Sbic : (n : ℕ) → IsTrue (stands (padded (places "1001 1001 AAAA Abbb")) n) → (i : Instr) × ReadsAt n i
row_Sbic n h =
    let p = padded (places "1001 1001 AAAA Abbb") in
    (Sbic (taken 5 (code "A") p n refl) (taken 3 (code "b") p n refl), record { fixed = h; letters = (refl, (refl, tt)) })

row_Sbis : (n : ℕ) → IsTrue (stands (padded (places "1001 1011 AAAA Abbb")) n) → (i : Instr) × ReadsAt n i
row_Sbis n h =
    let p = padded (places "1001 1011 AAAA Abbb") in
    (Sbis (taken 5 (code "A") p n refl) (taken 3 (code "b") p n refl), record { fixed = h; letters = (refl, (refl, tt)) })

row_Brbs : (n : ℕ) → IsTrue (stands (padded (places "1111 00kk kkkk ksss")) n) → (i : Instr) × ReadsAt n i
row_Brbs n h =
    let p = padded (places "1111 00kk kkkk ksss") in
    (Brbs (taken 3 (code "s") p n refl) (taken 7 (code "k") p n refl), record { fixed = h; letters = (refl, (refl, tt)) })

row_Brbc : (n : ℕ) → IsTrue (stands (padded (places "1111 01kk kkkk ksss")) n) → (i : Instr) × ReadsAt n i
row_Brbc n h =
    let p = padded (places "1111 01kk kkkk ksss") in
    (Brbc (taken 3 (code "s") p n refl) (taken 7 (code "k") p n refl), record { fixed = h; letters = (refl, (refl, tt)) })

row_Mov : (n : ℕ) → IsTrue (stands (padded (places "0010 11rd dddd rrrr")) n) → (i : Instr) × ReadsAt n i
row_Mov n h =
    let p = padded (places "0010 11rd dddd rrrr") in
    (Mov (taken 5 (code "d") p n refl) (taken 5 (code "r") p n refl), record { fixed = h; letters = (refl, (refl, tt)) })

row_Movw : (n : ℕ) → IsTrue (stands (padded (places "0000 0001 dddd rrrr")) n) → (i : Instr) × ReadsAt n i
row_Movw n h =
    let p = padded (places "0000 0001 dddd rrrr") in
    (Movw (taken 4 (code "d") p n refl) (taken 4 (code "r") p n refl), record { fixed = h; letters = (refl, (refl, tt)) })

row_Ldi : (n : ℕ) → IsTrue (stands (padded (places "1110 KKKK dddd KKKK")) n) → (i : Instr) × ReadsAt n i
row_Ldi n h =
    let p = padded (places "1110 KKKK dddd KKKK") in
    (Ldi (taken 4 (code "d") p n refl) (taken 8 (code "K") p n refl), record { fixed = h; letters = (refl, (refl, tt)) })

row_LdX : (n : ℕ) → IsTrue (stands (padded (places "1001 000d dddd 1100")) n) → (i : Instr) × ReadsAt n i
row_LdX n h =
    let p = padded (places "1001 000d dddd 1100") in
    (LdX (taken 5 (code "d") p n refl), record { fixed = h; letters = (refl, tt) })

row_LdXInc : (n : ℕ) → IsTrue (stands (padded (places "1001 000d dddd 1101")) n) → (i : Instr) × ReadsAt n i
row_LdXInc n h =
    let p = padded (places "1001 000d dddd 1101") in
    (LdXInc (taken 5 (code "d") p n refl), record { fixed = h; letters = (refl, tt) })

row_LdXDec : (n : ℕ) → IsTrue (stands (padded (places "1001 000d dddd 1110")) n) → (i : Instr) × ReadsAt n i
row_LdXDec n h =
    let p = padded (places "1001 000d dddd 1110") in
    (LdXDec (taken 5 (code "d") p n refl), record { fixed = h; letters = (refl, tt) })

row_LdYInc : (n : ℕ) → IsTrue (stands (padded (places "1001 000d dddd 1001")) n) → (i : Instr) × ReadsAt n i
row_LdYInc n h =
    let p = padded (places "1001 000d dddd 1001") in
    (LdYInc (taken 5 (code "d") p n refl), record { fixed = h; letters = (refl, tt) })

row_LdYDec : (n : ℕ) → IsTrue (stands (padded (places "1001 000d dddd 1010")) n) → (i : Instr) × ReadsAt n i
row_LdYDec n h =
    let p = padded (places "1001 000d dddd 1010") in
    (LdYDec (taken 5 (code "d") p n refl), record { fixed = h; letters = (refl, tt) })

row_LdZInc : (n : ℕ) → IsTrue (stands (padded (places "1001 000d dddd 0001")) n) → (i : Instr) × ReadsAt n i
row_LdZInc n h =
    let p = padded (places "1001 000d dddd 0001") in
    (LdZInc (taken 5 (code "d") p n refl), record { fixed = h; letters = (refl, tt) })

row_LdZDec : (n : ℕ) → IsTrue (stands (padded (places "1001 000d dddd 0010")) n) → (i : Instr) × ReadsAt n i
row_LdZDec n h =
    let p = padded (places "1001 000d dddd 0010") in
    (LdZDec (taken 5 (code "d") p n refl), record { fixed = h; letters = (refl, tt) })

row_Ldd : (n : ℕ) → IsTrue (stands (padded (places "10q0 qq0d dddd yqqq")) n) → (i : Instr) × ReadsAt n i
row_Ldd n h =
    let p = padded (places "10q0 qq0d dddd yqqq") in (
      Ldd (taken 5 (code "d") p n refl) (taken 1 (code "y") p n refl) (taken 6 (code "q") p n refl),
      record { fixed = h; letters = (refl, (refl, (refl, tt))) },
    )

row_Lds : (n : ℕ) → IsTrue (stands (padded (places "1001 000d dddd 0000 kkkk kkkk kkkk kkkk")) n) → (i : Instr) × ReadsAt n i
row_Lds n h =
    let p = padded (places "1001 000d dddd 0000 kkkk kkkk kkkk kkkk") in
    (Lds (taken 5 (code "d") p n refl) (taken 16 (code "k") p n refl), record { fixed = h; letters = (refl, (refl, tt)) })

row_StX : (n : ℕ) → IsTrue (stands (padded (places "1001 001r rrrr 1100")) n) → (i : Instr) × ReadsAt n i
row_StX n h =
    let p = padded (places "1001 001r rrrr 1100") in
    (StX (taken 5 (code "r") p n refl), record { fixed = h; letters = (refl, tt) })

row_StXInc : (n : ℕ) → IsTrue (stands (padded (places "1001 001r rrrr 1101")) n) → (i : Instr) × ReadsAt n i
row_StXInc n h =
    let p = padded (places "1001 001r rrrr 1101") in
    (StXInc (taken 5 (code "r") p n refl), record { fixed = h; letters = (refl, tt) })

row_StXDec : (n : ℕ) → IsTrue (stands (padded (places "1001 001r rrrr 1110")) n) → (i : Instr) × ReadsAt n i
row_StXDec n h =
    let p = padded (places "1001 001r rrrr 1110") in
    (StXDec (taken 5 (code "r") p n refl), record { fixed = h; letters = (refl, tt) })

row_StYInc : (n : ℕ) → IsTrue (stands (padded (places "1001 001r rrrr 1001")) n) → (i : Instr) × ReadsAt n i
row_StYInc n h =
    let p = padded (places "1001 001r rrrr 1001") in
    (StYInc (taken 5 (code "r") p n refl), record { fixed = h; letters = (refl, tt) })

row_StYDec : (n : ℕ) → IsTrue (stands (padded (places "1001 001r rrrr 1010")) n) → (i : Instr) × ReadsAt n i
row_StYDec n h =
    let p = padded (places "1001 001r rrrr 1010") in
    (StYDec (taken 5 (code "r") p n refl), record { fixed = h; letters = (refl, tt) })

row_StZInc : (n : ℕ) → IsTrue (stands (padded (places "1001 001r rrrr 0001")) n) → (i : Instr) × ReadsAt n i
row_StZInc n h =
    let p = padded (places "1001 001r rrrr 0001") in
    (StZInc (taken 5 (code "r") p n refl), record { fixed = h; letters = (refl, tt) })

row_StZDec : (n : ℕ) → IsTrue (stands (padded (places "1001 001r rrrr 0010")) n) → (i : Instr) × ReadsAt n i
row_StZDec n h =
    let p = padded (places "1001 001r rrrr 0010") in
    (StZDec (taken 5 (code "r") p n refl), record { fixed = h; letters = (refl, tt) })

row_Std : (n : ℕ) → IsTrue (stands (padded (places "10q0 qq1r rrrr yqqq")) n) → (i : Instr) × ReadsAt n i
row_Std n h =
    let p = padded (places "10q0 qq1r rrrr yqqq") in (
      Std (taken 1 (code "y") p n refl) (taken 6 (code "q") p n refl) (taken 5 (code "r") p n refl),
      record { fixed = h; letters = (refl, (refl, (refl, tt))) },
    )

row_Sts : (n : ℕ) → IsTrue (stands (padded (places "1001 001r rrrr 0000 kkkk kkkk kkkk kkkk")) n) → (i : Instr) × ReadsAt n i
row_Sts n h =
    let p = padded (places "1001 001r rrrr 0000 kkkk kkkk kkkk kkkk") in
    (Sts (taken 16 (code "k") p n refl) (taken 5 (code "r") p n refl), record { fixed = h; letters = (refl, (refl, tt)) })

row_Lpm : (n : ℕ) → IsTrue (stands (padded (places "1001 0101 1100 1000")) n) → (i : Instr) × ReadsAt n i
row_Lpm n h =
    let p = padded (places "1001 0101 1100 1000") in
    (Lpm, record { fixed = h; letters = tt })

row_LpmZ : (n : ℕ) → IsTrue (stands (padded (places "1001 000d dddd 0100")) n) → (i : Instr) × ReadsAt n i
row_LpmZ n h =
    let p = padded (places "1001 000d dddd 0100") in
    (LpmZ (taken 5 (code "d") p n refl), record { fixed = h; letters = (refl, tt) })

row_LpmZInc : (n : ℕ) → IsTrue (stands (padded (places "1001 000d dddd 0101")) n) → (i : Instr) × ReadsAt n i
row_LpmZInc n h =
    let p = padded (places "1001 000d dddd 0101") in
    (LpmZInc (taken 5 (code "d") p n refl), record { fixed = h; letters = (refl, tt) })

row_Spm : (n : ℕ) → IsTrue (stands (padded (places "1001 0101 1110 1000")) n) → (i : Instr) × ReadsAt n i
row_Spm n h =
    let p = padded (places "1001 0101 1110 1000") in
    (Spm, record { fixed = h; letters = tt })

row_In : (n : ℕ) → IsTrue (stands (padded (places "1011 0AAd dddd AAAA")) n) → (i : Instr) × ReadsAt n i
row_In n h =
    let p = padded (places "1011 0AAd dddd AAAA") in
    (In (taken 5 (code "d") p n refl) (taken 6 (code "A") p n refl), record { fixed = h; letters = (refl, (refl, tt)) })

row_Out : (n : ℕ) → IsTrue (stands (padded (places "1011 1AAr rrrr AAAA")) n) → (i : Instr) × ReadsAt n i
row_Out n h =
    let p = padded (places "1011 1AAr rrrr AAAA") in
    (Out (taken 6 (code "A") p n refl) (taken 5 (code "r") p n refl), record { fixed = h; letters = (refl, (refl, tt)) })

row_Push : (n : ℕ) → IsTrue (stands (padded (places "1001 001r rrrr 1111")) n) → (i : Instr) × ReadsAt n i
row_Push n h =
    let p = padded (places "1001 001r rrrr 1111") in
    (Push (taken 5 (code "r") p n refl), record { fixed = h; letters = (refl, tt) })

row_Pop : (n : ℕ) → IsTrue (stands (padded (places "1001 000d dddd 1111")) n) → (i : Instr) × ReadsAt n i
row_Pop n h =
    let p = padded (places "1001 000d dddd 1111") in
    (Pop (taken 5 (code "d") p n refl), record { fixed = h; letters = (refl, tt) })

row_Lsr : (n : ℕ) → IsTrue (stands (padded (places "1001 010d dddd 0110")) n) → (i : Instr) × ReadsAt n i
row_Lsr n h =
    let p = padded (places "1001 010d dddd 0110") in
    (Lsr (taken 5 (code "d") p n refl), record { fixed = h; letters = (refl, tt) })

row_Ror : (n : ℕ) → IsTrue (stands (padded (places "1001 010d dddd 0111")) n) → (i : Instr) × ReadsAt n i
row_Ror n h =
    let p = padded (places "1001 010d dddd 0111") in
    (Ror (taken 5 (code "d") p n refl), record { fixed = h; letters = (refl, tt) })

row_Asr : (n : ℕ) → IsTrue (stands (padded (places "1001 010d dddd 0101")) n) → (i : Instr) × ReadsAt n i
row_Asr n h =
    let p = padded (places "1001 010d dddd 0101") in
    (Asr (taken 5 (code "d") p n refl), record { fixed = h; letters = (refl, tt) })

row_Swap : (n : ℕ) → IsTrue (stands (padded (places "1001 010d dddd 0010")) n) → (i : Instr) × ReadsAt n i
row_Swap n h =
    let p = padded (places "1001 010d dddd 0010") in
    (Swap (taken 5 (code "d") p n refl), record { fixed = h; letters = (refl, tt) })

row_Bset : (n : ℕ) → IsTrue (stands (padded (places "1001 0100 0sss 1000")) n) → (i : Instr) × ReadsAt n i
row_Bset n h =
    let p = padded (places "1001 0100 0sss 1000") in
    (Bset (taken 3 (code "s") p n refl), record { fixed = h; letters = (refl, tt) })

row_Bclr : (n : ℕ) → IsTrue (stands (padded (places "1001 0100 1sss 1000")) n) → (i : Instr) × ReadsAt n i
row_Bclr n h =
    let p = padded (places "1001 0100 1sss 1000") in
    (Bclr (taken 3 (code "s") p n refl), record { fixed = h; letters = (refl, tt) })

row_Sbi : (n : ℕ) → IsTrue (stands (padded (places "1001 1010 AAAA Abbb")) n) → (i : Instr) × ReadsAt n i
row_Sbi n h =
    let p = padded (places "1001 1010 AAAA Abbb") in
    (Sbi (taken 5 (code "A") p n refl) (taken 3 (code "b") p n refl), record { fixed = h; letters = (refl, (refl, tt)) })

row_Cbi : (n : ℕ) → IsTrue (stands (padded (places "1001 1000 AAAA Abbb")) n) → (i : Instr) × ReadsAt n i
row_Cbi n h =
    let p = padded (places "1001 1000 AAAA Abbb") in
    (Cbi (taken 5 (code "A") p n refl) (taken 3 (code "b") p n refl), record { fixed = h; letters = (refl, (refl, tt)) })

row_Bst : (n : ℕ) → IsTrue (stands (padded (places "1111 101d dddd 0bbb")) n) → (i : Instr) × ReadsAt n i
row_Bst n h =
    let p = padded (places "1111 101d dddd 0bbb") in
    (Bst (taken 5 (code "d") p n refl) (taken 3 (code "b") p n refl), record { fixed = h; letters = (refl, (refl, tt)) })

row_Bld : (n : ℕ) → IsTrue (stands (padded (places "1111 100d dddd 0bbb")) n) → (i : Instr) × ReadsAt n i
row_Bld n h =
    let p = padded (places "1111 100d dddd 0bbb") in
    (Bld (taken 5 (code "d") p n refl) (taken 3 (code "b") p n refl), record { fixed = h; letters = (refl, (refl, tt)) })

row_Break : (n : ℕ) → IsTrue (stands (padded (places "1001 0101 1001 1000")) n) → (i : Instr) × ReadsAt n i
row_Break n h =
    let p = padded (places "1001 0101 1001 1000") in
    (Break, record { fixed = h; letters = tt })

row_Nop : (n : ℕ) → IsTrue (stands (padded (places "0000 0000 0000 0000")) n) → (i : Instr) × ReadsAt n i
row_Nop n h =
    let p = padded (places "0000 0000 0000 0000") in
    (Nop, record { fixed = h; letters = tt })

row_Sleep : (n : ℕ) → IsTrue (stands (padded (places "1001 0101 1000 1000")) n) → (i : Instr) × ReadsAt n i
row_Sleep n h =
    let p = padded (places "1001 0101 1000 1000") in
    (Sleep, record { fixed = h; letters = tt })

row_Wdr : (n : ℕ) → IsTrue (stands (padded (places "1001 0101 1010 1000")) n) → (i : Instr) × ReadsAt n i
row_Wdr n h =
    let p = padded (places "1001 0101 1010 1000") in
    (Wdr, record { fixed = h; letters = tt })

-- all rows: a pattern, and the instruction where it stands
abbrev Makers : ℕ → Type 0
Makers n = List ((p : List ℕ) × (IsTrue (stands p n) → Found n))

rows : (n : ℕ) → Makers n
rows n =
    (padded (places "0000 11rd dddd rrrr"), row_Add n)
    ∷ (padded (places "0001 11rd dddd rrrr"), row_Adc n)
    ∷ (padded (places "1001 0110 KKdd KKKK"), row_Adiw n)
    ∷ (padded (places "0001 10rd dddd rrrr"), row_Sub n)
    ∷ (padded (places "0101 KKKK dddd KKKK"), row_Subi n)
    ∷ (padded (places "0000 10rd dddd rrrr"), row_Sbc n)
    ∷ (padded (places "0100 KKKK dddd KKKK"), row_Sbci n)
    ∷ (padded (places "1001 0111 KKdd KKKK"), row_Sbiw n)
    ∷ (padded (places "0010 00rd dddd rrrr"), row_And n)
    ∷ (padded (places "0111 KKKK dddd KKKK"), row_Andi n)
    ∷ (padded (places "0010 10rd dddd rrrr"), row_Or n)
    ∷ (padded (places "0110 KKKK dddd KKKK"), row_Ori n)
    ∷ (padded (places "0010 01rd dddd rrrr"), row_Eor n)
    ∷ (padded (places "1001 010d dddd 0000"), row_Com n)
    ∷ (padded (places "1001 010d dddd 0001"), row_Neg n)
    ∷ (padded (places "1001 010d dddd 0011"), row_Inc n)
    ∷ (padded (places "1001 010d dddd 1010"), row_Dec n)
    ∷ (padded (places "1001 11rd dddd rrrr"), row_Mul n)
    ∷ (padded (places "0000 0010 dddd rrrr"), row_Muls n)
    ∷ (padded (places "0000 0011 0ddd 0rrr"), row_Mulsu n)
    ∷ (padded (places "0000 0011 0ddd 1rrr"), row_Fmul n)
    ∷ (padded (places "0000 0011 1ddd 0rrr"), row_Fmuls n)
    ∷ (padded (places "0000 0011 1ddd 1rrr"), row_Fmulsu n)
    ∷ (padded (places "1100 kkkk kkkk kkkk"), row_Rjmp n)
    ∷ (padded (places "1001 0100 0000 1001"), row_Ijmp n)
    ∷ (padded (places "1001 0100 0000 1100 0kkk kkkk kkkk kkkk"), row_Jmp n)
    ∷ (padded (places "1101 kkkk kkkk kkkk"), row_Rcall n)
    ∷ (padded (places "1001 0101 0000 1001"), row_Icall n)
    ∷ (padded (places "1001 0100 0000 1110 0kkk kkkk kkkk kkkk"), row_Call n)
    ∷ (padded (places "1001 0101 0000 1000"), row_Ret n)
    ∷ (padded (places "1001 0101 0001 1000"), row_Reti n)
    ∷ (padded (places "0001 00rd dddd rrrr"), row_Cpse n)
    ∷ (padded (places "0001 01rd dddd rrrr"), row_Cp n)
    ∷ (padded (places "0000 01rd dddd rrrr"), row_Cpc n)
    ∷ (padded (places "0011 KKKK dddd KKKK"), row_Cpi n)
    ∷ (padded (places "1111 110r rrrr 0bbb"), row_Sbrc n)
    ∷ (padded (places "1111 111r rrrr 0bbb"), row_Sbrs n)
    ∷ (padded (places "1001 1001 AAAA Abbb"), row_Sbic n)
    ∷ (padded (places "1001 1011 AAAA Abbb"), row_Sbis n)
    ∷ (padded (places "1111 00kk kkkk ksss"), row_Brbs n)
    ∷ (padded (places "1111 01kk kkkk ksss"), row_Brbc n)
    ∷ (padded (places "0010 11rd dddd rrrr"), row_Mov n)
    ∷ (padded (places "0000 0001 dddd rrrr"), row_Movw n)
    ∷ (padded (places "1110 KKKK dddd KKKK"), row_Ldi n)
    ∷ (padded (places "1001 000d dddd 1100"), row_LdX n)
    ∷ (padded (places "1001 000d dddd 1101"), row_LdXInc n)
    ∷ (padded (places "1001 000d dddd 1110"), row_LdXDec n)
    ∷ (padded (places "1001 000d dddd 1001"), row_LdYInc n)
    ∷ (padded (places "1001 000d dddd 1010"), row_LdYDec n)
    ∷ (padded (places "1001 000d dddd 0001"), row_LdZInc n)
    ∷ (padded (places "1001 000d dddd 0010"), row_LdZDec n)
    ∷ (padded (places "10q0 qq0d dddd yqqq"), row_Ldd n)
    ∷ (padded (places "1001 000d dddd 0000 kkkk kkkk kkkk kkkk"), row_Lds n)
    ∷ (padded (places "1001 001r rrrr 1100"), row_StX n)
    ∷ (padded (places "1001 001r rrrr 1101"), row_StXInc n)
    ∷ (padded (places "1001 001r rrrr 1110"), row_StXDec n)
    ∷ (padded (places "1001 001r rrrr 1001"), row_StYInc n)
    ∷ (padded (places "1001 001r rrrr 1010"), row_StYDec n)
    ∷ (padded (places "1001 001r rrrr 0001"), row_StZInc n)
    ∷ (padded (places "1001 001r rrrr 0010"), row_StZDec n)
    ∷ (padded (places "10q0 qq1r rrrr yqqq"), row_Std n)
    ∷ (padded (places "1001 001r rrrr 0000 kkkk kkkk kkkk kkkk"), row_Sts n)
    ∷ (padded (places "1001 0101 1100 1000"), row_Lpm n)
    ∷ (padded (places "1001 000d dddd 0100"), row_LpmZ n)
    ∷ (padded (places "1001 000d dddd 0101"), row_LpmZInc n)
    ∷ (padded (places "1001 0101 1110 1000"), row_Spm n)
    ∷ (padded (places "1011 0AAd dddd AAAA"), row_In n)
    ∷ (padded (places "1011 1AAr rrrr AAAA"), row_Out n)
    ∷ (padded (places "1001 001r rrrr 1111"), row_Push n)
    ∷ (padded (places "1001 000d dddd 1111"), row_Pop n)
    ∷ (padded (places "1001 010d dddd 0110"), row_Lsr n)
    ∷ (padded (places "1001 010d dddd 0111"), row_Ror n)
    ∷ (padded (places "1001 010d dddd 0101"), row_Asr n)
    ∷ (padded (places "1001 010d dddd 0010"), row_Swap n)
    ∷ (padded (places "1001 0100 0sss 1000"), row_Bset n)
    ∷ (padded (places "1001 0100 1sss 1000"), row_Bclr n)
    ∷ (padded (places "1001 1010 AAAA Abbb"), row_Sbi n)
    ∷ (padded (places "1001 1000 AAAA Abbb"), row_Cbi n)
    ∷ (padded (places "1111 101d dddd 0bbb"), row_Bst n)
    ∷ (padded (places "1111 100d dddd 0bbb"), row_Bld n)
    ∷ (padded (places "1001 0101 1001 1000"), row_Break n)
    ∷ (padded (places "0000 0000 0000 0000"), row_Nop n)
    ∷ (padded (places "1001 0101 1000 1000"), row_Sleep n)
    ∷ (padded (places "1001 0101 1010 1000"), row_Wdr n)
    ∷ []

-- the place of a row among them
abbrev index : Instr → ℕ
index (Add d r) = 0
index (Adc d r) = 1
index (Adiw d k) = 2
index (Sub d r) = 3
index (Subi d k) = 4
index (Sbc d r) = 5
index (Sbci d k) = 6
index (Sbiw d k) = 7
index (And d r) = 8
index (Andi d k) = 9
index (Or d r) = 10
index (Ori d k) = 11
index (Eor d r) = 12
index (Com d) = 13
index (Neg d) = 14
index (Inc d) = 15
index (Dec d) = 16
index (Mul d r) = 17
index (Muls d r) = 18
index (Mulsu d r) = 19
index (Fmul d r) = 20
index (Fmuls d r) = 21
index (Fmulsu d r) = 22
index (Rjmp k) = 23
index Ijmp = 24
index (Jmp k) = 25
index (Rcall k) = 26
index Icall = 27
index (Call k) = 28
index Ret = 29
index Reti = 30
index (Cpse d r) = 31
index (Cp d r) = 32
index (Cpc d r) = 33
index (Cpi d k) = 34
index (Sbrc r b) = 35
index (Sbrs r b) = 36
index (Sbic a b) = 37
index (Sbis a b) = 38
index (Brbs s k) = 39
index (Brbc s k) = 40
index (Mov d r) = 41
index (Movw d r) = 42
index (Ldi d k) = 43
index (LdX d) = 44
index (LdXInc d) = 45
index (LdXDec d) = 46
index (LdYInc d) = 47
index (LdYDec d) = 48
index (LdZInc d) = 49
index (LdZDec d) = 50
index (Ldd d y q) = 51
index (Lds d k) = 52
index (StX r) = 53
index (StXInc r) = 54
index (StXDec r) = 55
index (StYInc r) = 56
index (StYDec r) = 57
index (StZInc r) = 58
index (StZDec r) = 59
index (Std y q r) = 60
index (Sts k r) = 61
index Lpm = 62
index (LpmZ d) = 63
index (LpmZInc d) = 64
index Spm = 65
index (In d a) = 66
index (Out a r) = 67
index (Push r) = 68
index (Pop d) = 69
index (Lsr d) = 70
index (Ror d) = 71
index (Asr d) = 72
index (Swap d) = 73
index (Bset s) = 74
index (Bclr s) = 75
index (Sbi a b) = 76
index (Cbi a b) = 77
index (Bst d b) = 78
index (Bld d b) = 79
index Break = 80
index Nop = 81
index Sleep = 82
index Wdr = 83

pattern_at : (n : ℕ) → Makers n → ℕ → List ℕ
pattern_at n [] k = []
pattern_at n (m ∷ ms) zero = m.0
pattern_at n (m ∷ ms) (suc k) = pattern_at n ms k

abbrev NoneStands : (n : ℕ) → Makers n → Type 0
NoneStands n [] = Unit {0}
NoneStands n (m ∷ ms) = (stands m.0 n ≡ false) × NoneStands n ms

search : (n : ℕ) (ms : Makers n) → Found n ⊎ NoneStands n ms
search n [] = inr tt
search n (m ∷ ms) = go (stands m.0 n) refl (search n ms)
  where
    go : (t : Bool) → stands m.0 n ≡ t → Found n ⊎ NoneStands n ms → Found n ⊎ NoneStands n (m ∷ ms)
    go true e rest = inl (m.1 e)
    go false e (inl found) = inl found
    go false e (inr none) = inr (e, none)

fails_at : (n : ℕ) (ms : Makers n) (k : ℕ) → k < length ms → NoneStands n ms → stands (pattern_at n ms k) n ≡ false
unfolding pattern_at
fails_at n [] k h none = absurd (omega arith)
fails_at n (m ∷ ms) zero h none = none.0
fails_at n (m ∷ ms) (suc k) h none = fails_at n ms k (omega arith) none.1

-- each instruction's pattern is one of them
its_pattern : (n : ℕ) (i : Instr) → pattern_at n (rows n) (index i) ≡ pattern_of i
unfolding pattern_at rows
its_pattern n Nop = refl
its_pattern n i = refl

within : (n : ℕ) (i : Instr) → index i < length (rows n)
unfolding rows
within n Nop = omega arith
within n i = omega arith

pub read_or_none : (n : ℕ) → Found n ⊎ ((i : Instr) → ReadsAt n i → ⊥)
read_or_none n = go (search n (rows n))
  where
    none_read : NoneStands n (rows n) → (i : Instr) → ReadsAt n i → ⊥
    none_read none i read =
        let no : stands (pattern_of i) n ≡ false = sym (ap (λ p. stands p n) (its_pattern n i)) ∙ fails_at n (rows n) (index i) (within n i)
        none in
        let yes : stands (pattern_of i) n ≡ true = read.fixed in
        cc

    go : Found n ⊎ NoneStands n (rows n) → Found n ⊎ ((i : Instr) → ReadsAt n i → ⊥)
    go (inl found) = inl found
    go (inr none) = inr (none_read none)
