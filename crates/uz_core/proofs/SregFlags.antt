-- SREG after an operation: replacing the bits of a mask by a value's is merging the flags that they stand for.
use Rattle.std.proofs.Common.{◌≡◌, ◌<◌, ◌≤◌, ℕ, zero, suc, ◌+◌, ◌-◌, ◌*◌, ◌/◌, ◌%◌, ◌^◌, Bool, true, false, if◌then◌else◌, nat_eq, Option}
use Rattle.std.proofs.Common.{Some, None, List, [], ◌∷◌, min, max, bit_and, bit_or, refl, sym, ◌∙◌, ap, arith}
use Rattle.std.specs.Int.Bits.{and_step, or_step, and_zero_r}
use Rattle.std.specs.Int.{bit_at}
use Rattle.std.proofs.lemmas.Nat.Bits.{bit_at-suc, bit_at_lowest}
use Rattle.uz_core.specs.declared.machine.Flags.{Flags}
use Rattle.uz_core.specs.Arithmetic.{bit_value, flag_at, flags_of, merged_sreg, FitsMask}

-- One bit: of the value where the mask has it, else the old one

abbrev chosen_bit : ℕ → ℕ → ℕ → ℕ
chosen_bit m v s = if nat_eq m 1 then bit_value (nat_eq v 1) else s

abbrev flag_bit : ℕ → ℕ → Option Bool
flag_bit m v = if nat_eq m 1 then Some (nat_eq v 1) else None

-- the lowest n bits chosen, and the rest kept
abbrev chosen_bits : ℕ → ℕ → ℕ → ℕ → ℕ
chosen_bits zero m v s = s
chosen_bits (suc n) m v s = chosen_bit (m % 2) (v % 2) (s % 2) + 2 * chosen_bits n (m / 2) (v / 2) (s / 2)

abbrev flag_list : ℕ → ℕ → ℕ → List (Option Bool)
flag_list zero m v = []
flag_list (suc n) m v = flag_bit (m % 2) (v % 2) ∷ flag_list n (m / 2) (v / 2)

-- The mask's bits

low_bit : (m v s : ℕ) → m < 2 → v ≤ m → s < 2 → max (min s (1 - m)) v ≡ chosen_bit m v s
low_bit zero zero zero hm hv hs = refl
low_bit zero zero (suc zero) hm hv hs = refl
low_bit zero zero (suc (suc s)) hm hv hs = absurd (omega arith)
low_bit zero (suc v) s hm hv hs = absurd (omega arith)
low_bit (suc zero) zero zero hm hv hs = refl
low_bit (suc zero) zero (suc zero) hm hv hs = refl
low_bit (suc zero) zero (suc (suc s)) hm hv hs = absurd (omega arith)
low_bit (suc zero) (suc zero) zero hm hv hs = refl
low_bit (suc zero) (suc zero) (suc zero) hm hv hs = refl
low_bit (suc zero) (suc zero) (suc (suc s)) hm hv hs = absurd (omega arith)
low_bit (suc zero) (suc (suc v)) s hm hv hs = absurd (omega arith)
low_bit (suc (suc m)) v s hm hv hs = absurd (omega arith)

pow-suc : (k : ℕ) → 2 ^ suc k ≡ 2 ^ k + 2 ^ k
pow-suc k = omega arith

no_bits : (s : ℕ) → s < 2 → bit_or (bit_and s 1) 0 ≡ s
no_bits zero h = refl
no_bits (suc zero) h = refl
no_bits (suc (suc s)) h = absurd (omega arith)

masked : (n m v s : ℕ) → m < 2 ^ n → bit_and v m ≡ v → s < 2 ^ suc n → bit_or (bit_and s (2 ^ suc n - 1 - m)) v ≡ chosen_bits n m v s
masked zero m v s hm hv hs =
    let em : m ≡ 0 = omega arith in
    let ev : v ≡ 0 = sym hv ∙ ap (bit_and v) em ∙ and_zero_r v in
    let ec : 2 ^ suc zero - 1 - m ≡ 1 = omega arith in
    ap (λ c. bit_or (bit_and s c) v) ec ∙ ap (bit_or (bit_and s 1)) ev ∙ no_bits s (omega arith)
masked (suc n) m v s hm hv hs =
    let c : ℕ = 2 ^ suc (suc n) - 1 - m in
    let half : c / 2 ≡ 2 ^ suc n - 1 - m / 2 = omega (arith, pow-suc n, pow-suc (suc n)) in
    let odd : c % 2 ≡ 1 - m % 2 = omega (arith, pow-suc n, pow-suc (suc n)) in
    let value : bit_and (v / 2) (m / 2) ≡ v / 2 = omega (arith, and_step v m, hv) in
    let within : v % 2 ≤ m % 2 = omega (arith, and_step v m, hv) in
    let rest : bit_or (bit_and (s / 2) (c / 2)) (v / 2) ≡ chosen_bits n (m / 2) (v / 2) (s / 2) =
    ap (λ x. bit_or (bit_and (s / 2) x) (v / 2)) half ∙ masked n (m / 2) (v / 2) (s / 2) (omega (arith, pow-suc n)) value
    (omega (arith, pow-suc (suc n))) in
    let upper : bit_and s c / 2 ≡ bit_and (s / 2) (c / 2) = omega (arith, and_step s c) in
    let lower : bit_and s c % 2 ≡ min (s % 2) (1 - m % 2) = omega (arith, and_step s c, odd) in
    let low : max (min (s % 2) (1 - m % 2)) (v % 2) ≡ chosen_bit (m % 2) (v % 2) (s % 2) = low_bit (m % 2) (v % 2) (s % 2) (omega arith)
    within (omega arith) in
    let top : bit_or (bit_and s c / 2) (v / 2) ≡ chosen_bits n (m / 2) (v / 2) (s / 2) = ap (λ x. bit_or x (v / 2)) upper ∙ rest in
    let bottom : max (bit_and s c % 2) (v % 2) ≡ chosen_bit (m % 2) (v % 2) (s % 2) = ap (λ x. max x (v % 2)) lower ∙ low in
    omega (arith, or_step (bit_and s c) v, top, bottom)

-- The list of flags

merged_one : (b x : Bool) (flags : List (Option Bool)) (s : ℕ) → merged_sreg ((if b then Some x else None) ∷ flags)
    s ≡ (if b then bit_value x else s % 2) + 2 * merged_sreg flags (s / 2)
merged_one true x flags s = refl
merged_one false x flags s = refl

merged_list : (n m v s : ℕ) → merged_sreg (flag_list n m v) s ≡ chosen_bits n m v s
merged_list zero m v s = refl
merged_list (suc n) m v s =
    merged_one (nat_eq (m % 2) 1) (nat_eq (v % 2) 1) (flag_list n (m / 2) (v / 2)) s ∙
    ap (λ x. chosen_bit (m % 2) (v % 2) (s % 2) + 2 * x) (merged_list n (m / 2) (v / 2) (s / 2))

abbrev halved : ℕ → ℕ → ℕ
halved zero n = n
halved (suc k) n = halved k (n / 2)

bit_of : (k n : ℕ) → bit_at n k ≡ halved k n % 2
bit_of zero n = bit_at_lowest n
bit_of (suc k) n = bit_at-suc n k ∙ bit_of k (n / 2)

flag_of : (k m v : ℕ) → flag_at (record { value = v; mask = m }) k ≡ flag_bit (halved k m % 2) (halved k v % 2)
flag_of k m v = ap (λ x. flag_bit x (bit_at v k)) (bit_of k m) ∙ ap (flag_bit (halved k m % 2)) (bit_of k v)

cons_same : {x y : Option Bool} {xs ys : List (Option Bool)} → x ≡ y → xs ≡ ys → (x ∷ xs) ≡ (y ∷ ys)
cons_same {x} {y} {xs} {ys} p q = ap (λ a. a ∷ xs) p ∙ ap (λ rest. y ∷ rest) q

flags_list : (f : Flags) → flags_of f ≡ flag_list 7 f.mask f.value
flags_list f =
    cons_same (flag_of 0 f.mask f.value)
    (cons_same (flag_of 1 f.mask f.value) (cons_same (flag_of 2 f.mask f.value) (cons_same (flag_of 3 f.mask f.value)
    (cons_same (flag_of 4 f.mask f.value) (cons_same (flag_of 5 f.mask f.value) (cons_same (flag_of 6 f.mask f.value) refl))))))

-- what a core does with a value and a mask
pub replaced_bits : (f : Flags) (sreg : ℕ) → FitsMask f → sreg < 256 → bit_or (bit_and sreg (255 - f.mask)) f.value ≡ merged_sreg
    (flags_of f) sreg
replaced_bits f sreg fits h =
    masked 7 f.mask f.value sreg fits.0 fits.1 h ∙ sym (merged_list 7 f.mask f.value sreg) ∙ ap (λ flags. merged_sreg flags sreg)
    (sym (flags_list f))
