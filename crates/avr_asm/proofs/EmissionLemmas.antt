-- One more operand of data, and bytes that can't be put.
use Rattle.std.proofs.Common.{◌≡◌, ℕ, zero, suc, ◌+◌, ◌<◌, ◌≤◌, Bool, true, false, List, [], ◌∷◌, Bor, length, get_or, drop, map, refl}
use Rattle.std.proofs.Common.{◌++◌, ◌∙◌, ap, add-one, append_assoc, drop-cons, arith, Err, ℤ, is_some, nat_le}
use Rattle.std.specs.Int.{int_shr}
use Rattle.std.specs.FinMap as finite
use Rattle.std.proofs.lemmas.List.{drop_all}
use Rattle.std.proofs.lemmas.Bool.Decides.{nat_tests}
use Rattle.avr_text.specs.declared.tokens.Token.{Token}
use Rattle.avr_text.specs.Names.{NameMap}
use Rattle.avr_text.specs.declared.errors.AsmWhy.TheVariants.{Past, Overlap}
use Rattle.avr_text.specs.Faults.{OrFault}
use Rattle.avr_asm.specs.Emission.{bytes_of_number, data_value, low_byte, with_number, data_from, put, Flash}

part_there : (ls : List (Bor (List Token))) (i : ℕ) (d : Bor (List Token)) → i < length ls → get_or (map (λ l. l.now) ls) i
    [] ≡ (get_or ls i d).now
part_there [] i d h = absurd (omega arith)
part_there (l ∷ ls) zero d h = refl
part_there (l ∷ ls) (suc i) d h = part_there ls i d (omega arith)

parts_len : (ls : List (Bor (List Token))) → length (map (λ l. l.now) ls) ≡ length ls
parts_len [] = refl
parts_len (l ∷ ls) = ap suc (parts_len ls)

pub data_more : (wide : Bool) (line : List ℕ) (symbols : NameMap) (old new : OrFault (List ℕ)) (ls : List (Bor (List Token))) (i : ℕ)
    (d : Bor (List Token)) → i < length ls
    → new ≡ with_number wide old (data_value wide line symbols (get_or ls i d).now)
    → data_from wide line symbols new (drop (i + 1) (map (λ l. l.now) ls)) ≡ data_from wide line symbols old (drop i (map (λ l. l.now) ls))
data_more wide line symbols old new ls i d h e = grind (arith, nat_tests, parts_len ls, add-one, drop-cons, part_there ls i d h)

pub data_end : (wide : Bool) (line : List ℕ) (symbols : NameMap) (all : OrFault (List ℕ)) (ls : List (Bor (List Token))) (i : ℕ)
    → length ls ≤ i → data_from wide line symbols all (drop i (map (λ l. l.now) ls)) ≡ all
data_end wide line symbols all ls i h = cc (drop_all i (map (λ (l : Bor (List Token)). l.now) ls) (omega (arith, parts_len ls)))

pub put_past : (at i : ℕ) (bytes : List ℕ) (flash : Flash) → i < length bytes → 65536 ≤ at → put at (drop i bytes) flash ≡ Err Past
put_past at i bytes flash h far =
    let test : nat_le 65536 at ≡ true = grind (arith, nat_tests) in
    rw (drop-cons bytes i 0 h) (rw test refl)

pub put_taken : (at i : ℕ) (bytes : List ℕ) (flash : Flash) → i < length bytes → at < 65536 → is_some (finite.get flash at) ≡ true
    → put at (drop i bytes) flash ≡ Err Overlap
put_taken at i bytes flash h near taken =
    let test : nat_le 65536 at ≡ false = grind (arith, nat_tests) in
    rw (drop-cons bytes i 0 h) (rw (test, taken) refl)

pub put_more : (at i : ℕ) (bytes : List ℕ) (flash next : Flash) → i < length bytes → at < 65536 → is_some (finite.get flash at) ≡ false
    → next ≡ finite.insert flash at (get_or bytes i 0) → put (at + 1) (drop (i + 1) bytes) next ≡ put at (drop i bytes) flash
put_more at i bytes flash next h near free is =
    let test : nat_le 65536 at ≡ false = grind (arith, nat_tests) in
    let after : i + 1 ≡ suc i = omega arith in
    ap (put (at + 1) (drop (i + 1) bytes)) is ∙ ap (λ k. put (at + 1) (drop k bytes) (finite.insert flash at (get_or bytes i 0))) after
    ∙ rw (drop-cons bytes i 0 h) (rw (test, free) refl)

-- a number of two bytes
pub wide_pushed : (wide : Bool) (value : ℤ) (old first both : List ℕ) (low high : ℕ) → wide ≡ true → first ≡ old ++ low ∷ []
    → both ≡ first ++ high ∷ [] → low ≡ low_byte value → high ≡ low_byte (int_shr value 8) → both ≡ old ++ bytes_of_number wide value
wide_pushed wide value old first both low high is first_is both_are low_is high_is = cc (append_assoc old (low ∷ []) (high ∷ []))
