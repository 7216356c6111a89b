-- Bytes of a source that an image hasn't.
use Rattle.std.proofs.Common.{◌≡◌, ◌≢◌, ℕ, ◌+◌, ◌≤◌, ◌==◌, Bool, true, false, nat_lt, refl, sym, ◌∙◌, ap, subst, arith}
use Rattle.std.specs.Prelude.{Option, Some, None, if◌then◌else◌}
use Rattle.std.specs.Ordering.{nat_cmp}
use Rattle.std.specs.FinMap.{empty, get, gets, insert, get-empty, len, len-empty, same_map, nat_cmp-IsAntisymmetric}
use Rattle.std.specs.Cmp.{nat_cmp_total}
use Rattle.std.proofs.lemmas.Bool.Decides.{nat_tests}
use Rattle.uz_hex.specs.Cells.{IsFlash}
use Rattle.uz_hex.specs.Reading.{Flash}
use Rattle.uz_certificate_commands.specs.HintedSearch.{AreOdd, IsWithin, unless_same}

-- the same byte on both sides
same_byte : (byte : ℕ) → unless_same (Some byte) (Some byte) ≡ None
same_byte byte = let same : byte == byte ≡ true = grind (arith, nat_tests) in rw same refl

none_odd : (byte other : Option ℕ) → ((b : ℕ) → byte ≡ Some b → other ≡ Some b) → unless_same byte other ≡ None
none_odd None other h = refl
none_odd (Some b) other h = ap (unless_same (Some b)) (h b refl) ∙ same_byte b

odd_none : (byte other : Option ℕ) (b : ℕ) → unless_same byte other ≡ None → byte ≡ Some b → other ≡ Some b
odd_none None other b none is = absurd (cc is)
odd_none (Some x) None b none is = absurd (cc none)
odd_none (Some x) (Some y) b none is = by_test (x == y) refl none
  where
    by_test : (t : Bool) → (x == y) ≡ t → (if t then None else Some x) ≡ None → Some y ≡ Some b
    by_test true e none = let same : x ≡ y = grind (arith, nat_tests, e) in sym (ap (λ n. Some n) same) ∙ is
    by_test false e none = absurd (cc none)

-- all bytes are in the image just where none is odd
pub within_none : (placed image odd : Flash) → AreOdd placed image odd → IsWithin placed image → odd ≡ empty
within_none placed image odd are within =
    same_map nat_cmp_total nat_cmp-IsAntisymmetric odd empty (λ at. are at ∙ none_odd (get placed at) (get image at) (within at)
    ∙ sym (get-empty nat_cmp at))

pub none_within : (placed image odd : Flash) → AreOdd placed image odd → odd ≡ empty → IsWithin placed image
none_within placed image odd are none at byte is =
    odd_none (get placed at) (get image at) byte (sym (are at) ∙ ap (λ m. get m at) none ∙ get-empty nat_cmp at) is

-- some are odd where their number isn't 0
pub some_odd : (odd : Flash) (count : ℕ) → count ≡ len odd → count ≢ 0 → odd ≢ empty
some_odd odd count is some none = some (is ∙ ap len none ∙ len-empty nat_cmp ℕ)

-- an image and one odd map
pub one_odd : (placed image a b : Flash) → AreOdd placed image a → AreOdd placed image b → a ≡ b
one_odd placed image a b first second = same_map nat_cmp_total nat_cmp-IsAntisymmetric a b (λ at. first at ∙ sym (second at))

-- The odd bytes below an address

abbrev pub AreOddBelow : ℕ → Flash → Flash → Flash → Type 0
AreOddBelow end placed image odd = (at : ℕ) → get odd at ≡ (if nat_lt at end then unless_same (get placed at) (get image at) else None)

pub odd_start : (placed image odd : Flash) → odd ≡ empty → AreOddBelow 0 placed image odd
odd_start placed image odd is at =
    let none : nat_lt at 0 ≡ false = grind (arith, nat_tests) in
    rw none (ap (λ m. get m at) is ∙ get-empty nat_cmp at)

-- one address more
odd_step : (placed image odd next : Flash) (end : ℕ) → AreOddBelow end placed image odd
    → ((at : ℕ) → at ≢ end → get next at ≡ get odd at) → get next end ≡ unless_same (get placed end) (get image end)
    → AreOddBelow (end + 1) placed image next
odd_step placed image odd next end are others here at = by_test (at == end) refl
  where
    by_test : (t : Bool) → (at == end) ≡ t
        → get next at ≡ (if nat_lt at (end + 1) then unless_same (get placed at) (get image at) else None)
    by_test true e =
        let same : at ≡ end = grind (arith, nat_tests, e) in
        let inside : nat_lt at (end + 1) ≡ true = grind (arith, nat_tests, same) in
        rw inside (subst (λ n. get next n ≡ unless_same (get placed n) (get image n)) (sym same) here)
    by_test false e =
        let apart : at ≢ end = λ same. grind (arith, nat_tests, e, same) in
        let alike : nat_lt at (end + 1) ≡ nat_lt at end = grind (arith, nat_tests, apart) in
        rw alike (others at apart ∙ are at)

pub odd_kept : (placed image odd : Flash) (end : ℕ) → AreOddBelow end placed image odd
    → None ≡ unless_same (get placed end) (get image end) → AreOddBelow (end + 1) placed image odd
odd_kept placed image odd end are none =
    odd_step placed image odd odd end are (λ at apart. refl) (past ∙ none)
  where
    past : get odd end ≡ None
    past = let outside : nat_lt end end ≡ false = grind (arith, nat_tests) in are end ∙ rw outside refl

set_other : (odd : Flash) (end byte at : ℕ) → at ≢ end → get (insert odd end byte) at ≡ get odd at
set_other odd end byte at apart = grind (arith, gets, nat_tests)

set_here : (odd : Flash) (end byte : ℕ) → get (insert odd end byte) end ≡ Some byte
set_here odd end byte = let same : end ≡ end = refl in grind (arith, gets, nat_tests)

pub odd_set : (placed image odd next : Flash) (end byte : ℕ) → AreOddBelow end placed image odd
    → Some byte ≡ unless_same (get placed end) (get image end) → next ≡ insert odd end byte → AreOddBelow (end + 1) placed image next
odd_set placed image odd next end byte are some is =
    odd_step placed image odd next end are (λ at apart. ap (λ m. get m at) is ∙ set_other odd end byte at apart)
    (ap (λ m. get m end) is ∙ set_here odd end byte ∙ some)

-- the odd byte of an address, as it is computed
pub odd_told : (placed image : Flash) (end : ℕ) (byte other result said : Option ℕ) → byte ≡ get placed end → other ≡ get image end
    → result ≡ unless_same byte other → result ≡ said → said ≡ unless_same (get placed end) (get image end)
odd_told placed image end byte other result said byte_is other_is is says =
    sym says ∙ is ∙ ap (λ b. unless_same b other) byte_is ∙ ap (unless_same (get placed end)) other_is

-- past the flash nothing is placed
pub odd_whole : (placed image odd : Flash) (end : ℕ) → IsFlash placed → 65536 ≤ end → AreOddBelow end placed image odd
    → AreOdd placed image odd
odd_whole placed image odd end flash past are at = by_test (nat_lt at end) refl (are at)
  where
    by_test : (t : Bool) → nat_lt at end ≡ t → get odd at ≡ (if t then unless_same (get placed at) (get image at) else None)
        → get odd at ≡ unless_same (get placed at) (get image at)
    by_test true e h = h
    by_test false e h =
        let outside : end ≤ at = grind (arith, nat_tests, e) in
        h ∙ sym (none_odd (get placed at) (get image at) (λ b is. let inside = (flash at b is).0 in absurd (omega (arith, outside, inside, past))))
