-- What placing bytes in the flash says of the bytes that it holds.
use Rattle.std.proofs.Common.{◌≡◌, ◌≢◌, ℕ, zero, suc, ◌+◌, ◌-◌, ◌<◌, ◌≤◌, ◌==◌, ◌||◌, true, false, List, [], ◌∷◌, ◌++◌, length, get_or}
use Rattle.std.proofs.Common.{Option, Ok, Err, Some, None, ◌⊎◌, inl, inr, refl, sym, ap, subst, ◌∙◌, arith, append_assoc}
use Rattle.std.specs.Prelude.{nat_le}
use Rattle.std.proofs.lemmas.Bool.{eqb-true, eqb-false}
use Rattle.std.proofs.lemmas.Bool.Decides.{nat_tests, eqb_tells}
use Rattle.std.proofs.lemmas.List.{append-nil}
use Rattle.std.specs.FinMap.{get, insert}
use Rattle.uz_hex.specs.Records.{numbered, HoldsByteAt}
use Rattle.uz_hex.specs.HexText.{InFlash, Agree, Holds}
use Rattle.uz_hex.specs.Reading.{Flash, takes, with_bytes, place}
use Rattle.uz_hex.specs.declared.errors.HexWhy.{HexWhy}
use Rattle.uz_hex.specs.declared.errors.HexWhy.TheVariants as why
use Rattle.uz_hex.proofs.CellsLemmas.{get-insert_same, get-insert_other}
use Rattle.uz_hex.proofs.DigitLaws.{chosen}

-- ---- entries

pub gives_left : (xs ys : List (ℕ × ℕ)) (at b : ℕ) → HoldsByteAt xs at b → HoldsByteAt (xs ++ ys) at b
gives_left [] ys at b h = absurd h
gives_left (x ∷ xs) ys at b (inl here) = inl here
gives_left (x ∷ xs) ys at b (inr later) = inr (gives_left xs ys at b later)

pub gives_right : (xs ys : List (ℕ × ℕ)) (at b : ℕ) → HoldsByteAt ys at b → HoldsByteAt (xs ++ ys) at b
gives_right [] ys at b h = h
gives_right (x ∷ xs) ys at b h = inr (gives_right xs ys at b h)

pub gives_either : (xs ys : List (ℕ × ℕ)) (at b : ℕ) → HoldsByteAt (xs ++ ys) at b → HoldsByteAt xs at b ⊎ HoldsByteAt ys at b
gives_either [] ys at b h = inr h
gives_either (x ∷ xs) ys at b (inl here) = inl (inl here)
gives_either (x ∷ xs) ys at b (inr later) = elim (gives_either xs ys at b later) [ inl l ↦ inl (inr l) | inr r ↦ inr r ]

numbered_within : (at : ℕ) (bytes : List ℕ) (x b : ℕ) → HoldsByteAt (numbered at bytes) x b → (at ≤ x) × (x < at + length bytes)
numbered_within at [] x b h = absurd h
numbered_within at (byte ∷ bytes) x b (inl here) = let e = here.0 in (omega arith, omega arith)
numbered_within at (byte ∷ bytes) x b (inr later) = let r = numbered_within (suc at) bytes x b later in
    (omega (arith, r.0), omega (arith, r.1))

pub numbered_at : (at : ℕ) (bytes : List ℕ) (k x : ℕ) → k < length bytes → x ≡ at + k → HoldsByteAt (numbered at bytes) x (get_or bytes k 0)
numbered_at at [] k x h e = absurd (omega arith)
numbered_at at (byte ∷ bytes) zero x h e = inl (omega arith, refl)
numbered_at at (byte ∷ bytes) (suc k) x h e = inr (numbered_at (suc at) bytes k x (omega arith) (omega arith))

-- a map holds one byte at an address
pub agree_held : (flash : Flash) (es : List (ℕ × ℕ)) → Holds flash es → Agree es
agree_held flash es h at b c gb gc =
    let eb = (h at b).1 gb in
    let ec = (h at c).1 gc in
    cc (sym eb ∙ ec)

-- ---- one byte

taken : (held : Option ℕ) (byte b : ℕ) → takes held byte ≡ true → held ≡ Some b → b ≡ byte
taken None byte b t e = cc e
taken (Some there) byte b t e =
    let same : there ≡ byte = eqb-true there byte t in
    cc (e, same)

refused : (held : Option ℕ) (byte : ℕ) → takes held byte ≡ false → (there : ℕ) × (held ≡ Some there) × (there ≢ byte)
refused None byte t = cc t
refused (Some there) byte t = (there, refl, eqb-false there byte t)

holds_insert : (flash : Flash) (es : List (ℕ × ℕ)) (at byte : ℕ) → takes (get flash at) byte ≡ true → Holds flash es
    → Holds (insert flash at byte) (es ++ (at, byte) ∷ [])
holds_insert flash es at byte t h x b = elim (eqb_tells x at) [
  | inl here ↦
      let e : x ≡ at = here.1 in
      let now = get-insert_same flash at byte x e in (
        λ g. let same : byte ≡ b = cc (sym now ∙ g) in gives_right es ((at, byte) ∷ []) x b (inl (sym e, same)),
        λ g. elim (gives_either es ((at, byte) ∷ []) x b g) [
          | inl old ↦
              let held : get flash at ≡ Some b = subst (λ y. get flash y ≡ Some b) e ((h x b).1 old) in
              now ∙ ap Some (sym (taken (get flash at) byte b t held))
          | inr new ↦ now ∙ ap Some (only_byte new)
        ],
      )
  | inr elsewhere ↦
      let now = get-insert_other flash at byte x elsewhere.1 in (
        λ g. gives_left es ((at, byte) ∷ []) x b ((h x b).0 (sym now ∙ g)),
        λ g. elim (gives_either es ((at, byte) ∷ []) x b g) [
          | inl old ↦ now ∙ (h x b).1 old
          | inr new ↦ absurd (elsewhere.1 (sym (only_at new)))
        ],
      )
]
  where
    only_byte : HoldsByteAt ((at, byte) ∷ []) x b → byte ≡ b
    only_byte (inl e) = e.1
    only_byte (inr e) = absurd e

    only_at : HoldsByteAt ((at, byte) ∷ []) x b → at ≡ x
    only_at (inl e) = e.0
    only_at (inr e) = absurd e

-- ---- many bytes

with_bytes_ok : (bytes : List ℕ) (at : ℕ) (flash held : Flash) (es : List (ℕ × ℕ)) → with_bytes flash at bytes ≡ Ok held → Holds flash es
    → Holds held (es ++ numbered at bytes)
with_bytes_ok [] at flash held es r h =
    let same : flash ≡ held = cc r in
    subst (λ f. Holds f (es ++ [])) same (subst (Holds flash) (sym (append-nil es)) h)
with_bytes_ok (byte ∷ bytes) at flash held es r h =
    elim (chosen (takes (get flash at) byte) (with_bytes (insert flash at byte) (suc at) bytes) (Err why.Conflict) (Ok held) r) [
      | inl can ↦ subst (Holds held) (append_assoc es ((at, byte) ∷ []) (numbered (suc at) bytes))
          (with_bytes_ok bytes (suc at) (insert flash at byte) held (es ++ (at, byte) ∷ []) can.1 (holds_insert flash es at byte can.0 h))
      | inr cannot ↦ cc cannot.1
    ]

-- two bytes of one address
abbrev pub Clash : List (ℕ × ℕ) → Type 0
Clash es = (at b c : ℕ) × HoldsByteAt es at b × HoldsByteAt es at c × (b ≢ c)

with_bytes_err : (bytes : List ℕ) (at : ℕ) (flash : Flash) (w : HexWhy) (es : List (ℕ × ℕ)) → with_bytes flash at bytes ≡ Err w
    → Holds flash es
    → (w ≡ why.Conflict) × Clash (es ++ numbered at bytes)
with_bytes_err [] at flash w es r h = cc r
with_bytes_err (byte ∷ bytes) at flash w es r h =
    elim (chosen (takes (get flash at) byte) (with_bytes (insert flash at byte) (suc at) bytes) (Err why.Conflict) (Err w) r) [
      | inl can ↦
          let later = with_bytes_err bytes (suc at) (insert flash at byte) w (es ++ (at, byte) ∷ []) can.1
          (holds_insert flash es at byte can.0 h) in
          (later.0, subst Clash (append_assoc es ((at, byte) ∷ []) (numbered (suc at) bytes)) later.1)
      | inr cannot ↦
          let there = refused (get flash at) byte cannot.0 in
          let is : w ≡ why.Conflict = cc cannot.1 in (
            is,
            (
              at,
              there.0,
              byte,
              gives_left es (numbered at (byte ∷ bytes)) at there.0 ((h at there.0).0 there.1),
              gives_right es (numbered at (byte ∷ bytes)) at byte (inl (refl, refl)),
              there.2,
            ),
          )
    ]

-- ---- with the test of the range

fits_range : (at n x : ℕ) → ((n == 0) || nat_le (at + n) 65536) ≡ true → at ≤ x → x < at + n → x < 65536
fits_range at n x t low high = grind (arith, nat_tests)

past_range : (at n : ℕ) → ((n == 0) || nat_le (at + n) 65536) ≡ false → (0 < n) × (65536 < at + n)
past_range at n t = (grind (arith, nat_tests), grind (arith, nat_tests))

in_flash_numbered : (at : ℕ) (bytes : List ℕ) → ((length bytes == 0) || nat_le (at + length bytes) 65536) ≡ true
    → InFlash (numbered at bytes)
in_flash_numbered at bytes t x b g =
    let in' = numbered_within at bytes x b g in
    fits_range at (length bytes) x t in'.0 in'.1

pub place_ok : (bytes : List ℕ) (at : ℕ) (flash held : Flash) (es : List (ℕ × ℕ)) → place flash at bytes ≡ Ok held → Holds flash es
    → Holds held (es ++ numbered at bytes) × InFlash (numbered at bytes)
place_ok bytes at flash held es r h =
    elim (chosen ((length bytes == 0) || nat_le (at + length bytes) 65536) (with_bytes flash at bytes) (Err why.Range) (Ok held) r) [
      | inl fits ↦ (with_bytes_ok bytes at flash held es fits.1 h, in_flash_numbered at bytes fits.0)
      | inr past ↦ cc past.1
    ]

-- a byte past the flash
abbrev pub Past : List (ℕ × ℕ) → Type 0
Past es = (at b : ℕ) × HoldsByteAt es at b × (65536 ≤ at)

pub place_err : (bytes : List ℕ) (at : ℕ) (flash : Flash) (w : HexWhy) (es : List (ℕ × ℕ)) → place flash at bytes ≡ Err w → Holds flash es
    → ((w ≡ why.Range) × Past (numbered at bytes)) ⊎ ((w ≡ why.Conflict) × InFlash (numbered at bytes) × Clash (es ++ numbered at bytes))
place_err bytes at flash w es r h =
    elim (chosen ((length bytes == 0) || nat_le (at + length bytes) 65536) (with_bytes flash at bytes) (Err why.Range) (Err w) r) [
      | inl fits ↦
          let clash = with_bytes_err bytes at flash w es fits.1 h in
          inr (clash.0, in_flash_numbered at bytes fits.0, clash.1)
      | inr past ↦
          let far = past_range at (length bytes) past.0 in
          let is : w ≡ why.Range = cc past.1 in
          let k : ℕ = length bytes - 1 in
          inl (is, (at + k, get_or bytes k 0, numbered_at at bytes k (at + k) (omega arith) refl, omega arith))
    ]
