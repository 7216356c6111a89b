-- Each image has a listing: each word adds its line, or nothing.
use Rattle.std.proofs.Common.{ℕ, zero, suc, ◌+◌, ◌*◌, ◌^◌, Bool, true, false, ◌&&◌, not, List, [], ◌++◌, ◌⊎◌, nat_eq, inl, inr, refl}
use Rattle.std.specs.Ordering.{nat_cmp}
use Rattle.std.specs.FinMap.{FinMap}
use Rattle.uz_hex.specs.Cells.{word_of}
use Rattle.avr_table.specs.Rows.{ReadsAt, words_of}
use Rattle.avr_table.specs.declared.Instr.{Instr}
use Rattle.avr_dis.specs.Listing.{AddsLine, IsListing, LineAt, Listed, present, row_line, word_line}
use Rattle.avr_dis.proofs.EachRow.{Found, read_or_none}

line_there : (image : FinMap nat_cmp ℕ) (at : ℕ) → (two : Bool) × (text : List ℕ) × LineAt image at two text
line_there image at = go (read_or_none (word_of image at * 2 ^ 16 + word_of image (at + 1)))
  where
    go : Found (word_of image at * 2 ^ 16 + word_of image (at + 1))
        ⊎ ((i : Instr) → ReadsAt (word_of image at * 2 ^ 16 + word_of image (at + 1)) i → ⊥) → (two : Bool) × (text : List ℕ)
        × LineAt image at two text
    go (inl (i, read)) = (nat_eq (words_of i) 2, row_line image at i, inl (i, read, refl, refl))
    go (inr none) = (false, word_line image at, inr (none, refl, refl))

added_there : (adds : Bool) (image : FinMap nat_cmp ℕ) (at : ℕ) → (two : Bool) × (text : List ℕ) × AddsLine adds image at text two
added_there false image at = (false, [], (refl, refl))
added_there true image at = line_there image at

listed : (image : FinMap nat_cmp ℕ) (count : ℕ) → (text : List ℕ) × (two : Bool) × Listed image count text two
unfolding Listed
listed image zero = ([], false, (refl, refl))
listed image (suc at) =
    let before = listed image at in
    let added = added_there (not before.1 && present image at) image at in
    (before.0 ++ added.1, added.0, (before.0, before.1, added.1, before.2, added.2, refl))

pub image_listed : (image : FinMap nat_cmp ℕ) → (text : List ℕ) × IsListing image text
image_listed image = let all = listed image 32768 in (all.0, (all.1, all.2))
