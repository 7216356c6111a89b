-- The least and the greatest byte of a list, and of what is stored at each address of RAM.
use Rattle.std.specs.Prelude.{ℕ, ◌-◌, Bool, if◌then◌else◌, nat_lt, nat_le, ◌&&◌, List, [], ◌∷◌, slice_index_or, slice_set, Option, None, Some}
use Rattle.uz_proposal.specs.declared.extents.Extent.{Extent}
use Rattle.uz_proposal.specs.declared.stores.Stored.{Stored}

-- RAM's first data address, and the first one behind it (ATmega644 data sheet)
abbrev pub RAM_BEGIN : ℕ
RAM_BEGIN = 256

abbrev pub RAM_LIMIT : ℕ
RAM_LIMIT = 4352

abbrev pub is_in_ram : ℕ → Bool
is_in_ram at = nat_le RAM_BEGIN at && nat_lt at RAM_LIMIT

-- one more byte
abbrev pub with_byte : ℕ → Option Extent → Extent
with_byte v None = record { least = v; greatest = v }
with_byte v (Some x) = record { least = if nat_lt v x.least then v else x.least; greatest = if nat_lt x.greatest v then v else x.greatest }

-- the extent of some bytes
abbrev pub extent_of : List ℕ → Option Extent
extent_of [] = None
extent_of (v ∷ vs) = Some (with_byte v (extent_of vs))

-- extents by address, counted from RAM's begin, after a store
abbrev pub after_store : List (Option Extent) → Option Stored → List (Option Extent)
after_store extents None = extents
after_store extents (Some w) =
    if is_in_ram w.at
    then slice_set extents (w.at - RAM_BEGIN) (Some (with_byte w.value (slice_index_or extents (w.at - RAM_BEGIN) None)))
    else extents
