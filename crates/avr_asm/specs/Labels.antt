-- Labels in order of their addresses, and which of them is the nearest to an address.
use Rattle.std.specs.Prelude.{ℕ, nat_le, nat_lt, List, [], ◌∷◌, Option, Some, None, if◌then◌else◌}
use Rattle.avr_asm.specs.declared.labels.Label.{Label}

-- a label goes before those that have its address or a later one
abbrev pub put_in_order : Label → List Label → List Label
put_in_order l [] = l ∷ []
put_in_order l (m ∷ labels) = if nat_le l.address m.address then l ∷ m ∷ labels else m ∷ put_in_order l labels

-- in order of address; those of one address stay in the order that they have
unfoldable pub by_address : List Label → List Label
by_address [] = []
by_address (l ∷ labels) = put_in_order l (by_address labels)

-- a label, or a later one whose address is greater
abbrev pub greater_of : Label → Option Label → Option Label
greater_of l None = Some l
greater_of l (Some m) = if nat_lt l.address m.address then Some m else Some l

-- of the labels at or before an address, the first of those whose address is the greatest
unfoldable pub nearest : ℕ → List Label → Option Label
nearest address [] = None
nearest address (l ∷ labels) =
    if nat_le l.address address then greater_of l (nearest address labels) else nearest address labels
