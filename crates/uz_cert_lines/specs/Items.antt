-- The items of a line, as they are read: each sets one fact, in the order of registers, pairs, flags, slots, cells, those
-- of a name and one value, successors.
use Rattle.std.specs.Prelude.{ℕ, zero, suc, ◌+◌, ◌==◌, ◌&&◌, ◌||◌, not, nat_le, nat_lt, Bool, true, false, List, [], ◌∷◌, ◌++◌, length}
use Rattle.std.specs.Prelude.{take, codes, bytes_eq, slice_get, slice_set, Option, Some, None, Result, Ok, Err, if◌then◌else◌}
use Prim.Native.Char.{code}
use Rattle.uz_hex.specs.Cutting.{cut_at}
use Rattle.uz_hex.specs.Numbers.{is_numeral, number_below}
use Rattle.uz_schedule.specs.Ends.{Ends}
use Rattle.uz_schedule.specs.declared.kinds.Kind.{Kind}
use Rattle.uz_schedule.specs.declared.kinds.Kind.TheVariants.{Main, Handler, Alone}
use Rattle.uz_schedule.specs.declared.header.Cell.{Cell}
use Rattle.uz_schedule.specs.declared.facts.Fact.{Fact}
use Rattle.uz_schedule.specs.declared.facts.Fact.TheVariants.{Any, Old}
use Rattle.uz_schedule.specs.declared.facts.PairFact.{PairFact}
use Rattle.uz_schedule.specs.declared.facts.PairFact.TheVariants.{Any as AnyPair}
use Rattle.uz_schedule.specs.declared.facts.Bit.{Bit}
use Rattle.uz_schedule.specs.declared.facts.Bit.TheVariants.{Free, Old as OldBit}
use Rattle.uz_cert_lines.specs.Why.{◌>>=◌}
use Rattle.uz_cert_lines.specs.Values.{digits, raw_of, fact_of, pair_of, bit_of}
use Rattle.uz_cert_lines.specs.Named.{ValueOf, is_usual, value_read, NamedItem, named_items, named_place, successors_place}
use Rattle.uz_cert_lines.specs.Named.{NamedValues, named_of, with_named, usual_facts}
use Rattle.uz_cert_lines.specs.Grammar.{Words}
use Rattle.uz_cert_lines.specs.FlagNames.{any_names}
use Rattle.uz_cert_lines.specs.Defaults.{is_default, is_any_pair, is_range, range_fact}
use Rattle.uz_schedule.specs.Tracked.{tracks}
use Rattle.uz_schedule.specs.WellFormed.{is_default_flag}
use Rattle.uz_cert_lines.specs.declared.values.FactForms.{FactForms}
use Rattle.uz_cert_lines.specs.declared.values.Raw.{Raw}
use Rattle.uz_cert_lines.specs.declared.items.Shape.{Shape}
use Rattle.uz_cert_lines.specs.declared.items.Facts.{Facts}
use Rattle.uz_cert_lines.specs.declared.why.CertWhy.{CertWhy}
use Rattle.uz_cert_lines.specs.declared.why.CertWhy.TheVariants as why

-- what holds where no item says otherwise

abbrev pub own_regs : ℕ → ℕ → List Fact
own_regs r zero = []
own_regs r (suc count) = Old r ∷ own_regs (suc r) count

abbrev pub any_regs : ℕ → List Fact
any_regs zero = []
any_regs (suc count) = Any ∷ any_regs count

abbrev pub default_regs : Kind → List Fact
default_regs Main = any_regs 32
default_regs Handler = own_regs 0 32
default_regs Alone = any_regs 32

abbrev pub default_flag : Kind → Bit
default_flag Main = Free
default_flag Handler = OldBit
default_flag Alone = Free

abbrev pub seven : Bit → List Bit
seven b = b ∷ b ∷ b ∷ b ∷ b ∷ b ∷ b ∷ []

abbrev pub default_cells : Kind → List Cell → List Fact
default_cells kind [] = []
default_cells kind (c ∷ cs) = if tracks kind c.owner then range_fact c.range ∷ default_cells kind cs else default_cells kind cs

unfoldable pub first_facts : Kind → List Cell → Facts
first_facts kind cells = record usual_facts {
  regs = default_regs kind;
  pairs = AnyPair ∷ AnyPair ∷ AnyPair ∷ [];
  flags = seven (default_flag kind);
  cells = record { items = default_cells kind cells };
}

-- an item at a place of the order, which isn't a default
abbrev pub in_order : Facts → ℕ → Bool → Result ℕ CertWhy
in_order facts place is_default = if nat_le facts.least place && not is_default then Ok place else Err why.Order

abbrev pub is_handler : Kind → Bool
is_handler Main = false
is_handler Handler = true
is_handler Alone = false

-- the forms of a byte's word
abbrev pub bytes_forms : Shape → FactForms
bytes_forms shape = record { low = 0; limit = 256; top = 255; sloped = not shape.plain; old = is_handler shape.kind && not shape.plain }

-- registers

abbrev pub register_set : Shape → Facts → ℕ → Fact → Result Facts CertWhy
register_set shape facts r fact =
    in_order facts r (is_default shape.kind r fact) >>= (λ place. Ok (record facts { regs = slice_set facts.regs r fact; least = r + 1 }))

abbrev pub register_key : Shape → Facts → List ℕ → Option ℕ → Result Facts CertWhy
register_key shape facts value None = Err why.Word
register_key shape facts value (Some r) =
    raw_of (bytes_forms shape) value >>= (λ raw. fact_of raw >>= (λ fact. register_set shape facts r fact))

unfoldable pub take_register : Shape → Facts → List ℕ → List ℕ → Result Facts CertWhy
take_register shape facts key value = register_key shape facts value (number_below 32 key)

-- pairs

abbrev pub pair_forms : FactForms
pair_forms = record { low = 0; limit = 65536; top = 65535; sloped = true; old = false }

abbrev pub pair_set : Facts → ℕ → PairFact → Result Facts CertWhy
pair_set facts k fact =
    in_order facts (32 + k) (is_any_pair fact) >>= (λ place. Ok (record facts { pairs = slice_set facts.pairs k fact; least = 33 + k }))

unfoldable pub take_pair : Shape → Facts → ℕ → List ℕ → Result Facts CertWhy
take_pair shape facts k value =
    if shape.plain then Err why.Word
    else raw_of pair_forms value >>= (λ raw. pair_of raw >>= (λ fact. pair_set facts k fact))

-- flags

abbrev pub flag_set : Shape → Facts → ℕ → Bit → Result Facts CertWhy
flag_set shape facts b bit =
    in_order facts (35 + b) (is_default_flag shape.kind bit)
    >>= (λ place. Ok (record facts { flags = slice_set facts.flags b bit; least = 36 + b }))

unfoldable pub take_flag : Shape → Facts → ℕ → List ℕ → Result Facts CertWhy
take_flag shape facts b value = bit_of (is_handler shape.kind) value >>= (λ bit. flag_set shape facts b bit)

-- slots of the stack, which follow each other from the bottom

abbrev pub slot_set : Facts → Fact → Result Facts CertWhy
slot_set facts fact =
    in_order facts 42 false >>= (λ place. Ok (record facts { stack = record { items = facts.stack.items ++ fact ∷ [] }; least = 42 }))

abbrev pub slot_room : Shape → Facts → Result ℕ CertWhy
slot_room shape facts = if nat_lt (length facts.stack.items) shape.depth then Ok 0 else Err why.Limit

unfoldable pub take_slot : Shape → Facts → List ℕ → Result Facts CertWhy
take_slot shape facts value =
    raw_of (bytes_forms shape) value >>= (λ raw. slot_room shape facts >>= (λ room. fact_of raw >>= (λ fact. slot_set facts fact)))

-- cells

-- how many cells of a list a kind tracks
abbrev pub tracked_count : Kind → List Cell → ℕ
tracked_count kind [] = 0
tracked_count kind (c ∷ cs) = if tracks kind c.owner then tracked_count kind cs + 1 else tracked_count kind cs

-- of the first i cells, how many a kind tracks
abbrev pub tracked_before : Kind → ℕ → List Cell → ℕ
tracked_before kind i cells = tracked_count kind (take i cells)

abbrev pub with_number : ℕ → Option Cell → Option (ℕ × Cell)
with_number i None = None
with_number i (Some c) = Some (i, c)

abbrev pub cell_at : List Cell → Option ℕ → Option (ℕ × Cell)
cell_at cells None = None
cell_at cells (Some i) = with_number i (slice_get cells i)

-- old forms stand in no cell, also in one that isn't there; in an entry a cell's range is within the one of the header
abbrev pub cell_forms : Shape → Option (ℕ × Cell) → FactForms
cell_forms shape None = record (bytes_forms shape) { old = false }
cell_forms shape (Some p) =
    if shape.plain then record { low = p.1.range.lo; limit = p.1.range.hi + 1; top = 255; sloped = false; old = false }
    else record { low = 0; limit = 256; top = 255; sloped = true; old = false }

-- a key that is no number comes after a word that has no form
abbrev pub numbered : Bool → Result Raw CertWhy → Result Raw CertWhy
numbered true raw = raw
numbered false (Ok raw) = Err why.Number
numbered false (Err why.Word) = Err why.Word
numbered false (Err other) = Err why.Number

abbrev pub cell_set : Shape → List Cell → Facts → ℕ → Ends → Fact → Result Facts CertWhy
cell_set shape cells facts i range fact =
    in_order facts (43 + i) (is_range range fact)
    >>= (λ place. Ok (record facts {
      cells = record { items = slice_set facts.cells.items (tracked_before shape.kind i cells) fact };
      least = 44 + i;
    }))

abbrev pub cell_value : Shape → List Cell → Facts → Option (ℕ × Cell) → Raw → Result Facts CertWhy
cell_value shape cells facts None raw = Err why.Unknown
cell_value shape cells facts (Some p) raw =
    if tracks shape.kind p.1.owner then fact_of raw >>= (λ fact. cell_set shape cells facts p.0 p.1.range fact) else Err why.Unknown

unfoldable pub take_cell : Shape → List Cell → Facts → List ℕ → List ℕ → Result Facts CertWhy
take_cell shape cells facts key value =
    if digits key
    then numbered (is_numeral key) (raw_of (cell_forms shape (cell_at cells (number_below (length cells) key))) value)
    >>= (λ raw. cell_value shape cells facts (cell_at cells (number_below (length cells) key)) raw)
    else Err why.Word

-- items of one value that have a name

abbrev pub value_set : (i : NamedItem) → Facts → ℕ → (ValueOf i.form → ℕ → Facts) → ValueOf i.form → Result Facts CertWhy
value_set i facts place put x = in_order facts place (is_usual i.form x) >>= (λ p. Ok (put x (place + 1)))

unfoldable pub take_value : (i : NamedItem) → Shape → Facts → ℕ → (ValueOf i.form → ℕ → Facts) → List ℕ → Result Facts CertWhy
take_value i shape facts place put value =
    if i.stands shape then value_read i.form value >>= (λ x. value_set i facts place put x) else Err why.Word

-- the one of this name, where the first has this place, and these are their values, in whose stead others are put
abbrev pub take_listed : (is : List NamedItem) → ℕ → Shape → Facts → NamedValues is → (NamedValues is → ℕ → Facts) → List ℕ → List ℕ
    → Result Facts CertWhy
take_listed [] place shape facts v put key value = Err why.Word
take_listed (i ∷ is) place shape facts v put key value =
    if bytes_eq key i.key then take_value i shape facts place (λ x. put (x, v.1)) value
    else take_listed is (place + 1) shape facts v.1 (λ later. put (v.0, later)) key value

abbrev pub take_named_value : Shape → Facts → List ℕ → List ℕ → Result Facts CertWhy
take_named_value shape facts key value =
    take_listed named_items named_place shape facts (named_of facts) (with_named facts) key value

-- the one at this place of the table
abbrev pub take_nth : ℕ → (is : List NamedItem) → ℕ → Shape → Facts → NamedValues is → (NamedValues is → ℕ → Facts) → List ℕ
    → Result Facts CertWhy
take_nth n [] place shape facts v put value = Err why.Word
take_nth zero (i ∷ is) place shape facts v put value = take_value i shape facts place (λ x. put (x, v.1)) value
take_nth (suc n) (i ∷ is) place shape facts v put value = take_nth n is (place + 1) shape facts v.1 (λ later. put (v.0, later)) value

abbrev pub take_numbered : ℕ → Shape → Facts → List ℕ → Result Facts CertWhy
take_numbered n shape facts value = take_nth n named_items named_place shape facts (named_of facts) (with_named facts) value

-- successors

abbrev pub successor_set : Facts → Option ℕ → Result Facts CertWhy
successor_set facts None = Err why.Unknown
successor_set facts (Some id) =
    if nat_le facts.after id
    then Ok (record facts { next = record { items = facts.next.items ++ id ∷ [] }; after = id + 1; least = successors_place })
    else Err why.Order

unfoldable pub take_successor : Shape → Facts → List ℕ → Result Facts CertWhy
take_successor shape facts id =
    if shape.plain || not (digits id) then Err why.Word
    else (if not (is_numeral id) then Err why.Number
    else (if nat_lt (length facts.next.items) 16 then successor_set facts (number_below shape.points id)
    else Err why.Limit))

-- `z=` is the flag in entries, after the pairs, and before `?` and `o`. Before `0` and `1` it is the flag unless a later
-- word of the line begins with `c=` or `z=`. Else it is the pair.
abbrev pub is_flag_z : Shape → Facts → List ℕ → List (List ℕ) → Bool
is_flag_z shape facts value later =
    (shape.plain || nat_lt 35 facts.least)
    || ((bytes_eq value (codes "?") || bytes_eq value (codes "o"))
    || ((bytes_eq value (codes "0") || bytes_eq value (codes "1")) && not (any_names later)))

-- any item

unfoldable pub take_letter : Shape → Facts → ℕ → List ℕ → List (List ℕ) → Result Facts CertWhy
take_letter shape facts letter value later =
    if letter == code "x" then take_pair shape facts 0 value
    else (if letter == code "y" then take_pair shape facts 1 value
    else (if letter == code "z" then
    (if is_flag_z shape facts value later then take_flag shape facts 1 value else take_pair shape facts 2 value)
    else (if letter == code "c" then take_flag shape facts 0 value
    else (if letter == code "n" then take_flag shape facts 2 value
    else (if letter == code "v" then take_flag shape facts 3 value
    else (if letter == code "s" then take_flag shape facts 4 value
    else (if letter == code "h" then take_flag shape facts 5 value
    else (if letter == code "t" then take_flag shape facts 6 value
    else Err why.Word))))))))

abbrev pub take_keyed : Shape → List Cell → Facts → List ℕ → List ℕ → List (List ℕ) → Result Facts CertWhy
take_keyed shape cells facts [] value later = Err why.Word
take_keyed shape cells facts (c ∷ cs) value later =
    if c == code "r" then take_register shape facts cs value
    else (if c == code "m" then take_cell shape cells facts cs value
    else (if length cs == 0 then take_letter shape facts c value later else take_named_value shape facts (c ∷ cs) value))

abbrev pub take_cut : Shape → List Cell → Facts → Option (List ℕ × List ℕ) → List (List ℕ) → Result Facts CertWhy
take_cut shape cells facts None later = Err why.Word
take_cut shape cells facts (Some p) later = take_keyed shape cells facts p.0 p.1 later

unfoldable pub take_named : Shape → List Cell → Facts → List ℕ → List (List ℕ) → Result Facts CertWhy
take_named shape cells facts word later = take_cut shape cells facts (cut_at (code "=") word) later

abbrev pub take_second : Shape → List Cell → Facts → List ℕ → List ℕ → List (List ℕ) → Result Facts CertWhy
take_second shape cells facts word [] later = take_named shape cells facts word later
take_second shape cells facts word (c ∷ cs) later =
    if c == code ":" then take_slot shape facts cs else take_named shape cells facts word later

unfoldable pub take_item : Shape → List Cell → Facts → List ℕ → List (List ℕ) → Result Facts CertWhy
take_item shape cells facts [] later = Err why.Word
take_item shape cells facts (c ∷ cs) later =
    if c == code ">" then take_successor shape facts cs
    else (if c == code "s" then take_second shape cells facts (c ∷ cs) cs later
    else take_named shape cells facts (c ∷ cs) later)

-- all items of a line, to its end

abbrev pub items_end : Bool → Facts → Result Facts CertWhy
items_end true facts = Ok facts
items_end false facts = Err why.NoEnd

abbrev pub items_from : Shape → List Cell → Bool → Facts → List (List ℕ) → Result Facts CertWhy
items_from shape cells ended facts [] = items_end ended facts
items_from shape cells ended facts (w ∷ ws) = take_item shape cells facts w ws >>= (λ more. items_from shape cells ended more ws)

unfoldable pub read_items : Shape → List Cell → Words → Result Facts CertWhy
read_items shape cells words = items_from shape cells words.ended (first_facts shape.kind cells) words.list
