-- How a line is spelled by its form: what it says at each place, from left to right, and the words of that. The form that
-- gives the reader gives the speller.
use Rattle.std.specs.Prelude.{ℕ, ℤ, zero, suc, ⊤, List, [], ◌∷◌, ◌++◌, map, codes, decimal}
use Rattle.uz_schedule.specs.Ends.{Ends}
use Rattle.uz_schedule.specs.declared.kinds.Kind.{Kind}
use Rattle.uz_schedule.specs.declared.header.Cell.{Cell}
use Rattle.uz_cert_lines.specs.Forms.{LineForm, fixed, number, choice, slope, spans, items, finish}
use Rattle.uz_cert_lines.specs.declared.items.Facts.{Facts}
use Rattle.uz_cert_lines.specs.declared.lines.ParsedLine.{ParsedLine}
use Rattle.uz_cert_writer.specs.Spelling.{ends_word, signed_word, register_items, pair_items, flag_items, slot_items, cell_items}
use Rattle.uz_cert_writer.specs.Spelling.{listed_items, successor_items}
use Rattle.uz_cert_lines.specs.Named.{named_items, named_of}

abbrev pub word_at : List (List ℕ) → ℕ → List ℕ
word_at [] n = []
word_at (w ∷ ws) zero = w
word_at (w ∷ ws) (suc n) = word_at ws n

abbrev pub letters_of_pairs : List ℕ
letters_of_pairs = codes "xyz"

abbrev pub letters_of_flags : List ℕ
letters_of_flags = codes "cznvsht"

-- the items of facts, in the order of a line

abbrev pub listed_and_next : Facts → List (List ℕ)
listed_and_next f = listed_items named_items (named_of f) ++ successor_items f.next.items

abbrev pub spelled : Kind → List Cell → Facts → List (List ℕ)
spelled kind cells f =
    register_items kind 0 f.regs
    ++ (pair_items letters_of_pairs f.pairs
    ++ (flag_items kind letters_of_flags f.flags
    ++ (slot_items f.stack.items
    ++ (cell_items kind 0 cells f.cells.items
    ++ listed_and_next f))))

-- what is said at the places of a form, one after another
abbrev pub Parts : LineForm → Type 0
Parts (fixed wanted form) = Parts form
Parts (number a form) = (n : ℕ) × Parts (form n)
Parts (choice wanted form) = (n : ℕ) × Parts (form n)
Parts (slope limit form) = (z : ℤ) × Parts (form z)
Parts (spans cells form) = (es : List Ends) × Parts (form es)
Parts (items shape cells say) = Facts
Parts (finish says) = ⊤

-- what the line says with these parts
abbrev pub says : (form : LineForm) → Parts form → ParsedLine
says (fixed wanted form) p = says form p
says (number a form) p = says (form p.0) p.1
says (choice wanted form) p = says (form p.0) p.1
says (slope limit form) p = says (form p.0) p.1
says (spans cells form) p = says (form p.0) p.1
says (items shape cells say) f = say f
says (finish said) p = said

-- its words
abbrev pub spells : (form : LineForm) → Parts form → List (List ℕ)
spells (fixed wanted form) p = wanted ∷ spells form p
spells (number a form) p = decimal p.0 ∷ spells (form p.0) p.1
spells (choice wanted form) p = word_at wanted p.0 ∷ spells (form p.0) p.1
spells (slope limit form) p = signed_word p.0 ∷ spells (form p.0) p.1
spells (spans cells form) p = map (ends_word 255) p.0 ++ spells (form p.0) p.1
spells (items shape cells say) f = spelled shape.kind cells f
spells (finish said) p = []
