-- The lines of rests, entries and points, put piece by piece, are their words joined.
use Rattle.uz_cert_writer.proofs.Common.{◌≡◌, ℕ, List, [], ◌∷◌, ◌++◌, map, decimal, refl, sym, ◌∙◌, ap, append_assoc, Cell, Point}
use Rattle.uz_cert_writer.proofs.Common.{register_items, pair_items, flag_items, slot_items, cell_items, successor_items, ends_word}
use Rattle.uz_cert_writer.proofs.Common.{rest_words, entry_words, point_words, spaced, line_end}
use Rattle.std.proofs.Common.{codes}
use Rattle.uz_cert_writer.specs.Spelling.{value_items, listed_items, entry_items, point_items}
use Rattle.uz_cert_lines.specs.Named.{NamedItem, named_items, NamedValues, values_of}
use Rattle.uz_cert_writer.specs.Joined.{rest_text, entry_place, entry_facts, entry_text, point_place, core_text, memory_text, listed_text}
use Rattle.uz_cert_writer.specs.Joined.{onward_text, point_text}
use Rattle.uz_cert_writer.proofs.Joining.{spaced_append, join_words}
use Rattle.uz_schedule.specs.{declared.states.Rest.Rest, declared.states.Entry.Entry}

-- a first word and two lists of others
line_of_two : (first : List ℕ) (ws vs : List (List ℕ)) → line_end (first ∷ (ws ++ vs)) ≡ first ++ (spaced ws ++ (spaced vs ++ 10 ∷ []))
line_of_two first ws vs =
    ap (λ t. t ++ 10 ∷ []) (join_words first (ws ++ vs)) ∙ simp (spaced_append, append_assoc)

pub rest_is : (r : Rest) → rest_text r ≡ line_end (rest_words r)
rest_is r = sym (line_of_two (codes "rest") (decimal r.line ∷ decimal r.clock ∷ decimal r.vector ∷ []) (map (ends_word 255) r.cells.items))

entry_facts_are : (cells : List Cell) (e : Entry) → spaced (entry_items cells e) ≡ entry_facts cells e
entry_facts_are cells e = simp spaced_append

pub entry_is : (cells : List Cell) (e : Entry) → entry_text cells e ≡ line_end (entry_words cells e)
entry_is cells e =
    ap (λ t. codes "entry" ++ (spaced (entry_place e) ++ (t ++ 10 ∷ []))) (sym (entry_facts_are cells e))
    ∙ sym (line_of_two (codes "entry") (entry_place e) (entry_items cells e))

listed_are : (is : List NamedItem) (v : NamedValues is) (later : List (List ℕ))
    → spaced (listed_items is v ++ later) ≡ listed_text is v (spaced later)
listed_are [] v later = refl
listed_are (i ∷ is) v later =
    ap spaced (append_assoc (value_items i v.0) (listed_items is v.1) later)
    ∙ spaced_append (value_items i v.0) (listed_items is v.1 ++ later)
    ∙ ap (λ t. spaced (value_items i v.0) ++ t) (listed_are is v.1 later)

abbrev after_flags : List Cell → Point → List (List ℕ)
after_flags cells p =
    slot_items p.stack.items ++ (cell_items p.kind 0 cells p.cells.items
    ++ (listed_items named_items (values_of p) ++ successor_items p.next.items))

-- lists of words, in two parts

spaced_three : (a b c : List (List ℕ)) → spaced (a ++ (b ++ c)) ≡ (spaced a ++ spaced b) ++ spaced c
spaced_three a b c = simp (spaced_append, append_assoc)

spaced_four : (a b c d : List (List ℕ)) → spaced (a ++ (b ++ (c ++ d))) ≡ (spaced a ++ (spaced b ++ spaced c)) ++ spaced d
spaced_four a b c d = simp (spaced_append, append_assoc)

memory_facts_are : (cells : List Cell) (p : Point) → spaced (after_flags cells p) ≡ memory_text cells p ++ onward_text p
memory_facts_are cells p =
    spaced_three (slot_items p.stack.items) (cell_items p.kind 0 cells p.cells.items)
    (listed_items named_items (values_of p) ++ successor_items p.next.items)
    ∙ ap (λ t. memory_text cells p ++ t) (listed_are named_items (values_of p) (successor_items p.next.items))

point_facts_are : (cells : List Cell) (p : Point) → spaced (point_items cells p) ≡ core_text p ++ (memory_text cells p ++ onward_text p)
point_facts_are cells p =
    spaced_four (register_items p.kind 0 p.regs) (pair_items (codes "xyz") p.pairs) (flag_items p.kind (codes "cznvsht") p.flags)
    (after_flags cells p)
    ∙ ap (λ t. core_text p ++ t) (memory_facts_are cells p)

pub point_is : (cells : List Cell) (p : Point) → point_text cells p ≡ line_end (point_words cells p)
point_is cells p =
    ap (λ t. codes "point" ++ (spaced (point_place p) ++ (core_text p ++ t)))
    (sym (append_assoc (memory_text cells p) (onward_text p) (10 ∷ [])))
    ∙ ap (λ t. codes "point" ++ (spaced (point_place p) ++ t))
    (sym (append_assoc (core_text p) (memory_text cells p ++ onward_text p) (10 ∷ [])))
    ∙ ap (λ t. codes "point" ++ (spaced (point_place p) ++ (t ++ 10 ∷ []))) (sym (point_facts_are cells p))
    ∙ sym (line_of_two (codes "point") (point_place p) (point_items cells p))
