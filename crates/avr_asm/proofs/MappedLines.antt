-- One more line's label or hint.
use Rattle.std.proofs.Common.{◌≡◌, refl, arith, ℕ, ◌+◌, ◌<◌, ◌≤◌, Bool, true, false, List, [], ◌∷◌, ◌++◌, Bor}
use Rattle.std.proofs.Common.{length, get_or, drop, map, append_assoc}
use Rattle.std.proofs.lemmas.List.{drop_all, append-nil}
use Rattle.avr_asm.specs.declared.labels.Label.{Label}
use Rattle.avr_asm.specs.SourceMap.{line_label, placed_labels, is_hint_line, if_hint, hint_lines_from}
use Rattle.avr_asm.proofs.AssemblyLemmas.{cut_lines, cut_addresses, lines_len}
use Rattle.std.proofs.lemmas.Bool.Decides.{nat_tests}

-- what is there so far, and the labels of the lines that are left
pub labels_more : (labels next : List Label) (ls : List (Bor (List ℕ))) (xs : List ℕ) (i : ℕ) (d : Bor (List ℕ)) → i < length ls
    → length xs ≡ length ls → next ≡ labels ++ line_label (get_or xs i 0) (get_or ls i d).now
    → next ++ placed_labels (drop (i + 1) (map (λ l. l.now) ls)) (drop (i + 1) xs)
    ≡ labels ++ placed_labels (drop i (map (λ l. l.now) ls)) (drop i xs)
unfolding placed_labels
labels_more labels next ls xs i d h same is =
    let rest = placed_labels (drop (i + 1) (map (λ (l : Bor (List ℕ)). l.now) ls)) (drop (i + 1) xs) in
    cc (
      append_assoc labels (line_label (get_or xs i 0) (get_or ls i d).now) rest,
      cut_lines ls i d h,
      cut_addresses xs i (omega (arith, h, same)),
    )

no_labels : (lines : List (List ℕ)) (xs : List ℕ) → lines ≡ [] → placed_labels lines xs ≡ []
unfolding placed_labels
no_labels [] xs e = refl
no_labels (l ∷ ls) xs e = absurd (cc)

pub labels_end : (labels : List Label) (ls : List (Bor (List ℕ))) (xs : List ℕ) (i : ℕ) → length ls ≤ i
    → labels ++ placed_labels (drop i (map (λ l. l.now) ls)) (drop i xs) ≡ labels
labels_end labels ls xs i h =
    cc (no_labels _ (drop i xs) (drop_all i (map (λ (l : Bor (List ℕ)). l.now) ls) (omega (arith, h, lines_len ls))), append-nil labels)

-- the numbers so far, and those of the lines that are left
hints_here : (k : ℕ) (ls : List (Bor (List ℕ))) (i : ℕ) (d : Bor (List ℕ)) (b : Bool) → i < length ls
    → b ≡ is_hint_line (get_or ls i d).now
    → hint_lines_from k (drop i (map (λ l. l.now) ls)) ≡ if_hint k b ++ hint_lines_from (k + 1) (drop (i + 1) (map (λ l. l.now) ls))
unfolding hint_lines_from
hints_here k ls i d b h is = cc (cut_lines ls i d h)

pub hints_one : (numbers next : List ℕ) (ls : List (Bor (List ℕ))) (i : ℕ) (d : Bor (List ℕ)) (b : Bool) → i < length ls
    → b ≡ is_hint_line (get_or ls i d).now → b ≡ true → next ≡ numbers ++ (i + 1) ∷ []
    → next ++ hint_lines_from (i + 1 + 1) (drop (i + 1) (map (λ l. l.now) ls))
    ≡ numbers ++ hint_lines_from (i + 1) (drop i (map (λ l. l.now) ls))
hints_one numbers next ls i d b h is here put =
    grind (arith, nat_tests, append_assoc numbers ((i + 1) ∷ []), hints_here (i + 1) ls i d b h is)

pub hints_none : (numbers : List ℕ) (ls : List (Bor (List ℕ))) (i : ℕ) (d : Bor (List ℕ)) (b : Bool) → i < length ls
    → b ≡ is_hint_line (get_or ls i d).now → b ≡ false
    → numbers ++ hint_lines_from (i + 1 + 1) (drop (i + 1) (map (λ l. l.now) ls))
    ≡ numbers ++ hint_lines_from (i + 1) (drop i (map (λ l. l.now) ls))
hints_none numbers ls i d b h is other = cc (hints_here (i + 1) ls i d b h is)

no_hints : (k : ℕ) (lines : List (List ℕ)) → lines ≡ [] → hint_lines_from k lines ≡ []
unfolding hint_lines_from
no_hints k [] e = refl
no_hints k (l ∷ ls) e = absurd (cc)

pub hints_end : (numbers : List ℕ) (k : ℕ) (ls : List (Bor (List ℕ))) (i : ℕ) → length ls ≤ i
    → numbers ++ hint_lines_from k (drop i (map (λ l. l.now) ls)) ≡ numbers
hints_end numbers k ls i h =
    cc (no_hints k _ (drop_all i (map (λ (l : Bor (List ℕ)). l.now) ls) (omega (arith, h, lines_len ls))), append-nil numbers)
