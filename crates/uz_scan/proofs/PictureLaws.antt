-- The picture of a list of edges, edge by edge.
use Rattle.std.proofs.Common.{◌≡◌, ℕ, ◌+◌, ◌<◌, List, [], ◌∷◌, ◌++◌, length, take, drop, get_or, refl, sym, ap, subst, ◌∙◌}
use Rattle.std.proofs.Common.{append_assoc}
use Rattle.std.proofs.lemmas.List.{append-nil, reverse-append, take_more, drop_more, take-append-drop, take_at}
use Rattle.uz_core.specs.declared.machine.Edge.{Edge}
use Rattle.uz_scan.specs.Pictures.{NeverFalls, newest_first, records, record_of, shown_by, last_row}

-- one more edge of a list in the order of time
pub one_more : (edges : List Edge) (i : ℕ) (d : Edge) → i < length edges → newest_first (take (i + 1) edges) ≡ get_or edges i
    d ∷ newest_first (take i edges)
one_more edges i d h = ap newest_first (take_more edges i d h) ∙ reverse-append (take i edges) (get_or edges i d ∷ [])

pub never_falls_more : (from : ℕ) (edges : List Edge) (i : ℕ) (d : Edge) → i < length edges → NeverFalls from (drop i edges)
    → NeverFalls (get_or edges i d).clock (drop (i + 1) edges)
never_falls_more from edges i d h n = (subst (λ x. NeverFalls from x) (drop_more edges i d h) n).1

-- the records of an earlier list begin those of a later one
record Begins (edges more : List Edge) : Type 0 where
  later : List ℕ
  joined : records (more ++ edges) ≡ records edges ++ later

begins : (edges more : List Edge) → Begins edges more
begins edges [] = record { later = []; joined = sym (append-nil _) }
begins edges (e ∷ more) =
    let h = begins edges more in
    record {
      later = h.later ++ record_of (shown_by e (more ++ edges)) (last_row (e ∷ more ++ edges));
      joined = ap (λ x. x ++ record_of (shown_by e (more ++ edges)) (last_row (e ∷ more ++ edges))) h.joined ∙ append_assoc (records edges)
          h.later (record_of (shown_by e (more ++ edges)) (last_row (e ∷ more ++ edges)));
    }

pub part_of_records : (edges : List Edge) (i : ℕ) → (count : ℕ)
    × (records (newest_first (take i edges)) ≡ take count (records (newest_first edges)))
part_of_records edges i =
    let h = begins (newest_first (take i edges)) (newest_first (drop i edges)) in
    let whole : newest_first edges ≡ newest_first (drop i edges) ++ newest_first (take i edges) = ap newest_first
    (sym (take-append-drop i edges)) ∙ reverse-append (take i edges) (drop i edges) in
    let all : records (newest_first edges) ≡ records (newest_first (take i edges)) ++ h.later = ap records whole ∙ h.joined in (
      length (records (newest_first (take i edges))),
      sym (ap (take (length (records (newest_first (take i edges))))) all
          ∙ take_at (records (newest_first (take i edges))) h.later _ refl),
    )
