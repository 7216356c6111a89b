-- One more line of a text of items is read.
use Rattle.std.proofs.Common.{◌≡◌, ◌≢◌, ℕ, ◌+◌, ◌<◌, ◌≤◌, Bool, true, List, [], ◌∷◌, ◌++◌, length, take}
use Rattle.std.proofs.Common.{map, Bor, refl, sym, ◌∙◌, ap, subst, append_assoc, append-nil, arith}
use Rattle.std.proofs.lemmas.List.{length-append}
use Rattle.std.proofs.lemmas.List.Elements.{All-append, All-nil, All-cons}
use Rattle.uz_hex.specs.Lines.{line_at, lines_of_pieces}
use Rattle.uz_hex.proofs.TextLines.{taken_more}
use Rattle.uz_pads.specs.ItemTexts.{IsFirstFaulty, IsText, items_in}
use Rattle.uz_pads.proofs.LineCuts.{all_taken, cut_at}

pub items_in-append : {A : Type 0} (items_of : List ℕ → List A) (xs ys : List (List ℕ)) → items_in items_of (xs ++ ys)
    ≡ items_in items_of xs ++ items_in items_of ys
items_in-append items_of [] ys = refl
items_in-append items_of (x ∷ xs) ys = ap (λ items. items_of x ++ items) (items_in-append items_of xs ys)
    ∙ sym (append_assoc (items_of x) (items_in items_of xs) (items_in items_of ys))

module _ {A : Type 0} (items_of : List ℕ → List A) (is_well_formed : List ℕ → Bool) where
  -- one more line
  pub more_read : (earlier : List (List ℕ)) (line : List ℕ) (items more : List A) → IsText items_of is_well_formed earlier items
      → items_of line ≡ more → is_well_formed line ≡ true → length (items ++ more) ≤ 65536
      → IsText items_of is_well_formed (earlier ++ line ∷ []) (items ++ more)
  more_read earlier line items more h e w few =
      let all : items_in items_of (earlier ++ line ∷ []) ≡ items ++ more =
      items_in-append items_of earlier (line ∷ []) ∙ (ap (λ xs. xs ++ (items_of line ++ [])) (sym h.are) ∙ ap (λ xs. items ++ xs)
      (append-nil (items_of line) ∙ e)) in
      record {
        well_formed = All-append (λ (x : List ℕ). is_well_formed x ≡ true) earlier (line ∷ []) h.well_formed
            (All-cons (λ (x : List ℕ). is_well_formed x ≡ true) line [] w (All-nil (λ (x : List ℕ). is_well_formed x ≡ true)));
        few = subst (λ (xs : List A). length xs ≤ 65536) (sym all) few;
        are = sym all;
      }

  -- nothing is read of no lines
  pub nothing_read : (pieces : List (Bor (List ℕ)))
      → IsText items_of is_well_formed (take 0 (lines_of_pieces (map (λ piece. piece.now) pieces))) []
  nothing_read pieces = record { well_formed = All-nil _; few = omega arith; are = refl }

  pub blank_read : (pieces : List (Bor (List ℕ))) (at : ℕ) (items : List A) → at < length pieces
      → items_of (line_at (map (λ piece. piece.now) pieces) at) ≡ []
      → is_well_formed (line_at (map (λ piece. piece.now) pieces) at) ≡ true
      → IsText items_of is_well_formed (take at (lines_of_pieces (map (λ piece. piece.now) pieces))) items
      → IsText items_of is_well_formed (take (at + 1) (lines_of_pieces (map (λ piece. piece.now) pieces))) items
  blank_read pieces at items h e w r =
      let lines = lines_of_pieces (map (λ (piece : Bor (List ℕ)). piece.now) pieces) in
      let line = line_at (map (λ (piece : Bor (List ℕ)). piece.now) pieces) at in
      let more = more_read (take at lines) line items [] r e w
      (subst (λ (xs : List A). length xs ≤ 65536) (sym (append-nil items ∙ r.are)) r.few) in
      let grown : IsText items_of is_well_formed (take at lines ++ line ∷ []) items =
      subst (λ xs. IsText items_of is_well_formed (take at lines ++ line ∷ []) xs) (append-nil items) more in
      subst (λ ls. IsText items_of is_well_formed ls items) (sym (taken_more pieces at h)) grown

  pub item_read : (pieces : List (Bor (List ℕ))) (at : ℕ) (items : List A) (item : A) → at < length pieces
      → items_of (line_at (map (λ piece. piece.now) pieces) at) ≡ item ∷ []
      → is_well_formed (line_at (map (λ piece. piece.now) pieces) at) ≡ true → length items ≢ 65536
      → IsText items_of is_well_formed (take at (lines_of_pieces (map (λ piece. piece.now) pieces))) items
      → IsText items_of is_well_formed (take (at + 1) (lines_of_pieces (map (λ piece. piece.now) pieces))) (items ++ item ∷ [])
  item_read pieces at items item h e w ne r =
      let lines = lines_of_pieces (map (λ (piece : Bor (List ℕ)). piece.now) pieces) in
      let line = line_at (map (λ (piece : Bor (List ℕ)). piece.now) pieces) at in
      let few : length items ≤ 65536 = subst (λ (xs : List A). length xs ≤ 65536) (sym r.are) r.few in
      let room : length (items ++ item ∷ []) ≤ 65536 = omega (arith, length-append items (item ∷ [])) in
      let more = more_read (take at lines) line items (item ∷ []) r e w room in
      subst (λ ls. IsText items_of is_well_formed ls (items ++ item ∷ [])) (sym (taken_more pieces at h)) more

  pub whole_read : (pieces : List (Bor (List ℕ))) (at : ℕ) (items : List A) → length pieces ≤ at
      → IsText items_of is_well_formed (take at (lines_of_pieces (map (λ piece. piece.now) pieces))) items
      → IsText items_of is_well_formed (lines_of_pieces (map (λ piece. piece.now) pieces)) items
  whole_read pieces at items h r = subst (λ ls. IsText items_of is_well_formed ls items) (all_taken pieces at h) r

  pub faulty_at : {W : Type 0} (HasFault : List ℕ → ℕ → W → Type 0) (pieces : List (Bor (List ℕ))) (at : ℕ) (items : List A) (why : W)
      → at < length pieces → HasFault (line_at (map (λ piece. piece.now) pieces) at) (length items) why
      → IsText items_of is_well_formed (take at (lines_of_pieces (map (λ piece. piece.now) pieces))) items
      → IsFirstFaulty items_of is_well_formed HasFault (lines_of_pieces (map (λ piece. piece.now) pieces)) (at + 1) why
  faulty_at {W} HasFault pieces at items why h fault r =
      let ps = map (λ (piece : Bor (List ℕ)). piece.now) pieces in
      let here = cut_at pieces at h in
      record {
        earlier = take at (lines_of_pieces ps);
        line = line_at ps at;
        later = here.later;
        cut = here.cut;
        number_is = here.number;
        read = subst (λ xs. IsText items_of is_well_formed (take at (lines_of_pieces ps)) xs) r.are r;
        fault = subst (λ (xs : List A). HasFault (line_at ps at) (length xs) why) r.are fault;
      }
