-- The instances at a program counter, one block later.
use Rattle.std.proofs.Common.{◌≡◌, ◌≤◌, ◌<◌, ◌+◌, ◌-◌, ◌∙◌, ℕ, zero, suc, List, [], ◌∷◌, ◌++◌, refl, sym, ap, drop, take, length, min, arith, Bor}
use Rattle.std.specs.Prelude.{◌==◌}
use Rattle.std.proofs.lemmas.List.{length-append, length-drop, length-map, take-append-drop}
use Rattle.std.proofs.lemmas.List.Elements.{filter-append}
use Rattle.std.proofs.lemmas.List.Sums.{length-filter}
use Rattle.uz_schedule.specs.declared.states.Instance.{Instance}
use Rattle.uz_explanations.specs.Counting.{count_at, crowd}
use Rattle.uz_explanations.proofs.Keeping.{lent}

crowd_length : (pc : ℕ) (xs : List Instance) → length (crowd pc xs) ≡ count_at pc xs
crowd_length pc xs = length-filter (λ x. x.pc == pc) xs

-- as many as there are
pub block_count : (pc n : ℕ) (block : List Instance) (here : List (Bor Instance)) → n ≡ length here → lent here ≡ crowd pc block
    → n ≡ count_at pc block
block_count pc n block here is all = is ∙ sym (length-map here (λ x. x.now)) ∙ ap length all ∙ crowd_length pc block

none : {A : Type 0} (xs : List A) → length xs ≡ 0 → xs ≡ []
none [] e = refl
none (x ∷ xs) e = absurd (omega (arith, e))

pub none_left : (pc left : ℕ) (xs : List Instance) → left ≤ 0 → left ≡ count_at pc xs → crowd pc xs ≡ []
none_left pc left xs over counted =
    let len = crowd_length pc xs in none (crowd pc xs) (omega (arith, len, over, counted))

module _ (pc n : ℕ) (rest block later : List Instance) (front : block ≡ take n rest) (back : later ≡ drop n rest) where
  -- those of a block, and of what is left
  pub crowd_split : crowd pc rest ≡ crowd pc block ++ crowd pc later
  crowd_split =
      ap (crowd pc) (sym (take-append-drop n rest) ∙ ap (λ l. take n rest ++ l) (sym back) ∙ ap (λ l. l ++ later) (sym front))
      ∙ filter-append (λ x. x.pc == pc) block later

  pub count_split : (left here : ℕ) → left ≡ count_at pc rest → here ≡ count_at pc block → left - here ≡ count_at pc later
  count_split left here counted is =
      let whole = crowd_length pc rest in
      let first = crowd_length pc block in
      let second = crowd_length pc later in
      let both = ap length crowd_split ∙ length-append (crowd pc block) (crowd pc later) in
      omega (arith, whole, first, second, both, counted, is)

  -- where one is left, something is left
  pub later_shorter : (left : ℕ) → 0 < left → left ≡ count_at pc rest → n ≡ min (length rest) 256 → length later < length rest
  later_shorter left some counted is = by_case rest back counted is
    where
      by_case : (xs : List Instance) → later ≡ drop n xs → left ≡ count_at pc xs → n ≡ min (length xs) 256 → length later < length xs
      by_case [] at counts few = absurd (omega (arith, some, counts))
      by_case (x ∷ xs) at counts few =
          let len = ap length at ∙ length-drop n (x ∷ xs) in omega (arith, len, few)
