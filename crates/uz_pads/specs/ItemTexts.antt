-- Texts of items: lines that are each blank or an item, with at most 65,536 items. What items a line has, whether it is
-- well formed and what is wrong with it is each format's own.
use Rattle.std.specs.Prelude.{◌≡◌, ℕ, ◌+◌, ◌≤◌, Bool, true, List, [], ◌∷◌, ◌++◌, length}
use Rattle.std.specs.List.{All}

-- the items of some lines, in order
abbrev pub items_in : {A : Type 0} → (List ℕ → List A) → List (List ℕ) → List A
items_in items_of [] = []
items_in items_of (line ∷ lines) = items_of line ++ items_in items_of lines

pub record IsText {A : Type 0} (items_of : List ℕ → List A) (is_well_formed : List ℕ → Bool) (lines : List (List ℕ)) (items : List A)
    : Type 0 where
  pub well_formed : All (λ line. is_well_formed line ≡ true) lines
  pub few : length (items_in items_of lines) ≤ 65536
  pub are : items ≡ items_in items_of lines

-- The first faulty line: all lines before it are read, and it has a fault, after so many items
pub record IsFirstFaulty {A W : Type 0} (items_of : List ℕ → List A) (is_well_formed : List ℕ → Bool)
    (HasFault : List ℕ → ℕ → W → Type 0) (lines : List (List ℕ)) (number : ℕ) (why : W) : Type 0 where
  pub earlier : List (List ℕ)
  pub line : List ℕ
  pub later : List (List ℕ)
  pub cut : lines ≡ earlier ++ line ∷ later
  pub number_is : number ≡ length earlier + 1
  pub read : IsText items_of is_well_formed earlier (items_in items_of earlier)
  pub fault : HasFault line (length (items_in items_of earlier)) why
