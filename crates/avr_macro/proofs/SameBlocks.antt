-- Lines that are changed, but each of which stays of its directive, have the same blocks.
use Rattle.std.proofs.Common.{◌≡◌, ℕ, ◌+◌, List, [], ◌∷◌, map, refl}
use Rattle.avr_macro.specs.declared.directives.Word.{Word}
use Rattle.avr_macro.specs.AtSigns.{KeepsDirectives}
use Rattle.avr_macro.specs.Ends.{blocks_from, open_from}

module _ (change : List ℕ → List ℕ) where
  opens_stay : (opens closes : Word) (at : ℕ) (lines : List (List ℕ)) → KeepsDirectives change lines
      → open_from opens closes at (map change lines) ≡ open_from opens closes at lines
  unfolding open_from
  opens_stay opens closes at [] kept = refl
  opens_stay opens closes at (line ∷ lines) (same, kept) = cc (opens_stay opens closes (at + 1) lines kept)

  pub blocks_stay : (opens closes : Word) (at : ℕ) (lines : List (List ℕ)) → KeepsDirectives change lines
      → blocks_from opens closes at (map change lines) ≡ blocks_from opens closes at lines
  unfolding blocks_from
  blocks_stay opens closes at [] kept = refl
  blocks_stay opens closes at (line ∷ lines) (same, kept) =
      cc (opens_stay opens closes (at + 1) lines kept, blocks_stay opens closes (at + 1) lines kept)
