-- A frame whose one kind of line is a scanline.
use Rattle.std.proofs.Common.{◌≡◌, ◌∙◌, ap, refl, ℕ, zero, suc, true, List, [], ◌∷◌, ◌++◌}
use Rattle.std.specs.Prelude.{Option, Some, None, slice_get}
use Rattle.uz_schedule.specs.Limits.{is_length}
use Rattle.uz_schedule.specs.Schedule.{length_of, length_of_kind, scanline}
use Rattle.uz_schedule.specs.declared.lines.Schedule.{Schedule}

pub scanline_each : (s : Schedule) (none one : List ℕ) → none ≡ [] → one ≡ none ++ scanline ∷ [] → s.lengths ≡ one → (l : ℕ)
    → length_of s l ≡ scanline
scanline_each s none one e f g l = ap (λ ns. length_of_kind ns (slice_get s.lines l)) (g ∙ (f ∙ ap (λ ns. ns ++ scanline ∷ []) e))
    ∙ of_one (slice_get s.lines l)
  where
    of_one : (o : Option ℕ) → length_of_kind (scanline ∷ []) o ≡ scanline
    of_one None = refl
    of_one (Some zero) = refl
    of_one (Some (suc kind)) = refl

pub are_lengths : (s : Schedule) → ((l : ℕ) → length_of s l ≡ scanline) → (l : ℕ) → is_length (length_of s l) ≡ true
are_lengths s each l = ap is_length (each l)
