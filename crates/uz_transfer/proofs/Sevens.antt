-- Lists of seven flags.
use Rattle.std.proofs.Common.{◌≡◌, ℕ, ◌+◌, ◌*◌, List, [], ◌∷◌, length, arith}
use Rattle.std.specs.Prelude.{slice_index_or}
use Rattle.uz_core.specs.Arithmetic.{bit_value}
use Rattle.uz_schedule.specs.declared.facts.Bit.{Bit}
use Rattle.uz_range.specs.Answers.{is_one}
use Rattle.uz_transfer.specs.Memory.{flags_number}

abbrev pub at : List Bit → ℕ → Bit → ℕ
at fs k d = bit_value (is_one (slice_index_or fs k d))

pub seven_flags : (fs : List Bit) (d : Bit) → length fs ≡ 7
    → flags_number fs ≡ at fs 0 d + 2 * (at fs 1 d + 2 * (at fs 2 d + 2 * (at fs 3 d + 2 * (at fs 4 d + 2 * (at fs 5 d + 2 * at fs 6 d)))))
seven_flags (a ∷ b ∷ c ∷ e ∷ f ∷ g ∷ h ∷ []) d l = omega arith
seven_flags [] d l = absurd (omega arith)
seven_flags (a ∷ []) d l = absurd (omega arith)
seven_flags (a ∷ b ∷ []) d l = absurd (omega arith)
seven_flags (a ∷ b ∷ c ∷ []) d l = absurd (omega arith)
seven_flags (a ∷ b ∷ c ∷ e ∷ []) d l = absurd (omega arith)
seven_flags (a ∷ b ∷ c ∷ e ∷ f ∷ []) d l = absurd (omega arith)
seven_flags (a ∷ b ∷ c ∷ e ∷ f ∷ g ∷ []) d l = absurd (omega arith)
seven_flags (a ∷ b ∷ c ∷ e ∷ f ∷ g ∷ h ∷ i ∷ fs) d l = absurd (omega arith)
