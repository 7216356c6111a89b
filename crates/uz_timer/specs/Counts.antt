-- The count of timer 1 as the clocks that are left until it goes to 0.
use Rattle.std.specs.Prelude.{ℕ, ◌≡◌, ◌+◌, ◌-◌, ◌%◌, ◌<◌, ◌≤◌, ◌⊎◌, Bool, ◌&&◌, ◌==◌, if◌then◌else◌}

-- the counting form, by TCCR1A and TCCR1B
abbrev pub counts : ℕ → ℕ → Bool
counts control_a control_b = control_b % 32 == 9 && control_a % 4 == 0

-- the count: so many clocks before its end, or where it stands still
abbrev pub count_of : ℕ → ℕ → ℕ → ℕ → ℕ → ℕ
count_of control_a control_b still end left = if counts control_a control_b then end - left else still

-- a count up to the top goes to 0 past the top, and one above the top past 65,535
abbrev pub EndsAt : ℕ → ℕ → ℕ → Type 0
EndsAt end top count = ((count ≤ top) × (end ≡ top + 1)) ⊎ ((top < count) × (end ≡ 65536))

-- the clocks that are left until the count goes to 0
pub record GoesRound (end left top : ℕ) : Type 0 where
  pub some : 0 < left
  pub within : left ≤ end
  pub most : end ≤ 65536
  pub ends : EndsAt end top (end - left)
