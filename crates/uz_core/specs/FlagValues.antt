-- The flags of a counted byte as they stand in SREG.
use Rattle.std.specs.Prelude.{ℕ, nat_le, nat_eq, if◌then◌else◌}

-- Z, N, V and S of a result of DEC: bits 1 to 4
abbrev pub decremented_value : ℕ → ℕ
decremented_value v = if nat_le 128 v then 20 else if nat_eq v 127 then 24 else if nat_eq v 0 then 2 else 0

-- those of a result of INC
abbrev pub incremented_value : ℕ → ℕ
incremented_value v = if nat_eq v 128 then 12 else if nat_le 128 v then 20 else if nat_eq v 0 then 2 else 0
