-- The places of a row's samples.
use Rattle.std.specs.Prelude.{ℕ, ◌+◌, ◌/◌, min}

-- how many samples stand at fewer than so many clocks after a line's start
abbrev pub samples_within : ℕ → ℕ
samples_within clocks = min 455 ((clocks + 3) / 4)
