-- Counts of faults.
use Rattle.std.specs.Prelude.{ℕ, ◌+◌, ◌-◌, ◌^◌, ◌<◌, ◌≤◌, ◌⊎◌, nat_lt, if◌then◌else◌}

-- the count rose, or stands at its type's end, where it counts as risen
abbrev pub Rose : ℕ → ℕ → Type 0
Rose old new = (old < new) ⊎ (2 ^ 64 - 1 ≤ new)

-- a count after one more fault: it stands still at its type's end
abbrev pub raised : ℕ → ℕ
raised count = if nat_lt count (2 ^ 64 - 1) then count + 1 else count

-- a number of calls after one more: it stands still at its type's end
abbrev pub next_call : ℕ → ℕ
next_call calls = if nat_lt calls (2 ^ 32 - 1) then calls + 1 else calls
