-- The lines of a frame as they follow each other, and where a clock past a line's end lands.
use Rattle.std.specs.Prelude.{ℕ, suc, ◌-◌, ◌==◌, nat_lt, if◌then◌else◌}
use Rattle.uz_schedule.specs.declared.lines.Schedule.{Schedule}
use Rattle.uz_schedule.specs.Schedule.{scanline, length_of, next_line}

-- how many clocks each line has, and which line comes after it
pub record Lines : Type 0 where
  pub length : ℕ → ℕ
  pub next : ℕ → ℕ

abbrev pub order_of : Schedule → Lines
order_of s = record { length = length_of s; next = next_line s }

-- n lines of a scanline's length, the first of which follows the last
abbrev pub uniform : ℕ → Lines
uniform n = record { length = λ l. scanline; next = λ l. if suc l == n then 0 else suc l }

-- the line, and the clock of it, that is k clocks after the begin of line l, where k is less than two lines
abbrev pub line_after : Lines → ℕ → ℕ → ℕ
line_after lines l k = if nat_lt k (lines.length l) then l else lines.next l

abbrev pub clock_after : Lines → ℕ → ℕ → ℕ
clock_after lines l k = if nat_lt k (lines.length l) then k else k - lines.length l
