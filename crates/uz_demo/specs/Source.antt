-- The source that `demo` makes of a number: the sample console with a height and a width of its picture that the number fixes. Each
-- line of the picture takes a scanline's clocks at every width: what its pixels take less, 11 clocks each, the wait after them takes more.
use Rattle.std.specs.Prelude.{ℕ, ◌+◌, ◌-◌, ◌*◌, ◌/◌, ◌%◌, List, ◌++◌, codes, decimal}
use Rattle.uz_demo.specs.Pieces.{ended, names, hints, reset, main_loop, handler, blank, draw, row, pix, next_row, drawn}
use Rattle.uz_demo.specs.Waits.{set, wait}

-- the lines of the picture, 64 to 224
abbrev pub shown : ℕ → ℕ
shown number = 64 + number % 161

-- the pixels of a line, 16 to 80
abbrev pub pixels : ℕ → ℕ
pixels number = 16 + number / 161 % 65

-- the clocks from the last pixel's end to the next line's begin
abbrev pub gap : ℕ → ℕ
gap number = 566 + 11 * (80 - pixels number)

-- 38 lines come before the picture; sync falls at clock 28
abbrev pub frame : ℕ → List ℕ
frame number = codes ".lines " ++ decimal (38 + shown number) ++ codes ", 28\n"

abbrev pub opening : ℕ → List ℕ
opening number = ended names ++ frame number ++ ended hints

-- what is the same in all of them
abbrev pub console : List ℕ
console = ended reset ++ ended main_loop ++ ended handler ++ ended blank

abbrev pub picture : ℕ → List ℕ
picture number = ended draw ++ set 30 (shown number) ++ ended row ++ set 31 (pixels number) ++ ended pix

abbrev pub closing : ℕ → List ℕ
closing number = wait (gap number) ++ ended next_row ++ ended drawn

abbrev pub source : ℕ → List ℕ
source number = opening number ++ console ++ picture number ++ closing number
