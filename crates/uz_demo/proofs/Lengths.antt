-- How long the text of a demo is.
use Rattle.std.proofs.Common.{◌≡◌, ℕ, zero, suc, ◌+◌, ◌*◌, ◌/◌, ◌%◌, ◌<◌, ◌≤◌, ◌==◌, Bool, true, false, cond, List, [], ◌++◌, length}
use Rattle.std.proofs.Common.{length-append, decimal, refl, arith}
use Rattle.std.specs.Prelude.{codes}
use Rattle.std.proofs.lemmas.Fmt.{length-decimal-le}
use Rattle.uz_demo.specs.Pieces.{ended, names, hints, reset, main_loop, handler, blank, draw, row, pix, next_row, drawn}
use Rattle.uz_demo.specs.Source.{closing, console, frame, gap, opening, picture, pixels, shown, source}
use Rattle.uz_demo.specs.Waits.{block, last_block, nops, set, turn, wait, whole_blocks}

both : (a b : List ℕ) (m n : ℕ) → length a ≤ m → length b ≤ n → length (a ++ b) ≤ m + n
both a b m n h k = let e = length-append a b in omega arith

number_length : (n : ℕ) → n < 100000 → length (decimal n) ≤ 5
number_length n h = length-decimal-le 5 n (omega arith) (omega arith) (omega arith)

-- a literal has its own length
literal : (a : List ℕ) (m : ℕ) → length a ≡ m → length a ≤ m
literal a m e = omega arith

set_length : (r n : ℕ) → r < 100000 → n < 100000 → length (set r n) ≤ 19
set_length r n h k =
    both (codes "  ldi r" ++ decimal r ++ codes "," ++ decimal n) (codes "\n") 18 1
    (both (codes "  ldi r" ++ decimal r ++ codes ",") (decimal n) 13 5
    (both (codes "  ldi r" ++ decimal r) (codes ",") 12 1
    (both (codes "  ldi r") (decimal r) 7 5 (literal (codes "  ldi r") 7 refl) (number_length r h)) (literal (codes ",") 1 refl))
    (number_length n k))
    (literal (codes "\n") 1 refl)

turn_length : (k : ℕ) → k < 100000 → length (turn k) ≤ 30
turn_length k h =
    both (codes "d" ++ decimal k ++ codes ": dec r31\n  brne d" ++ decimal k) (codes "\n") 29 1
    (both (codes "d" ++ decimal k ++ codes ": dec r31\n  brne d") (decimal k) 24 5
    (both (codes "d" ++ decimal k) (codes ": dec r31\n  brne d") 6 18
    (both (codes "d") (decimal k) 1 5 (literal (codes "d") 1 refl) (number_length k h)) (literal (codes ": dec r31\n  brne d") 18 refl))
    (number_length k h))
    (literal (codes "\n") 1 refl)

block_length : (k n : ℕ) → k < 100000 → n < 100000 → length (block k n) ≤ 49
block_length k n h i = both (set 31 n) (turn k) 19 30 (set_length 31 n (omega arith) i) (turn_length k h)

whole_length : (k : ℕ) → k < 100000 → length (whole_blocks k) ≤ 49 * k
whole_length zero h = omega arith
whole_length (suc k) h = let e = both (whole_blocks k) (block k 250) (49 * k) 49 (whole_length k (omega arith))
    (block_length k 250 (omega arith) (omega arith)) in omega arith

last_length : (k n : ℕ) → k < 100000 → n < 100000 → length (last_block k n) ≤ 49
last_length k n h i = by_test (n == 0) (block_length k n h i)
  where
    by_test : (b : Bool) → length (block k n) ≤ 49 → length (cond b [] (block k n)) ≤ 49
    by_test true e = omega arith
    by_test false e = e

nops_length : (n : ℕ) → length (nops n) ≤ 6 * n
nops_length zero = omega arith
nops_length (suc n) = let e = both (nops n) (codes "  nop\n") (6 * n) 6 (nops_length n) (literal (codes "  nop\n") 6 refl) in omega arith

wait_length : (d : ℕ) → d < 2000 → length (wait d) ≤ 300
wait_length d h =
    let whole = whole_length (d / 750) (omega arith) in
    let last = last_length (d / 750) (d % 750 / 3) (omega arith) (omega arith) in
    let rest = nops_length (d % 750 % 3) in
    let blocks = whole_blocks (d / 750) in
    let last_one = last_block (d / 750) (d % 750 / 3) in
    let e = both (blocks ++ last_one) (nops (d % 750 % 3)) (49 * (d / 750) + 49) (6 * (d % 750 % 3))
    (both blocks last_one (49 * (d / 750)) 49 whole last) rest in
    omega arith

names_length : length (ended names) ≡ 53
unfolding ended
names_length = refl

hints_length : length (ended hints) ≡ 120
unfolding ended
hints_length = refl

reset_length : length (ended reset) ≡ 269
unfolding ended
reset_length = refl

loop_length : length (ended main_loop) ≡ 183
unfolding ended
loop_length = refl

handler_length : length (ended handler) ≡ 223
unfolding ended
handler_length = refl

blank_length : length (ended blank) ≡ 309
unfolding ended
blank_length = refl

draw_length : length (ended draw) ≡ 15
unfolding ended
draw_length = refl

row_length : length (ended row) ≡ 61
unfolding ended
row_length = refl

pix_length : length (ended pix) ≡ 128
unfolding ended
pix_length = refl

next_length : length (ended next_row) ≡ 190
unfolding ended
next_length = refl

drawn_length : length (ended drawn) ≡ 55
unfolding ended
drawn_length = refl

exactly : (n m : ℕ) → n ≡ m → n ≤ m
exactly n m e = omega arith

shown_few : (number : ℕ) → shown number < 1000
shown_few number = omega arith

pixels_few : (number : ℕ) → pixels number < 1000
pixels_few number = omega arith

gap_short : (number : ℕ) → gap number < 2000
gap_short number = omega arith

frame_length : (number : ℕ) → length (frame number) ≤ 17
frame_length number = let few = shown_few number in
    both (codes ".lines " ++ decimal (38 + shown number)) (codes ", 28\n") 12 5
    (both (codes ".lines ") (decimal (38 + shown number)) 7 5 (literal (codes ".lines ") 7 refl)
    (number_length (38 + shown number) (omega arith)))
    (literal (codes ", 28\n") 5 refl)

opening_length : (number : ℕ) → length (opening number) ≤ 190
opening_length number = both (ended names ++ frame number) (ended hints) 70 120
    (both (ended names) (frame number) 53 17 (exactly _ _ names_length) (frame_length number)) (exactly _ _ hints_length)

console_length : length console ≤ 984
console_length =
    both (ended reset ++ ended main_loop ++ ended handler) (ended blank) 675 309
    (both (ended reset ++ ended main_loop) (ended handler) 452 223 (both (ended reset) (ended main_loop) 269 183 (exactly _ _ reset_length)
    (exactly _ _ loop_length)) (exactly _ _ handler_length)) (exactly _ _ blank_length)

picture_length : (number : ℕ) → length (picture number) ≤ 242
picture_length number =
    let lines = set_length 30 (shown number) (omega arith) (omega (arith, shown_few number)) in
    let dots = set_length 31 (pixels number) (omega arith) (omega (arith, pixels_few number)) in
    let begun = ended draw ++ set 30 (shown number) in
    both (begun ++ ended row ++ set 31 (pixels number)) (ended pix) 114 128
    (both (begun ++ ended row) (set 31 (pixels number)) 95 19
    (both begun (ended row) 34 61 (both (ended draw) (set 30 (shown number)) 15 19 (exactly _ _ draw_length) lines)
    (exactly _ _ row_length)) dots)
    (exactly _ _ pix_length)

closing_length : (number : ℕ) → length (closing number) ≤ 545
closing_length number =
    both (wait (gap number) ++ ended next_row) (ended drawn) 490 55
    (both (wait (gap number)) (ended next_row) 300 190 (wait_length (gap number) (gap_short number)) (exactly _ _ next_length))
    (exactly _ _ drawn_length)

pub source_length : (number : ℕ) → length (source number) ≤ 1961
source_length number =
    both (opening number ++ console ++ picture number) (closing number) 1416 545
    (both (opening number ++ console) (picture number) 1174 242 (both (opening number) console 190 984 (opening_length number)
    console_length) (picture_length number)) (closing_length number)

pub short_source : (number : ℕ) (text : List ℕ) → text ≡ source number → length text ≤ 2048
short_source number text e = let h = source_length number in rw e (omega arith)
