-- The level of a file, from its first line on.
use Rattle.std.proofs.Common.{◌≡◌, ℕ, ◌+◌, ◌-◌, ◌<◌, ◌≤◌, List, length, sym, ◌∙◌, ap, arith}
use Rattle.std.specs.List.{slice_range}
use Rattle.avr_macro.specs.Lines.{lines_of}
use Rattle.avr_macro.proofs.Slices.{whole_body}
use Rattle.avr_macro.specs.States.{file_level}

pub file_begins : (body lines : List (List ℕ)) (bytes : List ℕ) (file includes n : ℕ) → n ≡ length lines → body ≡ lines
    → lines ≡ lines_of bytes
    → record (file_level file includes bytes) { lines = slice_range body 0 n; again = slice_range body 0 n }
    ≡ file_level file includes bytes
file_begins body lines bytes file includes n count same is =
    ap (λ xs. record (file_level file includes bytes) { lines = xs; again = xs })
    (whole_body body n (count ∙ ap length (sym same)) ∙ same ∙ is)

pub lines_within : (body lines : List (List ℕ)) (n : ℕ) → n ≡ length lines → body ≡ lines → n ≤ length body
lines_within body lines n count same = omega (arith, count, ap length same)

pub lines_numbered : (lines : List (List ℕ)) (bytes : List ℕ) (n : ℕ) → n ≡ length lines → length lines ≤ length bytes
    → length bytes ≤ 1048576 → 1 + (n - 0) < 4294967296
lines_numbered lines bytes n count few short = omega (arith, count, few, short)

pub at_least_none : (n : ℕ) → 0 ≤ n
at_least_none n = omega arith
