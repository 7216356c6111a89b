-- Steps of the loops over the bytes of a text: lines that end, and a line in a call.
use Rattle.std.proofs.Common.{◌≡◌, ◌≢◌, ℕ, ◌+◌, ◌<◌, ◌≤◌, Bool, false, not, List, [], ◌∷◌, ◌++◌, length, get_or, drop, refl, ap}
use Rattle.std.proofs.Common.{append_assoc, arith, ◌==◌, ◌&&◌}
use Rattle.std.specs.Str.Lines.{strip_carriage_return}
use Rattle.std.proofs.lemmas.Bool.Decides.{nat_tests}
use Rattle.std.proofs.lemmas.List.{append-nil, at_drop_all, at_drop_more, length-append}
use Rattle.avr_macro.specs.Arguments.{put_byte, replaced_from}
use Rattle.avr_macro.specs.Lines.{last_line, lines_from}

abbrev Texts : Type 0
Texts = List (List ℕ)

other_byte : (b : ℕ) → b ≢ 10 → (b == 10) ≡ false
other_byte b h = grind (arith, nat_tests)

-- ---- the lines of a text

-- a byte that ends the line
pub line_ended : (lines more : Texts) (line cut lent next text : List ℕ) (n : ℕ) → n < length text → get_or text n 0 ≡ 10
    → cut ≡ strip_carriage_return line → lent ≡ cut → more ≡ lines ++ lent ∷ [] → next ≡ []
    → more ++ lines_from next (drop (n + 1) text) ≡ lines ++ lines_from line (drop n text)
line_ended lines more line cut lent next text n within ends is lends adds clears =
    cc (
      append_assoc lines (strip_carriage_return line ∷ []) (lines_from [] (drop (n + 1) text)),
      at_drop_more (λ t. lines ++ lines_from line t) text n 0 within,
    )

-- one more byte of the line
pub line_longer : (lines : Texts) (line next text : List ℕ) (n : ℕ) → n < length text → get_or text n 0 ≢ 10
    → next ≡ line ++ get_or text n 0 ∷ []
    → lines ++ lines_from next (drop (n + 1) text) ≡ lines ++ lines_from line (drop n text)
line_longer lines line next text n within other adds =
    cc (other_byte (get_or text n 0) other, at_drop_more (λ t. lines ++ lines_from line t) text n 0 within)

pub few_ended : (lines more : Texts) (line lent next : List ℕ) (n : ℕ) → length lines + length line ≤ n → more ≡ lines ++ lent ∷ []
    → next ≡ [] → length more + length next ≤ n + 1
few_ended lines more line lent next n few adds clears =
    omega (arith, ap length adds, ap length clears, length-append lines (lent ∷ []), few)

pub few_longer : (lines more : Texts) (line next : List ℕ) (b n : ℕ) → length lines + length line ≤ n → more ≡ lines
    → next ≡ line ++ b ∷ [] → length more + length next ≤ n + 1
few_longer lines more line next b n few same adds =
    omega (arith, ap length same, ap length adds, length-append line (b ∷ []), few)

last_is : (line : List ℕ) (len : ℕ) → len ≡ length line → 0 < len → last_line line ≡ line ∷ []
last_is [] len e h = absurd (omega (arith, h, e))
last_is (b ∷ bs) len e h = refl

none_last : (line : List ℕ) (len : ℕ) → len ≡ length line → len ≤ 0 → last_line line ≡ []
none_last [] len e h = refl
none_last (b ∷ bs) len e h = absurd (omega (arith, h, e))

-- a last line without an end
pub last_told : (lines more : Texts) (line lent text : List ℕ) (n len : ℕ) → length text ≤ n → len ≡ length line → 0 < len
    → lent ≡ line → more ≡ lines ++ lent ∷ [] → more ≡ lines ++ lines_from line (drop n text)
last_told lines more line lent text n len ends same some lends adds =
    cc (last_is line len same some, at_drop_all (λ t. lines ++ lines_from line t) text n ends)

-- no line without an end
pub none_told : (lines : Texts) (line text : List ℕ) (n len : ℕ) → length text ≤ n → len ≡ length line → len ≤ 0
    → lines ≡ lines ++ lines_from line (drop n text)
none_told lines line text n len ends same none =
    cc (append-nil lines, none_last line len same none, at_drop_all (λ t. lines ++ lines_from line t) text n ends)

-- ---- a line in a call

-- one more byte
pub byte_put : (arguments : Texts) (call : ℕ) (named after : Bool) (text line next : List ℕ) (n : ℕ) → n < length text
    → next ≡ line ++ put_byte arguments call named (get_or text n 0) → after ≡ (not named && get_or text n 0 == 64)
    → next ++ replaced_from arguments call after (drop (n + 1) text) ≡ line ++ replaced_from arguments call named (drop n text)
byte_put arguments call named after text line next n within adds then =
    cc (
      append_assoc line (put_byte arguments call named (get_or text n 0)) (replaced_from arguments call after (drop (n + 1) text)),
      at_drop_more (λ t. line ++ replaced_from arguments call named t) text n 0 within,
    )
