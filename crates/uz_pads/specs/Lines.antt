-- The text of a pad file: lines that end in LF or CRLF, each blank or a pair of words.
use Rattle.std.specs.Prelude.{◌≡◌, ℕ, ◌+◌, ◌*◌, Bool, true, false, ◌&&◌, ◌==◌, if◌then◌else◌, List, [], ◌∷◌}
use Rattle.std.specs.Prelude.{Option, Some, None, Result, Ok}
use Prim.Native.Char.{code}
use Rattle.hex.specs.Hex.{decode_of}
use Rattle.hex.specs.declared.error.FromHexError.{FromHexError}
use Rattle.uz_hex.specs.Lines.{is_blank}
use Rattle.uz_pads.specs.ItemTexts.{IsFirstFaulty, IsText, items_in}
use Rattle.uz_pads.specs.declared.pads.Pad.{Pad}
use Rattle.uz_pads.specs.declared.lines.Line.{Line}
use Rattle.uz_pads.specs.declared.lines.Line.TheVariants.{Blank, Pair, Faulty}
use Rattle.uz_pads.specs.declared.errors.PadWhy.{PadWhy}
use Rattle.uz_pads.specs.declared.errors.PadWhy.TheVariants.{Digits, Count}

-- One line

-- the number of two bytes, the high one first
abbrev pub number_of : Result (List ℕ) FromHexError → Option ℕ
number_of (Ok (high ∷ low ∷ [])) = Some (high * 256 + low)
number_of other = None

-- the number that four hexadecimal digits of either case stand for
abbrev pub word_of : ℕ → ℕ → ℕ → ℕ → Option ℕ
word_of a b c d = number_of (decode_of (a ∷ b ∷ c ∷ d ∷ []))

abbrev pub pad_of : Option ℕ → Option ℕ → Option Pad
pad_of (Some one) (Some two) = Some (record { one = one; two = two })
pad_of one two = None

-- four hexadecimal digits, one space, four hexadecimal digits
abbrev pub pair_in : List ℕ → Option Pad
pair_in (a ∷ b ∷ c ∷ d ∷ space ∷ e ∷ f ∷ g ∷ h ∷ []) = if space == code " " then pad_of (word_of a b c d) (word_of e f g h) else None
pair_in line = None

-- nothing but spaces and tabs
abbrev pub is_blank_line : List ℕ → Bool
is_blank_line [] = true
is_blank_line (byte ∷ bytes) = is_blank byte && is_blank_line bytes

abbrev pub line_of_pair : Option Pad → Line
line_of_pair (Some pad) = Pair pad
line_of_pair None = Faulty

abbrev pub kind_of : List ℕ → Line
kind_of line = if is_blank_line line then Blank else line_of_pair (pair_in line)

-- Many lines

abbrev pub pads_of : Line → List Pad
pads_of Blank = []
pads_of (Pair pad) = pad ∷ []
pads_of Faulty = []

abbrev pub pads_on : List ℕ → List Pad
pads_on line = pads_of (kind_of line)

-- the pairs of some lines, in order
abbrev pub pads_in : List (List ℕ) → List Pad
pads_in = items_in pads_on

abbrev pub is_well_formed : Line → Bool
is_well_formed Faulty = false
is_well_formed line = true

abbrev pub is_good_line : List ℕ → Bool
is_good_line line = is_well_formed (kind_of line)

-- Lines that are each blank or a pair, with at most 65,536 pairs
abbrev pub IsRead : List (List ℕ) → List Pad → Type 0
IsRead = IsText pads_on is_good_line

-- What is wrong with a line, where some pairs came before it: it is neither blank nor a pair, or it is pair number 65,537
abbrev pub IsFault : Line → ℕ → PadWhy → Type 0
IsFault Faulty before Digits = Unit {0}
IsFault (Pair pad) before Count = before ≡ 65536
IsFault line before why = ⊥

abbrev pub HasFault : List ℕ → ℕ → PadWhy → Type 0
HasFault line before why = IsFault (kind_of line) before why

-- The first faulty line: all lines before it are read, and it has a fault
abbrev pub IsFirstFault : List (List ℕ) → ℕ → PadWhy → Type 0
IsFirstFault = IsFirstFaulty pads_on is_good_line HasFault
