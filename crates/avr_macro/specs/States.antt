-- How far an expansion has come.
use Rattle.std.specs.Prelude.{ℕ, ◌+◌, Bool, true, false, List, [], ◌∷◌, drop, if◌then◌else◌}
use Rattle.std.specs.Ordering.{nat_cmp}
use Rattle.std.specs.Cmp.Lexicographic.{slice_cmp}
use Rattle.std.specs.FinMap as map
use Rattle.avr_text.specs.Names.{NameMap}
use Rattle.avr_asm.specs.Layout.{predefined}
use Rattle.avr_macro.specs.declared.origin.Origin.{Origin}
use Rattle.avr_macro.specs.Blocks.{is_zero}
use Rattle.avr_macro.specs.Lines.{lines_of}

-- the limits: files that a file is included in, blocks and calls that a block or call stands in, lines that are
-- reached, and bytes of a file and of the flat text
abbrev pub include_limit : ℕ
include_limit = 8

abbrev pub block_limit : ℕ
block_limit = 16

abbrev pub line_limit : ℕ
line_limit = 1048576

abbrev pub text_limit : ℕ
text_limit = 1048576

-- A file, a block or a call, as far as it is expanded: the lines that are left, the lines of a whole turn and the turns
-- after this one; whether its end counts as a line each turn, and whether the lines that close it have no further words;
-- the place in a file of its next line, which inside of blocks and calls is that of the outermost one; and in how many
-- includes, and in how many blocks and calls its lines stand.
pub record Level : Type 0 where
  pub lines : List (List ℕ)
  pub again : List (List ℕ)
  pub turns : ℕ
  pub counted : Bool
  pub well : Bool
  pub origin : Origin
  pub includes : ℕ
  pub blocks : ℕ

-- the bodies of macros by their names
abbrev pub MacroMap : Type 0
MacroMap = map.FinMap {K = List ℕ} (slice_cmp nat_cmp) (List (List ℕ))

-- What is to be expanded, the innermost first; the macros and the constants; how many calls there were and how many
-- lines were reached; and the flat text with the origins of its lines.
pub record State : Type 0 where
  pub levels : List Level
  pub macros : MacroMap
  pub constants : NameMap
  pub calls : ℕ
  pub reached : ℕ
  pub text : List ℕ
  pub origins : List Origin

-- a file, from its first line on
abbrev pub file_level : ℕ → ℕ → List ℕ → Level
file_level file includes bytes =
    record {
      lines = lines_of bytes;
      again = lines_of bytes;
      turns = 0;
      counted = false;
      well = true;
      origin = record { file = file; line = 1 };
      includes = includes;
      blocks = 0;
    }

-- a block or a call that begins at a level's next line
abbrev pub inside : Level → List (List ℕ) → ℕ → Bool → Bool → Level
inside level lines turns counted well =
    record {
      lines = lines;
      again = lines;
      turns = turns;
      counted = counted;
      well = well;
      origin = level.origin;
      includes = level.includes;
      blocks = level.blocks + 1;
    }

-- in a file the place goes on by lines
abbrev pub place_after : ℕ → ℕ → Origin → Origin
place_after blocks n origin = if is_zero blocks then record { file = origin.file; line = origin.line + n } else origin

-- a level after some of its lines
abbrev pub passed : ℕ → Level → Level
passed n level =
    record {
      lines = drop n level.lines;
      again = level.again;
      turns = level.turns;
      counted = level.counted;
      well = level.well;
      origin = place_after level.blocks n level.origin;
      includes = level.includes;
      blocks = level.blocks;
    }

-- a block's next turn
abbrev pub next_turn : ℕ → Level → Level
next_turn turns level =
    record {
      lines = level.again;
      again = level.again;
      turns = turns;
      counted = level.counted;
      well = level.well;
      origin = level.origin;
      includes = level.includes;
      blocks = level.blocks;
    }

-- the same with other levels
abbrev pub around : List Level → State → State
around levels s =
    record {
      levels = levels;
      macros = s.macros;
      constants = s.constants;
      calls = s.calls;
      reached = s.reached;
      text = s.text;
      origins = s.origins;
    }

-- the first file, before its first line
abbrev pub first_state : List ℕ → State
first_state bytes =
    record {
      levels = file_level 0 0 bytes ∷ [];
      macros = map.empty;
      constants = predefined;
      calls = 0;
      reached = 0;
      text = [];
      origins = [];
    }
