-- What a line does: the cases of expansion. Of the reasons for which a line is refused, that of the least number is told.
use Rattle.std.specs.Prelude.{ℕ, zero, suc, ◌+◌, ◌&&◌, ◌||◌, nat_le, nat_lt, not, Bool, true, false, ℤ, pos, negsuc, List, [], ◌∷◌, ◌++◌}
use Rattle.std.specs.Prelude.{length, map, drop, slice_index_or, Option, Some, None, is_some, if◌then◌else◌}
use Rattle.std.specs.List.{slice_range}
use Rattle.std.specs.FinMap as finmap
use Rattle.avr_text.specs.Names.{NameMap}
use Rattle.avr_macro.specs.declared.directives.Word.{Word}
use Rattle.avr_macro.specs.declared.directives.Word.TheVariants.{Macro, EndMacro, Repeat, EndRepeat, If, Else, EndIf, Include, Constant}
use Rattle.avr_macro.specs.declared.directives.Word.TheVariants.{Other}
use Rattle.avr_macro.specs.declared.errors.MacroWhy.{MacroWhy}
use Rattle.avr_macro.specs.declared.errors.MacroWhy.TheVariants as why
use Rattle.avr_macro.specs.Arguments.{arguments_of, is_empty, any_lacks, replaced}
use Rattle.avr_macro.specs.Blocks.{is_zero, macro_end, repeat_end, if_end, if_else}
use Rattle.avr_macro.specs.Directives.{after_first_word, closes_well, directive_of, first_word, macro_name, operands_of}
use Rattle.avr_macro.specs.Lines.{is_bare, trimmed}
use Rattle.avr_macro.specs.States.{Level, State, block_limit, file_level, include_limit, inside, line_limit, next_turn, passed, text_limit}
use Rattle.std.specs.Str.{is_utf8}
use Prim.Native.Char.{code}
use Rattle.avr_macro.specs.Values.{Setting, setting_of, text_value}

-- expansion goes on, or asks for a file, or a line is refused
pub data Move : Type 0 where
  goes : State → Move
  loads : List ℕ → Move
  refuses : MacroWhy → Move

-- no further line may be reached
abbrev pub is_full : State → Bool
is_full s = nat_le line_limit s.reached

abbrev pub unless : Bool → MacroWhy → Move → Move
unless refused reason move = if refused then refuses reason else move

-- a line is reached: these levels are to be expanded then
abbrev pub reach : List Level → State → State
reach levels s =
    record {
      levels = levels;
      macros = s.macros;
      constants = s.constants;
      calls = s.calls;
      reached = s.reached + 1;
      text = s.text;
      origins = s.origins;
    }

-- ---- the end of a turn

-- the `.endr` of a repeated block is reached each turn
abbrev pub turned : ℕ → Level → State → State
turned zero level s = reach s.levels s
turned (suc turns) level s = reach (next_turn turns level ∷ s.levels) s

abbrev pub turn_end : Level → State → Move
turn_end level s =
    unless (not level.well) why.Form (if level.counted then unless (is_full s) why.Full (goes (turned level.turns level s)) else goes s)

-- ---- blocks and calls

-- a block, a call or a file begins, and its level goes on after it
abbrev pub enter : Level → Level → State → Move
enter inner after s = unless (is_full s) why.Full (goes (reach (inner ∷ after ∷ s.levels) s))

-- the lines after the next one, and some of them: from a place to before another
abbrev pub later : Level → List (List ℕ)
later level = drop 1 level.lines

abbrev pub part : Level → ℕ → ℕ → List (List ℕ)
part level from to = slice_range (later level) from to

-- the line after so many has no words that it may not have
abbrev pub closed_by : List (List ℕ) → ℕ → Bool
closed_by lines n = closes_well (slice_index_or lines n [])

-- `.macro NAME` to `.endm` defines a macro
abbrev pub define : List ℕ → List (List ℕ) → State → State
define name body s =
    record {
      levels = s.levels;
      macros = finmap.insert s.macros name body;
      constants = s.constants;
      calls = s.calls;
      reached = s.reached;
      text = s.text;
      origins = s.origins;
    }

abbrev pub macro_body : List ℕ → Option ℕ → Level → State → Move
macro_body name None level s = refuses why.Unclosed
macro_body name (Some n) level s =
    unless (is_some (finmap.get s.macros name)) why.Twice
    (enter (inside level [] 0 false (closed_by (later level) n)) (passed (n + 2) level) (define name (part level 0 n) s))

abbrev pub macro_named : Option (List ℕ) → Level → State → Move
macro_named None level s = refuses why.Form
macro_named (Some name) level s = macro_body name (macro_end (later level)) level s

abbrev pub macro_move : List ℕ → Level → State → Move
macro_move operands level s = unless (nat_le block_limit level.blocks) why.Depth (macro_named (macro_name operands) level s)

-- `.rept E` to `.endr` is expanded E times; where E is 0 its end isn't reached
abbrev pub repeated : ℕ → ℕ → Level → Level
repeated zero n level = inside level [] 0 false true
repeated (suc turns) n level = inside level (part level 0 n) turns true (closed_by (later level) n)

abbrev pub repeat_times : Option ℤ → ℕ → Level → State → Move
repeat_times None n level s = refuses why.Value
repeat_times (Some (negsuc times)) n level s = refuses why.Value
repeat_times (Some (pos times)) n level s = unless (nat_lt 65535 times) why.Value (enter (repeated times n level) (passed (n + 2) level) s)

abbrev pub repeat_body : List ℕ → Option ℕ → Level → State → Move
repeat_body operands None level s = refuses why.Unclosed
repeat_body operands (Some n) level s = repeat_times (text_value s.constants operands) n level s

abbrev pub repeat_move : List ℕ → Level → State → Move
repeat_move operands level s =
    unless (nat_le block_limit level.blocks) why.Depth
    (unless (is_bare operands) why.Form (repeat_body operands (repeat_end (later level)) level s))

-- `.if E`, then perhaps `.else`, then `.endif`: the first part where E isn't 0, else the second. The `.else` is reached
-- after the first part, or before the second.
abbrev pub is_null : ℤ → Bool
is_null (pos n) = is_zero n
is_null (negsuc n) = false

abbrev pub one_part : Bool → ℕ → Level → Level
one_part chosen n level = inside level (if chosen then part level 0 n else []) 0 false (closed_by (later level) n)

abbrev pub second_part : ℕ → ℕ → Level → List (List ℕ)
second_part m n level = if closed_by (later level) m then part level (m + 1) n else []

abbrev pub two_parts : Bool → ℕ → ℕ → Level → Level
two_parts chosen m n level =
    inside level (if chosen then part level 0 m else second_part m n level) 0 false (closed_by (later level) m && closed_by (later level) n)

abbrev pub chosen_part : Bool → Option ℕ → ℕ → Level → Level
chosen_part chosen None n level = one_part chosen n level
chosen_part chosen (Some m) n level = two_parts chosen m n level

abbrev pub if_valued : Option ℤ → ℕ → Level → State → Move
if_valued None n level s = refuses why.Value
if_valued (Some x) n level s = enter (chosen_part (not (is_null x)) (if_else (part level 0 n)) n level) (passed (n + 2) level) s

abbrev pub if_body : List ℕ → Option ℕ → Level → State → Move
if_body operands None level s = refuses why.Unclosed
if_body operands (Some n) level s = if_valued (text_value s.constants operands) n level s

abbrev pub if_move : List ℕ → Level → State → Move
if_move operands level s =
    unless (nat_le block_limit level.blocks) why.Depth
    (unless (is_bare operands) why.Form (if_body operands (if_end (later level)) level s))

-- a line whose first word is a macro's name gives the expansion of its body
abbrev pub call : State → State
call s =
    record {
      levels = s.levels;
      macros = s.macros;
      constants = s.constants;
      calls = s.calls + 1;
      reached = s.reached;
      text = s.text;
      origins = s.origins;
    }

abbrev pub lacks_one : List (List ℕ) → List (List ℕ) → Bool
lacks_one arguments body = nat_lt 10 (length arguments) || any_lacks (length arguments) body

abbrev pub call_with : List (List ℕ) → List (List ℕ) → Level → State → Move
call_with body arguments level s =
    unless (nat_le block_limit level.blocks) why.Depth
    (unless (lacks_one arguments body) why.Argument
    (enter (inside level (map (replaced arguments s.calls) body) 0 false true) (passed 1 level) (call s)))

abbrev pub call_move : List (List ℕ) → List ℕ → Level → State → Move
call_move body line level s = call_with body (arguments_of (after_first_word line)) level s

-- ---- other lines

-- `.equ NAME = E` makes a constant where E has a value
abbrev pub with_setting : Option Setting → NameMap → NameMap
with_setting None constants = constants
with_setting (Some setting) constants = finmap.insert constants setting.0 setting.1

-- the line gives itself, and ends in LF
abbrev pub put_line : List ℕ → Option Setting → Level → State → State
put_line line setting level s =
    record {
      levels = passed 1 level ∷ s.levels;
      macros = s.macros;
      constants = with_setting setting s.constants;
      calls = s.calls;
      reached = s.reached + 1;
      text = s.text ++ (line ++ code "\n" ∷ []);
      origins = s.origins ++ level.origin ∷ [];
    }

abbrev pub plain_move : List ℕ → Option Setting → Level → State → Move
plain_move line setting level s =
    unless (is_full s || nat_lt text_limit (length s.text + (length line + 1))) why.Full (goes (put_line line setting level s))

-- a line that isn't a directive of macros and blocks
abbrev pub body_of : Option (List ℕ) → State → Option (List (List ℕ))
body_of None s = None
body_of (Some name) s = finmap.get s.macros name

abbrev pub other_by : Option (List (List ℕ)) → List ℕ → Level → State → Move
other_by None line level s = plain_move line None level s
other_by (Some body) line level s = call_move body line level s

abbrev pub other_move : List ℕ → Level → State → Move
other_move line level s = other_by (body_of (first_word line) s) line level s

-- ---- includes

-- `.include NAME` asks for the file; NAME is the rest of the line
abbrev pub file_name : List ℕ → Option (List ℕ)
file_name bytes = if is_empty bytes then None else if is_utf8 bytes then Some bytes else None

abbrev pub include_named : Option (List ℕ) → Level → Move
include_named None level = unless (nat_le include_limit level.includes) why.Depth (refuses why.Form)
include_named (Some name) level = loads name

abbrev pub include_move : List ℕ → Level → Move
include_move operands level = include_named (file_name (trimmed operands)) level

-- once the file is there, which is the file of a number
abbrev pub included : ℕ → List ℕ → Level → State → Move
included file bytes level s =
    unless (nat_le include_limit level.includes) why.Depth
    (unless (not (is_zero level.blocks)) why.Form
    (enter (file_level file (level.includes + 1) bytes) (passed 1 level) s))

-- ---- a line

abbrev pub is_include : Word → Bool
is_include Include = true
is_include _ = false

abbrev pub word_move : Word → List ℕ → Level → State → Move
word_move Macro line level s = macro_move (operands_of line) level s
word_move Repeat line level s = repeat_move (operands_of line) level s
word_move If line level s = if_move (operands_of line) level s
word_move Include line level s = include_move (operands_of line) level
word_move Constant line level s = plain_move line (setting_of s.constants (operands_of line)) level s
word_move Other line level s = other_move line level s
word_move EndMacro line level s = refuses why.Form
word_move EndRepeat line level s = refuses why.Form
word_move Else line level s = refuses why.Form
word_move EndIf line level s = refuses why.Form

abbrev pub line_move : List ℕ → Level → State → Move
line_move line level s = word_move (directive_of line) line level s

-- the innermost level's next line, or its end; the state has the levels around it
abbrev pub move_at : List (List ℕ) → Level → State → Move
move_at [] level s = turn_end level s
move_at (line ∷ lines) level s = line_move line level s

abbrev pub move_of : Level → State → Move
move_of level s = move_at level.lines level s
