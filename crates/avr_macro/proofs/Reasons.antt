-- No line is refused by itself as one whose file can't be read, and none makes the flat text too long.
use Rattle.std.proofs.Common.{◌≡◌, ℕ, zero, suc, ◌+◌, ◌≤◌, Bool, true, false, cond, List, [], ◌∷◌, ◌++◌, length, map, subst, arith}
use Rattle.std.specs.Prelude.{ℤ, pos, nat_le, nat_lt, not, ◌||◌, is_some, Option, Some, None}
use Rattle.std.specs.FinMap as finmap
use Rattle.std.proofs.lemmas.Bool.Decides.{nat_tests}
use Rattle.std.proofs.lemmas.List.{length-append}
use Rattle.uz_shelf.specs.Files.{FileMap}
use Rattle.avr_macro.specs.declared.directives.Word.{Word}
use Rattle.avr_macro.specs.declared.directives.Word.TheVariants.{Macro, Repeat, If, Include, Constant, Other}
use Rattle.avr_macro.specs.declared.errors.MacroWhy.{MacroWhy}
use Rattle.avr_macro.specs.declared.errors.MacroWhy.TheVariants as why
use Rattle.avr_macro.specs.Arguments.{arguments_of, replaced}
use Rattle.avr_macro.specs.Blocks.{is_zero, macro_end, repeat_end, if_end, if_else}
use Rattle.avr_macro.specs.Directives.{after_first_word, directive_of, first_word, macro_name, operands_of}
use Rattle.avr_macro.specs.Lines.{is_bare, trimmed}
use Rattle.avr_macro.specs.Moves.{Move, goes, loads, refuses, body_of, call, chosen_part, closed_by, define, enter, file_name, if_body}
use Rattle.avr_macro.specs.Moves.{if_valued, include_named, included, later, macro_body, macro_named, is_full, is_null, lacks_one, move_at}
use Rattle.avr_macro.specs.Moves.{move_of, other_by, part, plain_move, put_line, reach, repeated, repeat_body, repeat_times, turn_end}
use Rattle.avr_macro.specs.Moves.{turned, unless, word_move}
use Rattle.avr_macro.specs.States.{Level, State, around, file_level, inside, passed}
use Rattle.avr_macro.specs.Expansion.{Reaches, reaches_here, reaches_more, Step, step_goes, step_loads}
use Rattle.avr_macro.specs.Values.{Setting, setting_of, text_value}

abbrev OfLine : MacroWhy → Type 0
OfLine why.Unread = ⊥
OfLine other = Unit {0}

data Own : Move → Type 0 where
  own_goes : (t : State) → length t.text ≤ 1048576 → Own (goes t)
  own_loads : (name : List ℕ) → Own (loads name)
  own_refuses : (reason : MacroWhy) → OfLine reason → Own (refuses reason)

own_unless : (b : Bool) (reason : MacroWhy) {move : Move} → OfLine reason → Own move → Own (unless b reason move)
own_unless true reason h k = own_refuses reason h
own_unless false reason h k = k

own_enter : (inner after : Level) (s : State) → length s.text ≤ 1048576 → Own (enter inner after s)
own_enter inner after s h = own_unless (is_full s) why.Full tt (own_goes (reach (inner ∷ after ∷ s.levels) s) h)

short_line : (a : Bool) (text line : List ℕ) → (a || nat_lt 1048576 (length text + (length line + 1))) ≡ false
    → length (text ++ (line ++ 10 ∷ [])) ≤ 1048576
short_line true text line e = absurd cc
short_line false text line e =
    let k : length text + (length line + 1) ≤ 1048576 = grind (arith, nat_tests) in
    omega (arith, k, length-append text (line ++ 10 ∷ []), length-append line (10 ∷ []))

own_plain : (line : List ℕ) (setting : Option Setting) (level : Level) (s : State) → Own (plain_move line setting level s)
own_plain line setting level s =
    grind (arith, nat_tests, own_refuses why.Full tt, own_goes (put_line line setting level s), short_line (is_full s) s.text line)

own_counted : (b : Bool) (level : Level) (s : State) → length s.text ≤ 1048576
    → Own (cond b (unless (is_full s) why.Full (goes (turned level.turns level s))) (goes s))
own_counted true level s h = own_unless (is_full s) why.Full tt (own_goes (turned level.turns level s) (same_text level.turns))
  where
    same_text : (n : ℕ) → length (turned n level s).text ≤ 1048576
    same_text zero = h
    same_text (suc n) = h
own_counted false level s h = own_goes s h

own_turn : (level : Level) (s : State) → length s.text ≤ 1048576 → Own (turn_end level s)
own_turn level s h = own_unless (not level.well) why.Form tt (own_counted level.counted level s h)

own_macro_body : (name : List ℕ) (o : Option ℕ) (level : Level) (s : State) → length s.text ≤ 1048576 → Own (macro_body name o level s)
own_macro_body name None level s h = own_refuses _ tt
own_macro_body name (Some n) level s h = own_unless (is_some (finmap.get s.macros name)) why.Twice tt
    (own_enter (inside level [] 0 false (closed_by (later level) n)) (passed (n + 2) level) (define name (part level 0 n) s) h)

own_macro_named : (o : Option (List ℕ)) (level : Level) (s : State) → length s.text ≤ 1048576 → Own (macro_named o level s)
own_macro_named None level s h = own_refuses _ tt
own_macro_named (Some name) level s h = own_macro_body name (macro_end (later level)) level s h

own_times : (o : Option ℤ) (n : ℕ) (level : Level) (s : State) → length s.text ≤ 1048576 → Own (repeat_times o n level s)
own_times (Some (pos t)) n level s h = own_unless (nat_lt 65535 t) why.Value tt (own_enter (repeated t n level) (passed (n + 2) level) s h)
own_times other n level s h = own_refuses _ tt

own_repeat_body : (operands : List ℕ) (o : Option ℕ) (level : Level) (s : State) → length s.text ≤ 1048576
    → Own (repeat_body operands o level s)
own_repeat_body operands None level s h = own_refuses _ tt
own_repeat_body operands (Some n) level s h = own_times (text_value s.constants operands) n level s h

own_if_valued : (o : Option ℤ) (n : ℕ) (level : Level) (s : State) → length s.text ≤ 1048576 → Own (if_valued o n level s)
own_if_valued None n level s h = own_refuses _ tt
own_if_valued (Some x) n level s h = own_enter (chosen_part (not (is_null x)) (if_else (part level 0 n)) n level) (passed (n + 2) level) s h

own_if_body : (operands : List ℕ) (o : Option ℕ) (level : Level) (s : State) → length s.text ≤ 1048576 → Own (if_body operands o level s)
own_if_body operands None level s h = own_refuses _ tt
own_if_body operands (Some n) level s h = own_if_valued (text_value s.constants operands) n level s h

own_other : (o : Option (List (List ℕ))) (line : List ℕ) (level : Level) (s : State) → length s.text ≤ 1048576
    → Own (other_by o line level s)
own_other None line level s h = own_plain line None level s
own_other (Some body) line level s h =
    own_unless (nat_le 16 level.blocks) why.Depth tt
    (own_unless (lacks_one (arguments_of (after_first_word line)) body) why.Argument tt
    (own_enter (inside level (map (replaced (arguments_of (after_first_word line)) s.calls) body) 0 false true) (passed 1 level) (call s)
    h))

own_named : (o : Option (List ℕ)) (level : Level) → Own (include_named o level)
own_named None level = own_unless (nat_le 8 level.includes) why.Depth tt (own_refuses why.Form tt)
own_named (Some name) level = own_loads name

own_word : (word : Word) (line : List ℕ) (level : Level) (s : State) → length s.text ≤ 1048576 → Own (word_move word line level s)
own_word Macro line level s h = own_unless (nat_le 16 level.blocks) why.Depth tt (own_macro_named (macro_name (operands_of line)) level s h)
own_word Repeat line level s h = own_unless (nat_le 16 level.blocks) why.Depth tt (own_unless (is_bare (operands_of line)) why.Form tt
    (own_repeat_body (operands_of line) (repeat_end (later level)) level s h))
own_word If line level s h = own_unless (nat_le 16 level.blocks) why.Depth tt (own_unless (is_bare (operands_of line)) why.Form tt
    (own_if_body (operands_of line) (if_end (later level)) level s h))
own_word Include line level s h = own_named (file_name (trimmed (operands_of line))) level
own_word Constant line level s h = own_plain line (setting_of s.constants (operands_of line)) level s
own_word Other line level s h = own_other (body_of (first_word line) s) line level s h
own_word other line level s h = own_refuses _ tt

own_at : (lines : List (List ℕ)) (level : Level) (s : State) → length s.text ≤ 1048576 → Own (move_at lines level s)
own_at [] level s h = own_turn level s h
own_at (line ∷ lines) level s h = own_word (directive_of line) line level s h

own_included : (file : ℕ) (bytes : List ℕ) (level : Level) (s : State) → length s.text ≤ 1048576 → Own (included file bytes level s)
own_included file bytes level s h =
    own_unless (nat_le 8 level.includes) why.Depth tt
    (own_unless (not (is_zero level.blocks)) why.Form tt (own_enter (file_level file (level.includes + 1) bytes) (passed 1 level) s h))

of_line : (reason : MacroWhy) (move : Move) → Own move → move ≡ refuses reason → OfLine reason
of_line reason _ (own_refuses r h) e = let k : r ≡ reason = cc in subst OfLine k h
of_line reason _ other e = absurd cc

of_text : (t : State) (move : Move) → Own move → move ≡ goes t → length t.text ≤ 1048576
of_text t _ (own_goes u k) e = let same : u ≡ t = cc in subst (λ (x : State). length x.text ≤ 1048576) same k
of_text t _ other e = absurd cc

pub line_reason : (level : Level) (s : State) (reason : MacroWhy) → length s.text ≤ 1048576 → move_of level s ≡ refuses reason
    → reason ≡ why.Unread → ⊥
line_reason level s reason h e u = subst OfLine u (of_line reason (move_of level s) (own_at level.lines level s h) e)

pub file_reason : (file : ℕ) (bytes : List ℕ) (level : Level) (s : State) (reason : MacroWhy) → length s.text ≤ 1048576 → included file
    bytes level s ≡ refuses reason → reason ≡ why.Unread → ⊥
file_reason file bytes level s reason h e u = subst OfLine u (of_line _ _ (own_included file bytes level s h) e)

line_keeps : (level : Level) (s t : State) → length s.text ≤ 1048576 → move_of level s ≡ goes t → length t.text ≤ 1048576
line_keeps level s t h e = of_text t (move_of level s) (own_at level.lines level s h) e

file_keeps : (file : ℕ) (bytes : List ℕ) (level : Level) (s t : State) → length s.text ≤ 1048576 → included file bytes level s ≡ goes t
    → length t.text ≤ 1048576
file_keeps file bytes level s t h e = of_text t (included file bytes level s) (own_included file bytes level s h) e

-- the flat text stays within its limit
step_keeps : (files : Option FileMap) (names later : List (List ℕ)) (s t : State) → length s.text ≤ 1048576 → Step files names s later t
    → length t.text ≤ 1048576
step_keeps files names _ s t h (step_goes level outer d) = line_keeps level (around outer s) t h d.does
step_keeps files names _ s t h (step_loads level outer name bytes d held short i) = file_keeps (length names) bytes level (around outer s) t
    h i

pub stays_short : (files : Option FileMap) (names : List (List ℕ)) (s : State) (later : List (List ℕ)) (t : State) → length s.text ≤ 1048576
    → Reaches files names s later t → length t.text ≤ 1048576
stays_short files names s _ _ h reaches_here = h
stays_short files names s later u h (reaches_more {middle} {t = t} r step) = step_keeps files middle later t u
    (stays_short files names s middle t h r) step
