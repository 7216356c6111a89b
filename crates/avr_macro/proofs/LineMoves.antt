-- What a line does, by what was read of it.
use Rattle.std.proofs.Common.{◌≡◌, ℕ, ◌+◌, ◌<◌, ◌≤◌, Bool, true, false, List, [], ◌∷◌, ◌++◌, length, get_or, map, sym, ◌∙◌, ap, inl, inr}
use Rattle.std.specs.Prelude.{◌⊎◌, nat_le, nat_lt, ℤ, pos, negsuc, int_le, unsigned_abs, Option, Some}
use Rattle.std.proofs.lemmas.Bool.{false≢true, leb-true, le-ltb}
use Rattle.avr_text.specs.Names.{NameMap}
use Rattle.avr_macro.specs.declared.errors.MacroWhy.{MacroWhy}
use Rattle.avr_macro.specs.declared.errors.MacroWhy.TheVariants as why
use Rattle.avr_macro.specs.declared.frames.Frame.{Frame}
use Rattle.avr_macro.specs.declared.origin.Origin.{Origin}
use Rattle.avr_macro.specs.Arguments.{arguments_of, replaced}
use Rattle.avr_macro.specs.Directives.{after_first_word, first_word}
use Rattle.avr_macro.specs.Moves.{Move, refuses, body_of, call, enter, included, lacks_one, line_move, move_of, other_by, other_move}
use Rattle.avr_macro.specs.Moves.{unless, goes, is_full, plain_move, repeat_times, repeated, with_setting}
use Rattle.avr_macro.specs.States.{Level, MacroMap, State, file_level, include_limit, inside, passed, text_limit}
use Rattle.avr_macro.specs.Blocks.{is_zero}
use Rattle.avr_macro.specs.Values.{Setting}
use Rattle.avr_macro.specs.Views.{seen_frame}
use Rattle.avr_macro.proofs.Slices.{next_line}

-- a line that calls a macro
abbrev pub entered : List (List ℕ) → Level → State → Move
entered lines level s = enter (inside level lines 0 false true) (passed 1 level) (call s)

calls : (line : List ℕ) (level : Level) (s : State) (body lines : List (List ℕ)) → Some body ≡ body_of (first_word line) s
    → nat_le 16 level.blocks ≡ false
    → lacks_one (arguments_of (after_first_word line)) body ≡ false → lines ≡ map (replaced (arguments_of (after_first_word line)) s.calls)
    body
    → entered lines level s ≡ other_move line level s
calls line level s body lines e shallow some is = cc

-- the same where the macros were written anew as they are
abbrev pub with_macros : MacroMap → State → State
with_macros macros s = record s { macros = macros }

pub calls_kept : (macros : MacroMap) (line : List ℕ) (level : Level) (s : State) (body lines : List (List ℕ)) → macros ≡ s.macros
    → Some body ≡ body_of (first_word line) s → nat_le 16 level.blocks ≡ false
    → lacks_one (arguments_of (after_first_word line)) body ≡ false → lines ≡ map (replaced (arguments_of (after_first_word line)) s.calls)
    body
    → entered lines level (with_macros macros s) ≡ other_move line level s
calls_kept macros line level s body lines kept e shallow some is = cc (calls line level s body lines e shallow some is)

pub refused_call : (line : List ℕ) (level : Level) (s : State) (body : List (List ℕ)) (reason : MacroWhy) → Some body ≡ body_of
    (first_word line) s → nat_le 16 level.blocks ≡ false
    → (reason ≡ why.Memory) ⊎ ((reason ≡ why.Argument) × (lacks_one (arguments_of (after_first_word line)) body ≡ true))
    → (reason ≡ why.Memory) ⊎ (other_move line level s ≡ refuses reason)
refused_call line level s body reason e shallow (inl m) = inl m
refused_call line level s body reason e shallow (inr r) =
    let arguments = arguments_of (after_first_word line) in
    inr (ap (λ o. other_by o line level s) (sym e)
    ∙ ap (λ b. unless b why.Depth (unless (lacks_one arguments body) why.Argument (entered (map (replaced arguments s.calls) body) level
    s))) shallow
    ∙ ap (λ b. unless b why.Argument (entered (map (replaced arguments s.calls) body) level s)) r.1
    ∙ ap refuses (sym r.0))

-- the next line of a level
pub line_moves : (frame : Frame) (s : State) (bytes : List ℕ) → frame.at < frame.end → frame.end ≤ length frame.body.value
    → bytes ≡ get_or frame.body.value frame.at [] → line_move bytes (seen_frame frame) s ≡ move_of (seen_frame frame) s
line_moves frame s bytes some within is = cc (next_line frame.body.value frame.at frame.end some within)

-- a file that a line outside all blocks includes, whose level is at hand
pub file_entered : (file : ℕ) (bytes : List ℕ) (level inner after : Level) (s : State) → nat_le include_limit level.includes ≡ false
    → is_zero level.blocks ≡ true → inner ≡ file_level file (level.includes + 1) bytes → after ≡ passed 1 level
    → enter inner after s ≡ included file bytes level s
file_entered file bytes level inner after s shallow outside is_inner is_after = cc

-- a line that gives itself
pub line_put : (line : List ℕ) (setting : Option Setting) (level after : Level) (s : State) (full long : Bool) (levels : List Level)
    (constants : NameMap) (text : List ℕ) (origins : List Origin) → full ≡ is_full s
    → long ≡ nat_lt text_limit (length s.text + (length line + 1)) → full ≡ false → long ≡ false → after ≡ passed 1 level
    → levels ≡ after ∷ s.levels → constants ≡ with_setting setting s.constants → text ≡ s.text ++ (line ++ 10 ∷ [])
    → origins ≡ s.origins ++ level.origin ∷ [] → plain_move line setting level s
    ≡ goes (record s { levels = levels; constants = constants; reached = s.reached + 1; text = text; origins = origins })
line_put line setting level after s full long levels constants text origins full_is long_is room short after_is levels_are constants_are
    text_is origins_are = cc

-- a block is repeated a number of times that is allowed, and its level and the one after it are at hand
pub repeat_entered : (chosen : Option ℤ) (times z : ℤ) (n : ℕ) (level inner after : Level) (s : State) → chosen ≡ Some times → z ≡ times
    → int_le (pos 0) z ≡ true → int_le z (pos 65535) ≡ true → inner ≡ repeated (unsigned_abs z) n level → after ≡ passed (n + 2) level
    → enter inner after s ≡ repeat_times chosen n level s
repeat_entered chosen times (pos k) n level inner after s is same some few inner_is after_is =
    let allowed : nat_lt 65535 k ≡ false = le-ltb 65535 k (leb-true k 65535 few) in
    cc
repeat_entered chosen times (negsuc k) n level inner after s is same some few inner_is after_is = absurd (false≢true some)
