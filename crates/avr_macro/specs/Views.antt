-- What the values of the code stand for.
use Rattle.std.specs.Prelude.{◌≡◌, ◌⊎◌, ℕ, true, false, List, [], map, reverse, slice_index_or, Result, Ok, Err}
use Rattle.std.specs.List.{slice_range}
use Rattle.avr_macro.specs.declared.errors.MacroWhy.{MacroWhy}
use Rattle.avr_macro.specs.declared.errors.MacroWhy.TheVariants.{Argument, Memory}
use Rattle.avr_macro.specs.declared.directives.Word.{Word}
use Rattle.avr_macro.specs.declared.bodies.Called.{Called}
use Rattle.avr_macro.specs.declared.frames.Frame.{Frame}
use Rattle.avr_macro.specs.Directives.{directive_of}
use Rattle.avr_macro.specs.Arguments.{replaced}
use Rattle.avr_macro.specs.Moves.{lacks_one}
use Rattle.avr_macro.specs.States.{Level}

-- a file, a block or a call
abbrev pub seen_frame : Frame → Level
seen_frame frame =
    record {
      lines = slice_range frame.body.value frame.at frame.end;
      again = slice_range frame.body.value frame.start frame.end;
      turns = frame.turns;
      counted = frame.counted;
      well = frame.well;
      origin = frame.origin;
      includes = frame.includes;
      blocks = frame.blocks;
    }

-- the next line of a frame is one of a word
abbrev pub IsAt : Word → Frame → Type 0
IsAt word frame = directive_of (slice_index_or frame.body.value frame.at []) ≡ word

-- the innermost first
abbrev pub seen_frames : List Frame → List Level
seen_frames frames = reverse (map seen_frame frames)

-- the lines of a call
abbrev pub seen_called : Called → List (List ℕ)
seen_called called = slice_range called.body.value called.start called.end

-- what came of a call's arguments: the body with them in their places, or a fault of theirs
abbrev pub CallsBody : Result Called MacroWhy → List (List ℕ) → ℕ → List (List ℕ) → Type 0
CallsBody (Ok lines) arguments call body = (lacks_one arguments body ≡ false) × (seen_called lines ≡ map (replaced arguments call) body)
CallsBody (Err reason) arguments call body = (reason ≡ Memory) ⊎ ((reason ≡ Argument) × (lacks_one arguments body ≡ true))
