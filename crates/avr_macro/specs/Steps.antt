-- What the expander stands for, and what came of a line.
use Rattle.std.specs.Prelude.{◌≡◌, ◌⊎◌, ◌+◌, ◌*◌, ◌<◌, length, Option, Some, None, Result, Ok, Err, string_bytes}
use Rattle.avr_macro.specs.declared.expander.Expander.{Expander}
use Rattle.avr_macro.specs.declared.expander.Request.{Request}
use Rattle.avr_macro.specs.declared.errors.MacroWhy.{MacroWhy}
use Rattle.avr_macro.specs.declared.errors.MacroWhy.TheVariants.{Memory}
use Rattle.avr_macro.specs.Moves.{Move, goes, loads, refuses}
use Rattle.avr_macro.specs.States.{Level, State}
use Rattle.avr_macro.specs.Views.{seen_frame, seen_frames}

abbrev pub seen_expander : Expander → State
seen_expander e =
    record {
      levels = seen_frames e.frames.items;
      macros = e.macros;
      constants = e.constants;
      calls = e.calls;
      reached = e.reached;
      text = e.text.items;
      origins = e.origins.items;
    }

-- what came of a line is what it does, unless memory ran out
abbrev pub Gives : {X : Type 0} → Result X MacroWhy → State → Move → Type 0
Gives (Ok done) after move = move ≡ goes after
Gives (Err reason) after move = (reason ≡ Memory) ⊎ (move ≡ refuses reason)

-- expansion came nearer to its end: lines were reached, or levels left
abbrev pub Nearer : Expander → Expander → Type 0
Nearer old new = 2 * old.reached + length new.frames.items < 2 * new.reached + length old.frames.items + 1

-- a line asks for a file, and nothing is changed
pub record AsksFor (request : Request) (before after : State) (level : Level) (move : Move) : Type 0 where
  pub name : move ≡ loads (string_bytes request.name)
  pub state : after ≡ before
  pub frame : seen_frame request.frame ≡ level

-- what came of a line, which may ask for a file
abbrev pub GivesStep : Result (Option Request) MacroWhy → State → State → Level → Move → Type 0
GivesStep (Ok None) before after level move = move ≡ goes after
GivesStep (Ok (Some request)) before after level move = AsksFor request before after level move
GivesStep (Err reason) before after level move = (reason ≡ Memory) ⊎ (move ≡ refuses reason)
