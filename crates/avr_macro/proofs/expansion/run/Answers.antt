use Rattle.std.proofs.Common.{ℕ, refl, ◌∙◌, arith, string_bytes, Ok, Err}
use Rattle.uz_shelf.specs.Faults.{Rose}
use Rattle.avr_macro.specs.Answers.{names_of}
use Rattle.avr_macro.specs.Expansion.{reaches_here}
use Rattle.avr_macro.specs.Moves.{move_of}
use Rattle.avr_macro.specs.States.{around}
use Rattle.avr_macro.specs.Steps.{seen_expander}
use Rattle.avr_macro.specs.Views.{seen_frame, seen_frames}
use Rattle.avr_macro.proofs.Levels.{last_frame}
use Rattle.avr_macro.proofs.Runs.{goes_on, loads_on, cut_at_line, cut_at_file, asked_for, asked_none, includes_same, rose_before}
use Rattle.avr_macro.proofs.Runs.{cut_before}
use Rattle.avr_macro.proofs.expansion.run.Goals as goal

pub lines-init : goal.lines-init
lines-init g c = record { reached = reaches_here; files = refl; open_file = refl; load_faults = omega arith; write_faults = refl }

pub lines-preserved-in-None : goal.lines-preserved-in-None
lines-preserved-in-None g c =
    let gives = asked_none _ _ _ _ _ c.in-None.is c.in-Ok.ensures.gives in
    record {
      reached = goes_on _ _ _ _ _ _ _ _ c.lines.invariant.reached (last_frame _ _ _ c.in-Some.ensures.items) gives;
      files = c.lines.invariant.files;
      open_file = c.lines.invariant.open_file;
      load_faults = c.lines.invariant.load_faults;
      write_faults = c.lines.invariant.write_faults;
    }

pub lines-preserved : goal.lines-preserved
lines-preserved g c =
    let gives = asked_for c.in-Ok.asked c.in-Some-asked.request (around (seen_frames c.pop.new.self.items) (seen_expander c.lines.expander))
    (seen_expander c.step.new.self) (seen_frame c.in-Some.frame)
    (move_of (seen_frame c.in-Some.frame) (around (seen_frames c.pop.new.self.items) (seen_expander c.lines.expander)))
    c.in-Some-asked.is c.in-Ok.ensures.gives in
    let came =
    includes_same {X = ℕ} (g.H.Shelf.files c.args.shelf.now) (g.H.Shelf.files c.lines.shelf)
    (Rose (g.H.Shelf.load_faults c.lines.shelf) (g.H.Shelf.load_faults c.include.new.shelf)) (names_of c.lines.names)
    (string_bytes c.in-Some-asked.request.name) (seen_frame c.in-Some.frame) (seen_frame c.in-Some-asked.request.frame)
    (around (seen_frames c.pop.new.self.items) (seen_expander c.lines.expander)) (seen_expander c.step.new.self)
    (names_of c.include.new.names) (seen_expander c.include.new.expander) (Ok 0)
    c.lines.invariant.files gives.frame gives.state c.in-Ok-include.ensures.came in
    record {
      reached =
          loads_on (g.H.Shelf.files c.args.shelf.now)
          (Rose (g.H.Shelf.load_faults c.lines.shelf) (g.H.Shelf.load_faults c.include.new.shelf)) (names_of c.args.names.now)
          (names_of c.lines.names) (names_of c.include.new.names)
          (seen_expander c.args.expander.now) (seen_expander c.lines.expander) (seen_expander c.include.new.expander)
          (seen_frame c.in-Some.frame) (seen_frames c.pop.new.self.items) (string_bytes c.in-Some-asked.request.name)
          c.lines.invariant.reached (last_frame c.pop.new.self.items c.lines.expander.frames.items c.in-Some.frame c.in-Some.ensures.items)
          gives.name came.0 came.1;
      files = c.include.ensures.files ∙ c.lines.invariant.files;
      open_file = c.include.ensures.open_file ∙ c.lines.invariant.open_file;
      load_faults = omega (arith, c.include.ensures.load_faults, c.lines.invariant.load_faults);
      write_faults = c.include.ensures.write_faults ∙ c.lines.invariant.write_faults;
    }

pub returns-in-Err-clause-runs : goal.returns-in-Err-clause-runs
returns-in-Err-clause-runs g c =
    cut_at_line _ _ _ _ _ _ _ _ _ _ c.lines.invariant.reached (last_frame _ _ _ c.in-Some.ensures.items) refl refl c.in-Err.ensures.gives

pub returns-in-Err-include-clause-runs : goal.returns-in-Err-include-clause-runs
returns-in-Err-include-clause-runs g c =
    let gives = asked_for _ _ _ _ _ _ c.in-Some-asked.is c.in-Ok.ensures.gives in
    let came = includes_same {X = ℕ} _ _
    (Rose (g.H.Shelf.load_faults c.lines.shelf) (g.H.Shelf.load_faults c.include.new.shelf)) (names_of c.lines.names)
    (string_bytes c.in-Some-asked.request.name) _ _ _ _
    (names_of c.include.new.names) (seen_expander c.include.new.expander) (Err c.in-Err-include.error)
    c.lines.invariant.files gives.frame gives.state c.in-Err-include.ensures.came in
    cut_before _ _ _ _ _ _ _ (rose_before _ _ _ c.lines.invariant.load_faults) (cut_at_file _ _ _ _ _
    _ _ (seen_expander c.include.new.expander) _ _ _ _ c.lines.invariant.reached (last_frame _ _ _ c.in-Some.ensures.items) gives.name came)
