use Rattle.std.proofs.Common.{◌≡◌, ◌≤◌, ◌+◌, ◌*◌, ◌-◌, length}
use Rattle.avr_macro.specs.Answers.{names_of}
use Rattle.avr_macro.specs.Expansion.{Reaches}
use Rattle.avr_macro.specs.Steps.{seen_expander}
use Rattle.avr_macro.proofs.expansion.run.Given as goal

-- the lines so far are expanded
abbrev pub invariant-lines : goal.invariant-lines
invariant-lines g l = record {
  reached : Reaches (g.H.Shelf.files l.initial.shelf) (names_of l.initial.names) (seen_expander l.initial.expander) (names_of l.names)
      (seen_expander l.expander);
  files : g.H.Shelf.files l.shelf ≡ g.H.Shelf.files l.initial.shelf;
  open_file : g.H.Shelf.open_file l.shelf ≡ g.H.Shelf.open_file l.initial.shelf;
  load_faults : g.H.Shelf.load_faults l.initial.shelf ≤ g.H.Shelf.load_faults l.shelf;
  write_faults : g.H.Shelf.write_faults l.shelf ≡ g.H.Shelf.write_faults l.initial.shelf;
}

-- the lines that may be reached, and the levels
abbrev pub decreases-lines : goal.decreases-lines
decreases-lines g l = 2 * (1048576 - l.expander.reached) + length l.expander.frames.items
