use Rattle.std.proofs.Common.{◌≡◌, ◌≤◌, drop, length, reverse}
use Rattle.std.specs.Option.{option_copied}
use Rattle.avr_macro.specs.AtSigns.{filled}
use Rattle.avr_macro.specs.Ends.{blocks_from, open_from}
use Rattle.avr_macro.proofs.ends.blocks_of.Given as goal

-- the lines from a place on are read
abbrev pub invariant-loop-n : goal.invariant-loop-n
invariant-loop-n l = record {
  within : l.n ≤ length l.lines;
  open_ends : reverse l.pending.items ≡ open_from l.opens l.closes l.n (drop l.n (filled (option_copied l.substitution) l.lines));
  closed : reverse l.blocks.items ≡ blocks_from l.opens l.closes l.n (drop l.n (filled (option_copied l.substitution) l.lines));
}

abbrev pub decreases-loop-n : goal.decreases-loop-n
decreases-loop-n l = l.n
