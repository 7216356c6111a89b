use Rattle.std.proofs.Common.{◌-◌, ◌<◌, ◌^◌}
use Rattle.uz_console.specs.Consoles.{clock_of}
use Rattle.uz_console.specs.ManyTurns.{LeadsTo}
use Rattle.uz_console.proofs.console.Console.make_turns.Given as goal

-- the turns so far had no edges
abbrev pub invariant-turns : goal.invariant-turns
invariant-turns l = record {
  quiet : LeadsTo l.limit l.watched l.initial.self l.self;
  clock : clock_of l.self < 2 ^ 62;
}

abbrev pub decreases-turns : goal.decreases-turns
decreases-turns l = l.limit - clock_of l.self
