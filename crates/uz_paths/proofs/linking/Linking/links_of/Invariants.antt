use Rattle.std.proofs.Common.{length}
use Rattle.uz_paths.specs.Lists.{AreLists}
use Rattle.uz_paths.specs.Linking.{AreLinksBy}
use Rattle.uz_paths.proofs.linking.Linking.links_of.Given as goal

-- the instances so far have their lists
abbrev pub invariant-loop-i : goal.invariant-loop-i
invariant-loop-i l = record {
  lists : AreLists l.links l.i;
  linked : AreLinksBy l.self (length l.rests) l.links l.i;
}
