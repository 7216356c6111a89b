use Rattle.std.specs.Io.KnownBytes.{Keeps}
use Rattle.uz_shelf.proofs.transfers.write.Given as goal

-- a write that was interrupted wrote no byte
abbrev pub invariant-tries : goal.invariant-tries
invariant-tries g l = Keeps (g.W.Write.contents l.initial.out) (g.W.Write.contents l.out)
