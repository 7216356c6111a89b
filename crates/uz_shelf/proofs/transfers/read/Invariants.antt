use Rattle.std.specs.Io.KnownBytes.{Keeps}
use Rattle.uz_shelf.proofs.transfers.read.Given as goal

-- a read that was interrupted took no byte
abbrev pub invariant-tries : goal.invariant-tries
invariant-tries g l = Keeps (g.F.Read.remaining l.initial.file) (g.F.Read.remaining l.file)
