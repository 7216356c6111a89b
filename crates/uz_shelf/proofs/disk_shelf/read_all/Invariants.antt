use Rattle.std.proofs.Common.{◌≤◌, ◌+◌, ◌-◌, vec_len}
use Rattle.std.specs.Io.KnownBytes.{Consumes}
use Rattle.uz_shelf.proofs.disk_shelf.read_all.Given as goal

abbrev pub invariant-loop-bytes : goal.invariant-loop-bytes
invariant-loop-bytes g l = (vec_len l.bytes ≤ l.limit + 1) × Consumes (g.F.Read.remaining l.initial.file) (g.F.Read.remaining l.file)
    l.bytes.items

-- the bytes that may still come
abbrev pub decreases-loop-bytes : goal.decreases-loop-bytes
decreases-loop-bytes g l = l.limit + 1 - vec_len l.bytes
