use Rattle.std.proofs.KnownBytes.{Keeps-refl, Keeps-trans}
use Rattle.uz_shelf.proofs.KnownBytesLemmas.{kept_consumes}
use Rattle.uz_shelf.proofs.transfers.read.Goals as goal

pub tries-init : goal.tries-init
tries-init g c = Keeps-refl _

pub returns-in-Ok-clause-bytes : goal.returns-in-Ok-clause-bytes
returns-in-Ok-clause-bytes g c =
    (kept_consumes _ _ _ _ c.tries.invariant c.in-Ok.ensures.bytes.0, c.in-Ok.ensures.bytes.1)

pub returns-in-Err-2-clause-bytes : goal.returns-in-Err-2-clause-bytes
returns-in-Err-2-clause-bytes g c = Keeps-trans _ _ _ c.tries.invariant c.in-Err-2.ensures.bytes

pub tries-preserved : goal.tries-preserved
tries-preserved g c = Keeps-trans _ _ _ c.tries.invariant c.in-Err.ensures.bytes
