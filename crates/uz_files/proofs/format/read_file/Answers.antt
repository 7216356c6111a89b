use Rattle.std.proofs.Common.{◌≤◌, length, subst, arith}
use Rattle.uz_files.specs.TextFaults.{Tells}
use Rattle.uz_files.proofs.ReadingLemmas.{fault_fails}
use Rattle.uz_files.proofs.format.read_file.Goals as goal

pub returns-clause-fails : goal.returns-clause-fails
returns-clause-fails g c =
    let short : length c.in_ok-text.text.items ≤ g.F.Format.LIMIT = omega (arith, c.in_ok-text.ensures.short) in
    let refused = subst (λ bytes. Tells (g.F.Format.refuses bytes) c.in-Err.fault) c.as_slice.ensures.value c.in-Err.ensures.refused in
    fault_fails _ _ _ c.in_ok-text.text.items _ _ c.in-Err.fault _ c.in_ok-text.ensures.held short refused
    c.in_ok-failure_of-in-Err.ensures
