use Rattle.std.proofs.Common.{◌∙◌, subst, sym}
use Rattle.uz_paths.specs.ProgramOf.{AreKindsBy}
use Rattle.uz_paths.proofs.ProgramLemmas.{long_by}
use Rattle.uz_paths.proofs.program.frame_of.Goals as goal

pub returns-clause-lengths : goal.returns-clause-lengths
returns-clause-lengths c =
    long_by c.args.hints.now c.args.lines
    (record { kinds = c.from_vec.result; lengths = c.from_vec-2.result; lines = c.from_vec-3.result; fall = c.args.fall })
    (c.from_vec-2.ensures ∙ c.in_ok-kinds.ensures)
    (subst (AreKindsBy c.args.hints.now c.args.lines) (sym c.from_vec-3.ensures) c.in_ok-numbers.ensures) c.requires
