use Rattle.std.proofs.Common.{rules}
use Rattle.uz_paths.specs.Reading.{IsReading}
use Rattle.uz_paths.proofs.HintLemmas.{cells_fine, facts_fine}
use Rattle.uz_paths.proofs.HalfLemmas.{lengths_fit}
use Rattle.uz_paths.proofs.HeadLemmas.{reading_fits}
use Rattle.uz_paths.proofs.reading.read.Goals as goal

pub read_fine-requires-clause-cells : goal.read_fine-requires-clause-cells
read_fine-requires-clause-cells c = cells_fine c.args.image.now c.args.irq c.args.hints.now c.in_default.ensures

pub read_fine-requires-clause-facts : goal.read_fine-requires-clause-facts
read_fine-requires-clause-facts c = facts_fine c.args.image.now c.args.irq c.args.hints.now c.in_default.ensures

pub returns-in-Some-Some-Some-clause-limits : goal.returns-in-Some-Some-Some-clause-limits
returns-in-Some-Some-Some-clause-limits c =
    let is : IsReading c.args.image.now c.args.irq c.args.hints.now c.read_fine.result = search rules in
    reading_fits c.args.image.now c.args.irq c.args.hints.now c.read_fine.result is c.read_fine.ensures.few

pub returns-in-Some-Some-Some-clause-lengths : goal.returns-in-Some-Some-Some-clause-lengths
returns-in-Some-Some-Some-clause-lengths c =
    let is : IsReading c.args.image.now c.args.irq c.args.hints.now c.read_fine.result = search rules in
    lengths_fit c.args.image.now c.args.irq c.args.hints.now c.read_fine.result is
    (reading_fits c.args.image.now c.args.irq c.args.hints.now c.read_fine.result is c.read_fine.ensures.few)
