use Rattle.std.proofs.Common.{rules, ◌≢◌}
use Rattle.uz_core.specs.declared.machine.Effect.TheVariants.{Stop}
use Rattle.uz_core.specs.Effects.{effect_of}
use Rattle.uz_core.proofs.Decoding.{decoded_fits, instruction_at}
use Rattle.uz_core.proofs.Running.{running_is}
use Rattle.uz_core.proofs.decoded.Reading.of.Goals as goal

pub running-requires-clause-fits : goal.running-requires-clause-fits
running-requires-clause-fits c = decoded_fits c.in-Some.i c.of-decoded.result c.of-decoded.ensures

pub returns-else-stops : goal.returns-else-stops
returns-else-stops c = λ image f s.
    let runs : effect_of c.in-Some.i ≢ Stop = search rules in
    running_is image c.args.at c.in-Some.i c.of-decoded.result c.running.result
    (instruction_at image c.args.at c.args.first c.args.second c.in-Some.i f s (search rules) c.decode.ensures.unique) runs
    c.of-decoded.ensures c.running.ensures
