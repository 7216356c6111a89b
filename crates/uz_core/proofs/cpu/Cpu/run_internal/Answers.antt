use Rattle.std.proofs.Common.{◌≡◌, ◌+◌, ◌<◌, ◌≤◌, [], sym, subst, refl, arith}
use Rattle.uz_core.specs.declared.decoded.Reading.TheVariants.{Internal}
use Rattle.uz_core.specs.Programs.{IsReading}
use Rattle.uz_core.specs.Internals.{IsInternalStep, RunsInternally}
use Rattle.uz_core.proofs.InternalSteps.{internal_fits, runs_nowhere, runs_on, step_read}
use Rattle.uz_core.proofs.PlainSteps.{step_time}
use Rattle.uz_core.proofs.cpu.Cpu.run_internal.Goals as goal

pub act-requires : goal.act-requires
act-requires c = internal_fits c.args.program.now c.pc.result c.in-Internal.internal
    (subst (IsReading c.args.program.now c.pc.result) c.in-Internal.is c.reading.ensures)

pub loop-passed-init : goal.loop-passed-init
loop-passed-init c = record {
  run = runs_nowhere c.args.program.now c.args.self.now;
  within = λ some. absurd (omega (arith, some));
  none = λ none. refl;
}

pub loop-passed-preserved : goal.loop-passed-preserved
loop-passed-preserved c =
    let reading : IsReading c.args.program.now c.loop-passed.self.pc (Internal c.in-Internal.internal) =
    subst (λ at. IsReading c.args.program.now at (Internal c.in-Internal.internal)) c.pc.ensures.value
    (subst (IsReading c.args.program.now c.pc.result) c.in-Internal.is c.reading.ensures) in
    let step : IsInternalStep c.args.program.now c.loop-passed.self c.act.new.self c.act.result = step_read c.args.program.now
    c.in-Internal.internal c.loop-passed.self c.act.new.self c.act.result reading c.act.ensures.core c.act.ensures.clocks
    c.act.ensures.below in
    let time = step_time c.args.program.now c.loop-passed.self c.act.new.self [] c.act.result step.step in
    let some : 0 < c.act.result = time.0 in
    let few : c.act.result ≤ 4 = time.1 in
    let same : c.from-passed.result ≡ c.act.result = c.from-passed.ensures in
    record {
      run = subst (λ n. RunsInternally c.args.program.now c.args.self.now (c.loop-passed.passed + n) c.act.new.self) (sym same)
          (runs_on c.args.program.now c.args.self.now c.loop-passed.self c.act.new.self c.loop-passed.passed c.act.result
          c.loop-passed.invariant.run step);
      within = λ any. omega (arith, same, few);
      none = λ none. absurd (omega (arith, none, same, some));
    }

pub loop-passed-smaller : goal.loop-passed-smaller
loop-passed-smaller c =
    let reading : IsReading c.args.program.now c.loop-passed.self.pc (Internal c.in-Internal.internal) =
    subst (λ at. IsReading c.args.program.now at (Internal c.in-Internal.internal)) c.pc.ensures.value
    (subst (IsReading c.args.program.now c.pc.result) c.in-Internal.is c.reading.ensures) in
    let step : IsInternalStep c.args.program.now c.loop-passed.self c.act.new.self c.act.result = step_read c.args.program.now
    c.in-Internal.internal c.loop-passed.self c.act.new.self c.act.result reading c.act.ensures.core c.act.ensures.clocks
    c.act.ensures.below in
    let some : 0 < c.act.result = (step_time c.args.program.now c.loop-passed.self c.act.new.self [] c.act.result step.step).0 in
    let same : c.from-passed.result ≡ c.act.result = c.from-passed.ensures in
    omega (arith, same, some)
