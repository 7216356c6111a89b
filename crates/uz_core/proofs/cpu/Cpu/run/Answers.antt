use Rattle.std.proofs.Common.{◌∷◌, [], subst, sym, false}
use Rattle.uz_core.specs.declared.decoded.Reading.TheVariants.{Internal, Runs, Stores}
use Rattle.uz_core.specs.declared.step.Step.TheVariants.{Took}
use Rattle.uz_core.specs.Steps.{IsStep}
use Rattle.uz_core.specs.Programs.{IsReading}
use Rattle.uz_core.proofs.InternalSteps.{internal_fits, step_read}
use Rattle.uz_core.proofs.PlainSteps.{step_is}
use Rattle.uz_core.proofs.StoreSteps.{store_fits, store_read}
use Rattle.uz_core.proofs.StepMade.{step_made}
use Rattle.uz_core.proofs.cpu.Cpu.run.Goals as goal

pub returns-in-Runs : goal.returns-in-Runs
returns-in-Runs g c =
    let reading : IsReading c.args.flash.now c.args.self.now.pc (Runs c.in-Runs.decoded) =
    subst (IsReading c.args.flash.now c.args.self.now.pc) c.in-Runs.is c.requires.reading in
    step_made g.D.Data.model c.args.flash.now c.in-Runs.decoded c.args.self.now (g.D.Data.content c.args.space.now) c.execute.new.self
    (g.D.Data.content c.execute.new.space) (g.D.Data.held c.execute.new.space) c.execute.result
    reading c.execute.ensures.core c.execute.ensures.content c.execute.ensures.held c.execute.ensures.took

pub act-requires : goal.act-requires
act-requires g c = internal_fits c.args.flash.now c.args.self.now.pc c.in-Internal.internal
    (subst (IsReading c.args.flash.now c.args.self.now.pc) c.in-Internal.is c.requires.reading)

pub returns-in-Internal : goal.returns-in-Internal
returns-in-Internal g c =
    let reading : IsReading c.args.flash.now c.args.self.now.pc (Internal c.in-Internal.internal) =
    subst (IsReading c.args.flash.now c.args.self.now.pc) c.in-Internal.is c.requires.reading in
    step_is g.D.Data.model c.args.flash.now c.args.self.now c.act.new.self (g.D.Data.content c.args.space.now) []
    (g.D.Data.held c.args.space.now) c.act.result
    (step_read c.args.flash.now c.in-Internal.internal c.args.self.now c.act.new.self c.act.result reading c.act.ensures.core
    c.act.ensures.clocks c.act.ensures.below).step c.requires.free

pub pass_store-store-requires : goal.pass_store-store-requires
pass_store-store-requires g c = store_fits c.args.flash.now c.args.self.now.pc c.in-Stores.known
    (subst (IsReading c.args.flash.now c.args.self.now.pc) c.in-Stores.is c.requires.reading)

pub returns-in-Stores : goal.returns-in-Stores
returns-in-Stores g c =
    let reading : IsReading c.args.flash.now c.args.self.now.pc (Stores c.in-Stores.known) =
    subst (IsReading c.args.flash.now c.args.self.now.pc) c.in-Stores.is c.requires.reading in
    let took = step_is g.D.Data.model c.args.flash.now c.args.self.now c.pass_store-store.new.self (g.D.Data.content c.args.space.now)
    (c.pass_store-store.result ∷ []) (g.D.Data.held c.hold.new.space) c.in-Stores.known.clocks
    (store_read c.args.flash.now c.in-Stores.known c.args.self.now c.pass_store-store.new.self c.pass_store-store.result reading
    c.pass_store-store.ensures.core c.pass_store-store.ensures.store) c.hold.ensures.held in
    subst (λ x. IsStep g.D.Data.model c.args.flash.now c.args.self.now (g.D.Data.content c.args.space.now) c.pass_store-store.new.self x
    (g.D.Data.held c.hold.new.space) (Took c.in-Stores.known.clocks false false)) (sym c.hold.ensures.content) took
