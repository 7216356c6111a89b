use Rattle.std.proofs.Common.{subst}
use Rattle.uz_core.specs.declared.decoded.Reading.TheVariants.{Stores}
use Rattle.uz_core.specs.Programs.{IsReading}
use Rattle.uz_core.proofs.StoreSteps.{store_fits, store_read}
use Rattle.uz_core.proofs.cpu.Cpu.step_store.Goals as goal

pub pass_store-store-requires : goal.pass_store-store-requires
pass_store-store-requires c = store_fits c.args.program.now c.pc.result c.in-Stores.known
    (subst (IsReading c.args.program.now c.pc.result) c.in-Stores.is c.reading.ensures)

pub returns-in-Stores-clause-step : goal.returns-in-Stores-clause-step
returns-in-Stores-clause-step c =
    let reading : IsReading c.args.program.now c.args.self.now.pc (Stores c.in-Stores.known) =
    subst (λ at. IsReading c.args.program.now at (Stores c.in-Stores.known)) c.pc.ensures.value
    (subst (IsReading c.args.program.now c.pc.result) c.in-Stores.is c.reading.ensures) in
    store_read c.args.program.now c.in-Stores.known c.args.self.now c.pass_store-store.new.self c.pass_store-store.result reading
    c.pass_store-store.ensures.core c.pass_store-store.ensures.store
