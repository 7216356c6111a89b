use Rattle.std.proofs.Common.{◌∙◌, ap}
use Rattle.uz_transfer.specs.Memory.{with_pointer_range}
use Rattle.uz_transfer.proofs.StoredPointer.{stored_pointer}
use Rattle.uz_transfer.proofs.stores.store_and_step.Goals as goal

pub returns : goal.returns
returns c =
    c.step_pointer.ensures ∙ (ap (λ at. with_pointer_range c.args.to at at) c.store_in.ensures
    ∙ stored_pointer c.args.to c.args.head.now c.args.a.now c.args.v.now c.args.at.now)
