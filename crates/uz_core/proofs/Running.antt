-- An instruction that was decoded is read in the form that runs fastest.
use Rattle.std.proofs.Common.{◌≢◌, ℕ, subst}
use Rattle.std.specs.Ordering.{nat_cmp}
use Rattle.std.specs.FinMap.{FinMap}
use Rattle.avr_table.specs.declared.Instr.{Instr}
use Rattle.uz_core.specs.declared.machine.Effect.TheVariants.{Stop}
use Rattle.uz_core.specs.Effects.{effect_of}
use Rattle.uz_core.specs.declared.decoded.Decoded.{Decoded}
use Rattle.uz_core.specs.declared.decoded.Reading.{Reading}
use Rattle.uz_core.specs.declared.decoded.Reading.TheVariants.{Internal, Stores, Runs, Spm, NoRow}
use Rattle.uz_core.specs.Programs.{IsDecoded, IsInstructionAt, IsReading, IsRunning}
use Rattle.uz_core.proofs.InternalSteps.{internal_decoded}
use Rattle.uz_core.proofs.StoreSteps.{store_decoded}

pub running_is : (image : FinMap nat_cmp ℕ) (at : ℕ) (i : Instr) (d : Decoded) (r : Reading) → IsInstructionAt image at i
    → effect_of i ≢ Stop → IsDecoded i d → IsRunning at d r → IsReading image at r
running_is image at i d (Internal internal) here runs h made = (i, here, runs, internal_decoded at i d internal h made)
running_is image at i d (Stores known) here runs h made = (i, here, runs, store_decoded at i d known h made)
running_is image at i d (Runs same) here runs h made = (i, here, runs, subst (IsDecoded i) made h)
running_is image at i d Spm here runs h made = absurd made
running_is image at i d NoRow here runs h made = absurd made
