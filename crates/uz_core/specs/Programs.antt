-- What is read at the words of a flash.
use Rattle.std.specs.Prelude.{◌≡◌, ◌≢◌, ℕ, ◌+◌, ◌%◌, List, Some, slice_get}
use Rattle.std.specs.Ordering.{nat_cmp}
use Rattle.std.specs.FinMap.{FinMap}
use Rattle.uz_hex.specs.Cells.{word_of}
use Rattle.avr_table.specs.declared.Instr.{Instr}
use Rattle.avr_table.specs.Rows.{Reads, clocks_of, words_of}
use Rattle.uz_core.specs.declared.machine.Effect.TheVariants.{Stop}
use Rattle.uz_core.specs.Effects.{effect_of}
use Rattle.uz_core.specs.Core.{Core, LoadModel, StepResult, effect_result}
use Rattle.uz_core.specs.declared.decoded.Decoded.{Decoded}
use Rattle.uz_core.specs.declared.decoded.Reading.{Reading}
use Rattle.uz_core.specs.declared.decoded.Reading.TheVariants.{Internal, Stores, Runs, Spm, NoRow}
use Rattle.uz_core.specs.RowClocks.{clocks_in}
use Rattle.uz_core.specs.Internals.{IsInternal}
use Rattle.uz_core.specs.KnownStores.{IsKnownStore}

-- an instruction decoded: the effect, the words and the clocks of its row
pub record IsDecoded (i : Instr) (d : Decoded) : Type 0 where
  pub effect : d.effect ≡ effect_of i
  pub words : d.words ≡ words_of i
  pub clocks : clocks_in d.clocks ≡ clocks_of i

-- the only instruction at a word address, which reads the word there and the next one, counted on round the flash
pub record IsInstructionAt (image : FinMap nat_cmp ℕ) (at : ℕ) (i : Instr) : Type 0 where
  pub reads : Reads (word_of image at) (word_of image ((at + 1) % 32768)) i
  pub only : (j : Instr) → Reads (word_of image at) (word_of image ((at + 1) % 32768)) j → j ≡ i

-- what is read at a word address: an instruction that touches the core alone; one that makes a known store; another one that runs,
-- decoded; SPM; or no row of the instruction table
abbrev pub IsReading : FinMap nat_cmp ℕ → ℕ → Reading → Type 0
IsReading image at (Internal internal) =
    (i : Instr) × IsInstructionAt image at i × (effect_of i ≢ Stop) × IsInternal at (effect_of i) (words_of i) (clocks_of i) internal
IsReading image at (Stores known) =
    (i : Instr) × IsInstructionAt image at i × (effect_of i ≢ Stop) × IsKnownStore at (effect_of i) (words_of i) (clocks_of i) known
IsReading image at (Runs d) = (i : Instr) × IsInstructionAt image at i × (effect_of i ≢ Stop) × IsDecoded i d
IsReading image at Spm = (i : Instr) × IsInstructionAt image at i × (effect_of i ≡ Stop)
IsReading image at NoRow = (i : Instr) → Reads (word_of image at) (word_of image ((at + 1) % 32768)) i → ⊥

-- the readings of a flash's words from address 0 on
abbrev pub AreReadings : FinMap nat_cmp ℕ → List Reading → Type 0
AreReadings image readings = (at : ℕ) (reading : Reading) → slice_get readings at ≡ Some reading → IsReading image at reading

-- what a decoded instruction makes of core and data space
abbrev pub decoded_result : {C : Type 0} → LoadModel C → FinMap nat_cmp ℕ → Decoded → Core → C → StepResult C
decoded_result model image d s c = effect_result model image d.effect d.words (clocks_in d.clocks) s c

-- an instruction that was decoded at a word address, in one of the forms that run
abbrev pub IsRunning : ℕ → Decoded → Reading → Type 0
IsRunning at d (Internal internal) = IsInternal at d.effect d.words (clocks_in d.clocks) internal
IsRunning at d (Stores known) = IsKnownStore at d.effect d.words (clocks_in d.clocks) known
IsRunning at d (Runs same) = d ≡ same
IsRunning at d Spm = ⊥
IsRunning at d NoRow = ⊥
