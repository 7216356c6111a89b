-- What a step does.
use Rattle.std.specs.Prelude.{◌≡◌, ◌≢◌, ℕ, ◌+◌, ◌%◌, List, []}
use Rattle.std.specs.Ordering.{nat_cmp}
use Rattle.std.specs.FinMap.{FinMap}
use Rattle.uz_hex.specs.Cells.{word_of}
use Rattle.avr_table.specs.declared.Instr.{Instr}
use Rattle.avr_table.specs.Rows.{Reads}
use Rattle.uz_core.specs.declared.machine.HeldStore.{HeldStore}
use Rattle.uz_core.specs.declared.machine.Effect.TheVariants.{Stop}
use Rattle.uz_core.specs.Effects.{effect_of}
use Rattle.uz_core.specs.Core.{Core, LoadModel, step_result}
use Rattle.uz_core.specs.declared.step.Why.TheVariants.{Opcode, Spm}
use Rattle.uz_core.specs.declared.step.Step.{Step}
use Rattle.uz_core.specs.declared.step.Step.TheVariants.{Took, Stopped}

-- the instruction at the pc
abbrev pub ReadsHere : FinMap nat_cmp ℕ → Core → Instr → Type 0
ReadsHere image s i = Reads (word_of image s.pc) (word_of image ((s.pc + 1) % 32768)) i

-- the instruction at the pc, and no other is there
pub record IsInstruction (image : FinMap nat_cmp ℕ) (s : Core) (i : Instr) : Type 0 where
  pub reads : ReadsHere image s i
  pub only : (j : Instr) → ReadsHere image s j → j ≡ i

-- core, content and held stores after a step, and its answer
abbrev pub IsStep : {C : Type 0} → LoadModel C → FinMap nat_cmp ℕ → Core → C → Core → C → List HeldStore → Step → Type 0
IsStep model image s c s' c' stores (Took clocks owed returned) =
    (i : Instr) × IsInstruction image s i × (effect_of i ≢ Stop) × (let r = step_result model image i s c in
    (s' ≡ r.core) × (c' ≡ r.content) × (stores ≡ r.stores) × (Took clocks owed returned ≡ Took r.clocks r.owed r.returned))
IsStep model image s c s' c' stores (Stopped (Opcode word)) =
    (word ≡ word_of image s.pc) × ((i : Instr) → ReadsHere image s i → ⊥) × (s' ≡ s) × (c' ≡ c) × (stores ≡ [])
IsStep model image s c s' c' stores (Stopped Spm) =
    (i : Instr) × IsInstruction image s i × (effect_of i ≡ Stop) × (s' ≡ s) × (c' ≡ c) × (stores ≡ [])
