-- A step that ran a decoded instruction.
use Rattle.std.proofs.Common.{◌≡◌, ◌∙◌, ℕ, List, refl, sym, subst, ap}
use Rattle.std.specs.Ordering.{nat_cmp}
use Rattle.std.specs.FinMap.{FinMap}
use Rattle.avr_table.specs.declared.Instr.{Instr}
use Rattle.avr_table.specs.Rows.{words_of}
use Rattle.uz_core.specs.declared.machine.HeldStore.{HeldStore}
use Rattle.uz_core.specs.Effects.{effect_of}
use Rattle.uz_core.specs.Core.{Core, LoadModel, StepResult, effect_result, step_result}
use Rattle.uz_core.specs.declared.decoded.Decoded.{Decoded}
use Rattle.uz_core.specs.declared.step.Step.{Step}
use Rattle.uz_core.specs.declared.step.Step.TheVariants.{Took}
use Rattle.uz_core.specs.RowClocks.{clocks_in}
use Rattle.uz_core.specs.Programs.{IsDecoded, IsReading, decoded_result}
use Rattle.uz_core.specs.declared.decoded.Reading.TheVariants.{Runs}
use Rattle.uz_core.specs.Steps.{IsStep}

-- a decoded instruction does what its row says
same_result : {C : Type 0} → (model : LoadModel C) (image : FinMap nat_cmp ℕ) (i : Instr) (d : Decoded) (s : Core) (c : C) → IsDecoded i d →
    decoded_result model image d s c ≡ step_result model image i s c
same_result model image i d s c h =
    ap (λ e. effect_result model image e d.words (clocks_in d.clocks) s c) h.effect ∙
    (ap (λ words. effect_result model image (effect_of i) words (clocks_in d.clocks) s c) h.words ∙
    ap (λ clocks. effect_result model image (effect_of i) (words_of i) clocks s c) h.clocks)

-- what a step has come to
record Comes {C : Type 0} (s' : Core) (c' : C) (stores : List HeldStore) (answer : Step) (r : StepResult C) : Type 0 where
  core : s' ≡ r.core
  content : c' ≡ r.content
  held : stores ≡ r.stores
  took : answer ≡ Took r.clocks r.owed r.returned

pub step_made : {C : Type 0} → (model : LoadModel C) (image : FinMap nat_cmp ℕ) (d : Decoded) (s : Core) (c : C) (s' : Core) (c' : C)
    (stores : List HeldStore) (answer : Step) →
    IsReading image s.pc (Runs d) →
    s' ≡ (decoded_result model image d s c).core → c' ≡ (decoded_result model image d s c).content
    → stores ≡ (decoded_result model image d s c).stores →
    (let r = decoded_result model image d s c in answer ≡ Took r.clocks r.owed r.returned) →
    IsStep model image s c s' c' stores answer
step_made model image d s c s' c' stores answer (i, at, runs, decoded) core content held took =
    let comes : Comes s' c' stores answer (step_result model image i s c) =
    subst (Comes s' c' stores answer) (same_result model image i d s c decoded)
    (record { core = core; content = content; held = held; took = took }) in
    subst (λ a. IsStep model image s c s' c' stores a) (sym comes.took)
    (i, record { reads = at.reads; only = at.only }, runs, (comes.core, comes.content, comes.held, refl))
