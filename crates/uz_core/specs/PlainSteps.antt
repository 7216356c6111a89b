-- Instructions that load nothing, owe nothing and are no return.
use Rattle.std.specs.Prelude.{◌≡◌, ◌≢◌, ℕ, false, List, [], filter}
use Rattle.std.specs.Ordering.{nat_cmp}
use Rattle.std.specs.FinMap.{FinMap}
use Rattle.avr_table.specs.declared.Instr.{Instr}
use Rattle.avr_table.specs.declared.Outcome.{Outcome}
use Rattle.avr_table.specs.Rows.{words_of, clocks_of}
use Rattle.uz_core.specs.declared.machine.HeldStore.{HeldStore}
use Rattle.uz_core.specs.declared.machine.Effect.TheVariants.{Stop}
use Rattle.uz_core.specs.Effects.{effect_of}
use Rattle.uz_core.specs.Core.{Core, changed_core, load_addresses, stores_of, leaves_core, outcome_of, next_pc, owes_instruction}
use Rattle.uz_core.specs.Core.{returns_from_interrupt}
use Rattle.uz_core.specs.Steps.{IsInstruction}

-- the outcome of an instruction without loads
abbrev pub outcome_alone : FinMap nat_cmp ℕ → Instr → Core → Outcome
outcome_alone image i s = outcome_of (effect_of i) image (words_of i) [] s

-- one such instruction, with the stores that leave the core, in so many clocks
pub record IsPlainStep (image : FinMap nat_cmp ℕ) (s next : Core) (stores : List HeldStore) (clocks : ℕ) : Type 0 where
  pub row : Instr
  pub reads : IsInstruction image s row
  pub runs : effect_of row ≢ Stop
  pub loads : load_addresses (effect_of row) s ≡ []
  pub stores_are : stores ≡ filter leaves_core (stores_of (effect_of row) (words_of row) s)
  pub owes : owes_instruction (effect_of row) ≡ false
  pub returns : returns_from_interrupt (effect_of row) ≡ false
  pub core : next ≡ record (changed_core (effect_of row) image (words_of row) [] s) {
    pc = next_pc (effect_of row) (outcome_alone image row s) (words_of row) [] s;
  }
  pub clocks_are : clocks ≡ clocks_of row (outcome_alone image row s)
