-- Instructions that load nothing, owe nothing and are no return are steps of the machine.
use Rattle.std.proofs.Common.{◌≡◌, ◌≢◌, ℕ, ◌<◌, ◌≤◌, Bool, true, false, ◌||◌, ◌&&◌, nat_le, List, []}
use Rattle.std.proofs.Common.{refl, sym, ◌∙◌, ap, subst, arith}
use Rattle.std.specs.Prelude.{filter}
use Rattle.std.specs.Ordering.{nat_cmp}
use Rattle.std.specs.FinMap.{FinMap}
use Rattle.std.proofs.lemmas.Bool.Decides.{nat_tests}
use Rattle.avr_table.specs.Rows.{words_of, clocks_of}
use Rattle.uz_core.specs.declared.machine.HeldStore.{HeldStore}
use Rattle.uz_core.specs.declared.machine.Effect.{Effect}
use Rattle.uz_core.specs.declared.machine.Effect.TheVariants.{Stop}
use Rattle.uz_core.specs.Effects.{effect_of}
use Rattle.uz_core.specs.Core.{Core, LoadModel, StepResult, changed_core, load_addresses, loaded_bytes}
use Rattle.uz_core.specs.Core.{content_after_loads, stores_of, outcome_of, next_pc, owes_instruction}
use Rattle.uz_core.specs.Core.{sample_clock, leaves_core, step_result}
use Rattle.uz_core.proofs.RowClocks.{stops, clocks_within}
use Rattle.uz_core.specs.declared.step.Step.TheVariants.{Took}
use Rattle.uz_core.specs.Steps.{IsStep}
use Rattle.uz_core.specs.PlainSteps.{IsPlainStep, outcome_alone}

-- what it makes of core and data space, by the machine's definition
pub result_of_step : {C : Type 0} → (model : LoadModel C) (image : FinMap nat_cmp ℕ) (s next : Core) (c : C) (stores : List HeldStore)
    (passed : ℕ) →
    (h : IsPlainStep image s next stores passed) → (let r : StepResult C = record {
      core = next;
      content = c;
      stores = stores;
      clocks = passed;
      owed = false;
      returned = false;
    } in r ≡ step_result model image h.row s c)
result_of_step {C = C} model image s next c stores passed h =
    let e = effect_of h.row in
    let words = words_of h.row in
    let late = sample_clock e (clocks_of h.row) in
    let by : List ℕ → List HeldStore → Bool → Bool → StepResult C = λ addresses held owed returned.
    let loaded = loaded_bytes model s late c addresses in
    let outcome = outcome_of e image words loaded s in
    record {
      core = record (changed_core e image words loaded s) { pc = next_pc e outcome words loaded s };
      content = content_after_loads model late c addresses;
      stores = held;
      clocks = clocks_of h.row outcome;
      owed = owed;
      returned = returned;
    } in
    let of : Core → ℕ → StepResult C = λ core clocks.
    record { core = core; content = c; stores = stores; clocks = clocks; owed = false; returned = false } in
    ap (λ x. of x passed) h.core ∙
    (ap (λ x. of (record (changed_core e image words [] s) { pc = next_pc e (outcome_of e image words [] s) words [] s }) x) h.clocks_are ∙
    (ap (λ x. by x stores false false) (sym h.loads) ∙
    (ap (λ x. by (load_addresses e s) x false false) h.stores_are ∙
    (ap (λ x. by (load_addresses e s) (filter leaves_core (stores_of e words s)) x false) (sym h.owes) ∙
    ap (λ x. by (load_addresses e s) (filter leaves_core (stores_of e words s)) (owes_instruction e) x) (sym h.returns)))))

pub step_is : {C : Type 0} → (model : LoadModel C) (image : FinMap nat_cmp ℕ) (s next : Core) (c : C) (stores held : List HeldStore)
    (passed : ℕ) → IsPlainStep image s next stores passed → held ≡ stores → IsStep model image s c next c held (Took passed false false)
step_is model image s next c stores held passed h same =
    let r = result_of_step model image s next c stores passed h in (
      h.row,
      h.reads,
      h.runs,
      (ap (λ x. x.core) r, ap (λ x. x.content) r, same ∙ ap (λ x. x.stores) r, ap (λ x. Took x.clocks x.owed x.returned) r),
    )

-- its clocks

not_stop : (e : Effect) → e ≢ Stop → stops e ≡ false
not_stop Stop h = absurd (h refl)
not_stop e h = refl

some_clocks : (b : Bool) (n : ℕ) → b ≡ false → (b || (nat_le 1 n && nat_le n 4)) ≡ true → (0 < n) × (n ≤ 4)
some_clocks b n e h = (grind (arith, nat_tests), grind (arith, nat_tests))

pub step_time : (image : FinMap nat_cmp ℕ) (s next : Core) (stores : List HeldStore) (passed : ℕ) → IsPlainStep image s next stores passed
    → (0 < passed) × (passed ≤ 4)
step_time image s next stores passed h =
    let outcome = outcome_alone image h.row s in
    let few : (0 < clocks_of h.row outcome) × (clocks_of h.row outcome ≤ 4) = some_clocks (stops (effect_of h.row))
    (clocks_of h.row outcome) (not_stop (effect_of h.row) h.runs) (clocks_within h.row outcome) in
    subst (λ n. (0 < n) × (n ≤ 4)) (sym h.clocks_are) few
