-- Instructions that make a known store are steps of the machine.
use Rattle.std.proofs.Common.{◌≡◌, ℕ, ◌+◌, ◌%◌, false, not, if◌then◌else◌, [], ◌∷◌, refl, sym, ◌∙◌, ap, subst}
use Rattle.std.specs.Prelude.{filter}
use Rattle.std.specs.Ordering.{nat_cmp}
use Rattle.std.specs.FinMap.{FinMap}
use Rattle.avr_table.specs.declared.Instr.{Instr}
use Rattle.avr_table.specs.declared.Outcome.{Outcome}
use Rattle.avr_table.specs.declared.Outcome.TheVariants.{Next}
use Rattle.avr_table.specs.Rows.{words_of, clocks_of}
use Rattle.uz_core.specs.declared.machine.Effect.{Effect}
use Rattle.uz_core.specs.declared.machine.HeldStore.{HeldStore}
use Rattle.uz_core.specs.declared.machine.HeldStore.TheVariants as held
use Rattle.uz_core.specs.Effects.{effect_of}
use Rattle.uz_core.specs.OperandRanges.{EffectFits}
use Rattle.uz_core.proofs.EffectRanges.{effect_fits}
use Rattle.uz_core.specs.Core.{Core, changed_core, load_addresses, stores_of, leaves_core, outcome_of, next_pc, owes_instruction}
use Rattle.uz_core.specs.Core.{register, returns_from_interrupt, with_core_byte}
use Rattle.uz_core.specs.RowClocks.{clocks_in}
use Rattle.uz_core.specs.declared.decoded.Decoded.{Decoded}
use Rattle.uz_core.specs.declared.decoded.Reading.TheVariants as reading
use Rattle.uz_core.specs.declared.known_store.Target.{Target}
use Rattle.uz_core.specs.declared.known_store.Target.TheVariants.{Byte, Bit}
use Rattle.uz_core.specs.declared.known_store.KnownStore.{KnownStore}
use Rattle.uz_core.specs.KnownStores.{IsKnownStore, IsOutside, store_to, storing}
use Rattle.uz_core.specs.PlainSteps.{IsPlainStep}
use Rattle.uz_core.specs.Programs.{IsDecoded, IsReading}

-- of an effect, with the words and, by outcome, the clocks of a row
record Does (image : FinMap nat_cmp ℕ) (e : Effect) (words : ℕ) (clocks : Outcome → ℕ) (s next : Core) (store : HeldStore) (passed : ℕ) :
    Type 0 where
  loads : load_addresses e s ≡ []
  stores : store ∷ [] ≡ filter leaves_core (stores_of e words s)
  owes : owes_instruction e ≡ false
  returns : returns_from_interrupt e ≡ false
  core : next ≡ record (changed_core e image words [] s) { pc = next_pc e (outcome_of e image words [] s) words [] s }
  clocks_are : passed ≡ clocks (outcome_of e image words [] s)

does : (image : FinMap nat_cmp ℕ) (target : Target) (words following : ℕ) (clocks : Outcome → ℕ) (s : Core) (passed : ℕ) → IsOutside target
    → following ≡ (s.pc + words) % 32768 → passed ≡ clocks Next →
    Does image (storing target) words clocks s (record s { pc = following }) (store_to target s) passed
does image (Byte at r) words following clocks s passed outside f took =
    let v = register s r in
    record {
      loads = refl;
      stores = ap (λ core. if not core then held.Byte at v ∷ [] else []) (sym outside);
      owes = refl;
      returns = refl;
      core = ap (λ n. record s { pc = n }) f ∙
          ap (λ core. record (if core then with_core_byte at v s else s) { pc = (s.pc + words) % 32768 }) (sym outside);
      clocks_are = took;
    }
does image (Bit at bit set) words following clocks s passed outside f took = record {
  loads = refl;
  stores = refl;
  owes = refl;
  returns = refl;
  core = ap (λ n. record s { pc = n }) f;
  clocks_are = took;
}

-- its operands are in range
pub store_fits : (image : FinMap nat_cmp ℕ) (at : ℕ) (known : KnownStore) → IsReading image at (reading.Stores known)
    → EffectFits (storing known.target)
store_fits image at known (i, here, runs, h) = subst EffectFits h.effect (effect_fits i)

-- what was decoded is an instruction's
pub store_decoded : (at : ℕ) (i : Instr) (d : Decoded) (known : KnownStore) → IsDecoded i d →
    IsKnownStore at d.effect d.words (clocks_in d.clocks) known → IsKnownStore at (effect_of i) (words_of i) (clocks_of i) known
store_decoded at i d known h made = subst (λ e. IsKnownStore at e (words_of i) (clocks_of i) known) h.effect
    (subst (λ n. IsKnownStore at d.effect n (clocks_of i) known) h.words
    (subst (λ clocks. IsKnownStore at d.effect d.words clocks known) h.clocks made))

pub store_read : (image : FinMap nat_cmp ℕ) (known : KnownStore) (s next : Core) (store : HeldStore) →
    IsReading image s.pc (reading.Stores known) → next ≡ record s { pc = known.following } → store ≡ store_to known.target s →
    IsPlainStep image s next (store ∷ []) known.clocks
store_read image known s next store (i, at, runs, h) core made =
    let first : Does image (storing known.target) (words_of i) (clocks_of i) s (record s { pc = known.following })
    (store_to known.target s) known.clocks = does image known.target (words_of i) known.following (clocks_of i) s known.clocks
    h.outside h.following h.clocks_are in
    let d : Does image (effect_of i) (words_of i) (clocks_of i) s next store known.clocks =
    subst (λ x. Does image (effect_of i) (words_of i) (clocks_of i) s next x known.clocks) (sym made)
    (subst (λ x. Does image (effect_of i) (words_of i) (clocks_of i) s x (store_to known.target s) known.clocks) (sym core)
    (subst (λ e. Does image e (words_of i) (clocks_of i) s (record s { pc = known.following }) (store_to known.target s) known.clocks)
    (sym h.effect) first)) in
    record {
      row = i;
      reads = record { reads = at.reads; only = at.only };
      runs = runs;
      loads = d.loads;
      stores_are = d.stores;
      owes = d.owes;
      returns = d.returns;
      core = d.core;
      clocks_are = d.clocks_are;
    }
