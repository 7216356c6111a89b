-- Over two data spaces whose loads agree an instruction gives the same.
use Rattle.std.proofs.Common.{◌≡◌, ℕ, Bool, true, false, if◌then◌else◌, List, [], ◌∷◌, refl, ◌∙◌, ap}
use Rattle.std.specs.Ordering.{nat_cmp}
use Rattle.std.specs.FinMap.{FinMap}
use Rattle.avr_table.specs.declared.Outcome.{Outcome}
use Rattle.uz_core.specs.declared.machine.Effect.{Effect}
use Rattle.uz_core.specs.Core.{Core, LoadModel, StepResult, is_core_address, core_byte, loaded_bytes, content_after_loads}
use Rattle.uz_core.specs.Core.{load_addresses, sample_clock, changed_core, next_pc, outcome_of, effect_result}

-- c stands for s, and loads keep it so
pub record LoadAlike {C S : Type 0} (by : LoadModel C) (of : LoadModel S) (R : C → S → Type 0) : Type 0 where
  pub same : (c : C) (s : S) (at late : ℕ) → R c s → by.byte c at late ≡ of.byte s at late
  pub kept : (c : C) (s : S) (at late : ℕ) → R c s → R (by.content_after c at late) (of.content_after s at late)

choose : {A B : Type 0} → (b : Bool) → (x y : A) (z w : B) (Q : A → B → Type 0) → Q x z → Q y w → Q (if b then x else y)
    (if b then z else w)
choose true x y z w Q p q = p
choose false x y z w Q p q = q

pub same_loaded_bytes : {C S : Type 0} → (by : LoadModel C) (of : LoadModel S) (R : C → S → Type 0) → LoadAlike by of R → (core : Core)
    (late : ℕ) (c : C) (s : S) (ats : List ℕ) → R c s →
    loaded_bytes by core late c ats ≡ loaded_bytes of core late s ats
same_loaded_bytes by of R h core late c s [] r = refl
same_loaded_bytes by of R h core late c s (at ∷ ats) r =
    choose (is_core_address at) _ _ _ _ (λ x y. x ≡ y)
    (ap (λ bs. core_byte core at ∷ bs) (same_loaded_bytes by of R h core late c s ats r))
    (ap (λ b. b ∷ loaded_bytes by core late (by.content_after c at late) ats) (h.same c s at late r) ∙ ap (λ bs. of.byte s at late ∷ bs)
    (same_loaded_bytes by of R h core late (by.content_after c at late) (of.content_after s at late) ats (h.kept c s at late r)))

pub kept_content : {C S : Type 0} → (by : LoadModel C) (of : LoadModel S) (R : C → S → Type 0) → LoadAlike by of R → (late : ℕ) (c : C)
    (s : S) (ats : List ℕ) → R c s →
    R (content_after_loads by late c ats) (content_after_loads of late s ats)
kept_content by of R h late c s [] r = r
kept_content by of R h late c s (at ∷ ats) r =
    choose (is_core_address at) _ _ _ _ R
    (kept_content by of R h late c s ats r)
    (kept_content by of R h late (by.content_after c at late) (of.content_after s at late) ats (h.kept c s at late r))

pub record ResultAlike {C S : Type 0} (R : C → S → Type 0) (a : StepResult C) (b : StepResult S) : Type 0 where
  pub core : a.core ≡ b.core
  pub content : R a.content b.content
  pub stores : a.stores ≡ b.stores
  pub clocks : a.clocks ≡ b.clocks
  pub owed : a.owed ≡ b.owed
  pub returned : a.returned ≡ b.returned

pub same_effect_result : {C S : Type 0} → (by : LoadModel C) (of : LoadModel S) (R : C → S → Type 0) → LoadAlike by of R
    → (image : FinMap nat_cmp ℕ) (e : Effect) (words : ℕ) (spent : Outcome → ℕ) (core : Core) (c : C) (s : S) → R c s →
    ResultAlike R (effect_result by image e words spent core c) (effect_result of image e words spent core s)
same_effect_result by of R h image e words spent core c s r =
    let g : loaded_bytes by core (sample_clock e spent) c (load_addresses e core) ≡ loaded_bytes of core (sample_clock e spent) s
    (load_addresses e core) = same_loaded_bytes by of R h core (sample_clock e spent) c s (load_addresses e core) r in
    record {
      core = ap (λ got. let core' : Core = record (changed_core e image words got core) {
        pc = next_pc e (outcome_of e image words got core)
            words got core;
      } in core') g;
      content = kept_content by of R h (sample_clock e spent) c s (load_addresses e core) r;
      stores = refl;
      clocks = ap (λ got. spent (outcome_of e image words got core)) g;
      owed = refl;
      returned = refl;
    }
