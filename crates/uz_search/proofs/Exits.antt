-- Where an instruction leads: it takes 1 to 4 clocks, leads somewhere, and where it emits, to one place.
use Rattle.uz_search.proofs.Common.{◌≡◌, ℕ, suc, ◌≤◌, ◌-◌, List, [], ◌∷◌, ◌++◌, map, Option, Some, None, Bool, true, false, ◌&&◌, ◌||◌}
use Rattle.uz_search.proofs.Common.{nat_le, refl, sym, ap, ◌∙◌, subst, ⊎_elim, slice_get, arith, nat_tests, Instr, Outcome, clocks_of}
use Rattle.uz_search.proofs.Common.{returns_from_interrupt, effect_of, Effect, NoOperation, Store, WriteIoBit, Branch, SkipIf, Jump}
use Rattle.uz_search.proofs.Common.{JumpTarget, Absolute, Relative, Indirect, Head, EventKind, Instance, Exit, emission, outcomes, targets}
use Rattle.uz_search.proofs.Common.{jump_pcs, numbers_from, fail_of, exits_of, pair_range, Among, Flash}
use Rattle.uz_core.specs.declared.machine.Effect.TheVariants.{Return, Stop}
use Rattle.uz_transfer.specs.Exits.{choices, decided, flag_of_kind, test_decides, skip_outcome}
use Rattle.uz_core.proofs.RowClocks.{clocks_within, stops}
use Rattle.uz_search.proofs.Lists.{of_map, append_cases}
use Rattle.avr_table.specs.declared.Outcome.TheVariants as outcome

-- Clocks

goes_on : (head : Head) (x : Instance) (e : Effect) → fail_of head e x ≡ None → stops e ≡ false
goes_on head x Stop f = absurd cc
goes_on head x NoOperation f = refl
goes_on head x e f = refl

in_four : (t : Bool) (n : ℕ) → t ≡ false → (t || (nat_le 1 n && nat_le n 4)) ≡ true → (1 ≤ n) × (n ≤ 4)
in_four true n s e = absurd cc
in_four false n s e = (grind (arith, nat_tests), grind (arith, nat_tests))

-- an exit has the clocks of an outcome
exit_outcome : (e : Effect) (clocks : Outcome → ℕ) (following : ℕ) (x : Instance) (os : List Outcome) (exit : Exit)
    → Among (exits_of e clocks following x os) exit
    → (o : Outcome) × (exit.clocks ≡ clocks o)
exit_outcome e clocks following x [] exit (i, h) = cc
exit_outcome e clocks following x (o ∷ os) exit (i, h) = ⊎_elim
    (λ here. let t = of_map (λ pc. record { pc = pc; clocks = clocks o }) (targets e o following x) here.0 exit here.1 in
    (o, ap (λ (z : Exit). z.clocks) (sym t.2)))
    (λ later. exit_outcome e clocks following x os exit later)
    (append_cases (map (λ pc. record { pc = pc; clocks = clocks o }) (targets e o following x)) (exits_of e clocks following x os) i exit h)

-- 1 to 4
pub exit_clocks : (image : Flash) (head : Head) (i : Instr) (x : Instance) (following : ℕ) (os : List Outcome) (exit : Exit)
    → fail_of head (effect_of i) x ≡ None
    → Among (exits_of (effect_of i) (clocks_of i) following x os) exit → (1 ≤ exit.clocks) × (exit.clocks ≤ 4)
exit_clocks image head i x following os exit fine there =
    let o = exit_outcome (effect_of i) (clocks_of i) following x os exit there in
    let few = in_four (stops (effect_of i)) (clocks_of i o.0) (goes_on head x (effect_of i) fine) (clocks_within i o.0) in
    subst (λ n. (1 ≤ n) × (n ≤ 4)) (sym o.1) few

-- Some exit

first_choice : (d : Option Bool) (other : Outcome) → (o : Outcome) × (os : List Outcome) × (choices d other ≡ o ∷ os)
first_choice (Some true) other = (other, [], refl)
first_choice (Some false) other = (outcome.Next, [], refl)
first_choice None other = (outcome.Next, other ∷ [], refl)

first_outcome : (image : Flash) (following : ℕ) (e : Effect) (x : Instance) → (o : Outcome) × (os : List Outcome)
    × (outcomes image following e x ≡ o ∷ os)
first_outcome image following (Branch flag set offset) x = first_choice (decided (flag_of_kind x flag) set) outcome.Taken
first_outcome image following (SkipIf test) x = first_choice (test_decides test x) (skip_outcome image following)
first_outcome image following e x = (outcome.Next, [], refl)

first_pc : (target : JumpTarget) (following : ℕ) (x : Instance) → (pair_range x 30).lo ≤ (pair_range x 30).hi → (pc : ℕ) × (pcs : List ℕ)
    × (jump_pcs target following x ≡ pc ∷ pcs)
first_pc (Absolute k) following x order = (k, [], refl)
first_pc (Relative k) following x order = (_, [], refl)
first_pc Indirect following x order =
    let lo : ℕ = (pair_range x 30).lo in
    let n : ℕ = (pair_range x 30).hi - lo in
    let some : suc (pair_range x 30).hi - lo ≡ suc n = omega (arith, order) in
    (lo, numbers_from (suc lo) n, ap (numbers_from lo) some)

first_target : (e : Effect) (o : Outcome) (following : ℕ) (x : Instance) → (pair_range x 30).lo ≤ (pair_range x 30).hi → (pc : ℕ)
    × (pcs : List ℕ) × (targets e o following x ≡ pc ∷ pcs)
first_target (Branch flag set offset) outcome.Taken following x order = (_, [], refl)
first_target (SkipIf test) o following x order = (_, [], refl)
first_target (Jump target call) o following x order = first_pc target following x order
first_target (Return false) o following x order = (_, [], refl)
first_target (Return true) o following x order = (_, [], refl)
first_target NoOperation o following x order = (_, [], refl)
first_target e o following x order = (_, [], refl)

pub first_exit_of : (image : Flash) (e : Effect) (clocks : Outcome → ℕ) (following : ℕ) (x : Instance)
    → (pair_range x 30).lo ≤ (pair_range x 30).hi
    → (exit : Exit) × (slice_get (exits_of e clocks following x (outcomes image following e x)) 0 ≡ Some exit)
first_exit_of image e clocks following x order =
    let o = first_outcome image following e x in
    let t = first_target e o.0 following x order in
    let exit : Exit = record { pc = t.0; clocks = clocks o.0 } in (
      exit,
      ap (λ os. slice_get (exits_of e clocks following x os) 0) o.2
          ∙ ap (λ pcs. slice_get (map (λ pc. record { pc = pc; clocks = clocks o.0 }) pcs ++ exits_of e clocks following x o.1) 0) t.2,
    )

-- One exit

pub record OneExit (image : Flash) (e : Effect) (clocks : Outcome → ℕ) (following : ℕ) (x : Instance) : Type 0 where
  pub exit : Exit
  pub is : exits_of e clocks following x (outcomes image following e x) ≡ exit ∷ []

pub emits_one : (image : Flash) (e : Effect) (clocks : Outcome → ℕ) (following : ℕ) (x : Instance) (event : EventKind) → emission e x ≡ Some
    (Some event) → OneExit image e clocks following x
emits_one image (Store to r) clocks following x event h = record {
  exit = record { pc = following; clocks = clocks outcome.Next };
  is = refl;
}
emits_one image (WriteIoBit at b set) clocks following x event h = record {
  exit = record { pc = following; clocks = clocks outcome.Next };
  is = refl;
}
emits_one image (Return true) clocks following x event h = record { exit = _; is = refl }
emits_one image (Return false) clocks following x event h = cc
emits_one image NoOperation clocks following x event h = cc
emits_one image e clocks following x event h = cc

pub returns_one : (image : Flash) (e : Effect) (clocks : Outcome → ℕ) (following : ℕ) (x : Instance) → returns_from_interrupt e ≡ true
    → OneExit image e clocks following x
returns_one image (Return true) clocks following x h = record { exit = _; is = refl }
returns_one image (Return false) clocks following x h = cc
returns_one image NoOperation clocks following x h = cc
returns_one image e clocks following x h = cc
