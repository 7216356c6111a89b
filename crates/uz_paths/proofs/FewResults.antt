-- How many results an instance has: at most 16, and the handler's first states at most two.
use Rattle.std.proofs.Common.{◌≡◌, ap, refl, arith, ℕ, zero, suc, ◌+◌, ◌-◌, ◌<◌, ◌≤◌, Bool, true, false, List, [], ◌∷◌, ◌++◌}
use Rattle.std.proofs.Common.{length, map, Option, Some, None, Ok, Err}
use Rattle.std.specs.Prelude.{nat_le, nat_lt}
use Rattle.std.proofs.lemmas.Bool.Decides.{nat_tests}
use Rattle.std.proofs.lemmas.Bool.{or_parts}
use Rattle.avr_table.specs.declared.Outcome.{Outcome}
use Rattle.avr_table.specs.declared.Outcome.TheVariants as outcome
use Rattle.avr_table.specs.Rows.{clocks_of, words_of}
use Rattle.uz_core.specs.Effects.{effect_of}
use Rattle.uz_core.specs.declared.machine.Effect.{Effect}
use Rattle.uz_core.specs.declared.machine.Effect.TheVariants.{NoOperation, Branch, SkipIf, Jump, Return}
use Rattle.uz_core.specs.declared.machine.JumpTarget.{JumpTarget}
use Rattle.uz_core.specs.declared.machine.JumpTarget.TheVariants.{Absolute, Relative, Indirect}
use Rattle.uz_core.specs.declared.machine.SkipTest.{SkipTest}
use Rattle.uz_schedule.specs.Ends.{Ends}
use Rattle.uz_schedule.specs.Instances.{handler_entry}
use Rattle.uz_schedule.specs.declared.header.Head.{Head}
use Rattle.uz_schedule.specs.declared.states.Instance.{Instance}
use Rattle.uz_transfer.specs.declared.fail.Fail.{Fail}
use Rattle.uz_transfer.specs.declared.step.Exit.{Exit}
use Rattle.uz_transfer.specs.Exits.{choices, decided, flag_of_kind, jump_pcs, numbers_from, outcomes, skip_outcome, test_decides}
use Rattle.uz_transfer.specs.Refusals.{fail_of, refuse_if, target_fails}
use Rattle.uz_transfer.specs.Step.{exits_of, following_of}
use Rattle.uz_transfer.specs.Values.{pair_range}
use Rattle.uz_rules.specs.declared.next.Next.{Next}
use Rattle.uz_search.specs.declared.program.Program.{Program}
use Rattle.uz_search.specs.Following.{After, Flash, split_at}
pub use Rattle.uz_search.proofs.OneResult.{one_next}
use Rattle.uz_search.proofs.PiecesLaws.{few_pieces}
use Rattle.uz_search.proofs.OneResult.{few_of_after, one_result}
use Rattle.uz_paths.specs.Linked.{HasFew}

-- an instance that has results isn't refused
pub ok_or_err : (image : Flash) (p : Program) (x : Instance) (a : Next) (why : Fail) → After image p x (Ok a) → After image p x (Err why)
    → ⊥
ok_or_err image p x a why h k = let same = one_result image p x (Ok a) (Err why) h k in cc

count_from : (a n : ℕ) → length (numbers_from a n) ≡ n
count_from a zero = refl
count_from a (suc n) = ap suc (count_from (suc a) n)

-- a jump that isn't refused goes to few places
abbrev AimsFew : ℕ → Instance → Type 0
AimsFew most x = target_fails Indirect x ≡ false → suc (pair_range x 30).hi - (pair_range x 30).lo ≤ most

not_refused : (b : Bool) (why : Fail) (later : Option Fail) → refuse_if b why later ≡ None → (b ≡ false) × (later ≡ None)
not_refused true why later h = absurd (cc)
not_refused false why later h = (refl, h)

pcs_few : (target : JumpTarget) (following most : ℕ) (x : Instance) → 1 ≤ most → AimsFew most x → target_fails target x ≡ false
    → length (jump_pcs target following x) ≤ most
pcs_few (Absolute k) following most x some aims h = some
pcs_few (Relative k) following most x some aims h = some
pcs_few Indirect following most x some aims h =
    let few = aims h in
    let count = count_from (pair_range x 30).lo (suc (pair_range x 30).hi - (pair_range x 30).lo) in
    omega arith

branch_few : (d : Option Bool) (flag : ℕ) (set : Bool) (offset : ℕ) (clocks : Outcome → ℕ) (following : ℕ) (x : Instance)
    → length (exits_of (Branch flag set offset) clocks following x (choices d outcome.Taken)) ≤ 2
branch_few (Some true) flag set offset clocks following x = omega arith
branch_few (Some false) flag set offset clocks following x = omega arith
branch_few None flag set offset clocks following x = omega arith

skip_few : (d : Option Bool) (test : SkipTest) (o : Outcome) (clocks : Outcome → ℕ) (following : ℕ) (x : Instance)
    → length (exits_of (SkipIf test) clocks following x (choices d o)) ≤ 2
skip_few (Some true) test o clocks following x = omega arith
skip_few (Some false) test o clocks following x = omega arith
skip_few None test o clocks following x = omega arith

length_of_map : {A B : Type 0} (f : A → B) (xs : List A) → length (map f xs ++ []) ≡ length xs
length_of_map f [] = refl
length_of_map f (x ∷ xs) = ap suc (length_of_map f xs)

exits_few : (image : Flash) (head : Head) (e : Effect) (clocks : Outcome → ℕ) (following most : ℕ) (x : Instance) → 2 ≤ most
    → AimsFew most x → fail_of head e x ≡ None
    → length (exits_of e clocks following x (outcomes image following e x)) ≤ most
exits_few image head (Branch flag set offset) clocks following most x some aims fine = let h =
    branch_few (decided (flag_of_kind x flag) set) flag set offset clocks following x in omega arith
exits_few image head (SkipIf test) clocks following most x some aims fine = let h = skip_few (test_decides test x) test
    (skip_outcome image following) clocks following x in omega arith
exits_few image head (Jump target call) clocks following most x some aims fine =
    let stack = not_refused _ _ _ fine in
    let aimed = not_refused (target_fails target x) _ _ stack.1 in
    let few = pcs_few target following most x (omega arith) aims aimed.0 in
    let count = length_of_map (λ (pc : ℕ). exit pc) (jump_pcs target following x) in
    omega arith
  where
    exit : ℕ → Exit
    exit pc = record { pc = pc; clocks = clocks outcome.Next }
exits_few image head (Return true) clocks following most x some aims fine = omega arith
exits_few image head (Return false) clocks following most x some aims fine = omega arith
exits_few image head NoOperation clocks following most x some aims fine = omega arith
exits_few image head e clocks following most x some aims fine = omega arith

-- results are few
few_by : (image : Flash) (p : Program) (x : Instance) (most : ℕ) → 2 ≤ most → AimsFew most x → (result : Next) → After image p x (Ok result)
    → length result.out.items ≤ most
few_by image p x most some aims result after =
    let s = few_of_after image p x result after in
    let few = exits_few image p.head (effect_of s.row) (clocks_of s.row) (following_of (words_of s.row) x) most x some aims s.fails in
    omega (arith, s.few, few)

pub few_out : (image : Flash) (p : Program) (x : Instance) (result : Next) → After image p x (Ok result) → length result.out.items ≤ 16
few_out image p x = few_by image p x 16 (omega arith) aims
  where
    aims : AimsFew 16 x
    aims h = let low = (or_parts (nat_le (16 + (pair_range x 30).lo) (pair_range x 30).hi) (nat_lt 0x7FFF (pair_range x 30).hi) h).0 in
        let less : (pair_range x 30).hi < 16 + (pair_range x 30).lo = grind (arith, nat_tests) in
        omega arith

-- and so are the pieces in which they go on
pub few_results : (image : Flash) (p : Program) (x : Instance) → HasFew image p x 16
few_results image p x result after = few_pieces (split_at p x) result.out.items (few_out image p x result after)

-- of the handler's first states nothing is known of Z, so that an indirect jump is refused
pub few_entries : (image : Flash) (p : Program) (cells : List Ends) (line clock level top : ℕ) → HasFew image p
    (handler_entry cells line clock level top) 2
few_entries image p cells line clock level top = few_by image p (handler_entry cells line clock level top) 2 (omega arith) (λ h. absurd (aims h))
  where
    aims : target_fails Indirect (handler_entry cells line clock level top) ≡ false → ⊥
    aims h = cc
