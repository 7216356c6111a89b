-- A store leaves what is known of pairs.
use Rattle.std.proofs.Common.{◌≡◌, ℕ, Bool, true, false, if◌then◌else◌, nat_eq, Option, Some, None, refl, ap}
use Rattle.uz_core.specs.declared.machine.AddressMode.{AddressMode}
use Rattle.uz_core.specs.declared.machine.AddressMode.TheVariants.{Direct, Displacement, PostIncrement, PreDecrement}
use Rattle.uz_schedule.specs.Ends.{Ends}
use Rattle.uz_schedule.specs.declared.facts.Val.{Val}
use Rattle.uz_schedule.specs.declared.header.Head.{Head}
use Rattle.uz_schedule.specs.declared.states.Instance.{Instance}
use Rattle.uz_range.specs.Answers.{is_single}
use Rattle.uz_range.specs.Rules.{pair_add_answer, pair_sub_answer}
use Rattle.uz_transfer.specs.Values.{exact_pair, span_of, with_pair_value, with_flag_list}
use Rattle.uz_transfer.specs.Kinds.{cell_place}
use Rattle.uz_transfer.specs.Memory.{flags_from, with_cell, stored_in, with_pointer_range}

stored_pair : (head : Head) (a : Ends) (v : Val) (inst : Instance) (p : ℕ) → exact_pair (stored_in head a v inst) p ≡ exact_pair inst p
stored_pair head a v inst p = by_case (is_single a) (nat_eq a.lo 0x5F) (cell_place head inst.kind a.lo)
  where
    by_case : (t u : Bool) (place : Option ℕ)
        → exact_pair (if t then (if u then with_flag_list (flags_from v) inst else with_cell place (span_of v) inst) else inst)
        p ≡ exact_pair inst p
    by_case true true place = refl
    by_case true false (Some j) = refl
    by_case true false None = refl
    by_case false u place = refl

pub stored_pointer : (mode : AddressMode) (head : Head) (a : Ends) (v : Val) (inst : Instance) → with_pointer_range mode
    (stored_in head a v inst) (stored_in head a v inst) ≡ with_pointer_range mode inst (stored_in head a v inst)
stored_pointer (Direct k) head a v inst = refl
stored_pointer (Displacement p q) head a v inst = refl
stored_pointer (PostIncrement p) head a v inst = ap (λ r. with_pair_value p (pair_add_answer r 1).span (stored_in head a v inst))
    (stored_pair head a v inst p)
stored_pointer (PreDecrement p) head a v inst = ap (λ r. with_pair_value p (pair_sub_answer r 1).span (stored_in head a v inst))
    (stored_pair head a v inst p)
