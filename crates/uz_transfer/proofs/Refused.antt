-- What a refusal that doesn't stand says of stack and target.
use Rattle.std.proofs.Common.{◌≡◌, ◌≤◌, ◌<◌, ◌+◌, ℕ, Bool, true, false, not, nat_le, nat_lt, nat_eq, Option, None, refl, arith}
use Rattle.std.specs.Prelude.{◌&&◌}
use Rattle.std.proofs.lemmas.Bool.Decides.{nat_tests}
use Rattle.uz_core.specs.declared.machine.JumpTarget.{JumpTarget}
use Rattle.uz_core.specs.declared.machine.Effect.TheVariants.{PushByte, PopByte, Jump, Return}
use Rattle.uz_schedule.specs.declared.header.Head.{Head}
use Rattle.uz_schedule.specs.declared.states.Instance.{Instance}
use Rattle.uz_transfer.specs.Kinds.{depth_limit}
use Rattle.uz_transfer.specs.Memory.{depth_of}
use Rattle.uz_transfer.specs.Refusals.{refuse_if, target_fails, fail_of}
use Rattle.uz_transfer.specs.declared.fail.Fail.{Fail}

unless_none : (b : Bool) (why : Fail) (later : Option Fail) → refuse_if b why later ≡ None → (b ≡ false) × (later ≡ None)
unless_none true why later e = absurd cc
unless_none false why later e = (refl, e)

not_false : (t : Bool) → not t ≡ false → t ≡ true
not_false true e = refl
not_false false e = absurd cc

pub push_room : (head : Head) (inst : Instance) (r : ℕ) → fail_of head (PushByte r) inst ≡ None → depth_of inst < depth_limit head inst.kind
push_room head inst r f = let e : nat_le (depth_limit head inst.kind) (depth_of inst) ≡ false = (unless_none _ _ _ f).0 in
    grind (arith, nat_tests)

pub pop_some : (head : Head) (inst : Instance) (r : ℕ) → fail_of head (PopByte r) inst ≡ None → 1 ≤ depth_of inst
pop_some head inst r f = let e : nat_eq (depth_of inst) 0 ≡ false = (unless_none _ _ _ f).0 in grind (arith, nat_tests)

pub call_room : (head : Head) (inst : Instance) (target : JumpTarget) → fail_of head (Jump target true) inst ≡ None
    → depth_of inst + 2 ≤ depth_limit head inst.kind
call_room head inst target f = let e : nat_lt (depth_limit head inst.kind) (depth_of inst + 2) ≡ false = (unless_none _ _ _ f).0 in
    grind (arith, nat_tests)

pub jump_known : (head : Head) (inst : Instance) (target : JumpTarget) (call : Bool) → fail_of head (Jump target call) inst ≡ None
    → target_fails target inst ≡ false
jump_known head inst target call f = (unless_none _ _ _ (unless_none _ _ _ f).1).0

and_true : (a b : Bool) → (a && b) ≡ true → (a ≡ true) × (b ≡ true)
and_true true b e = (refl, e)
and_true false b e = absurd cc

pub return_slots : (head : Head) (inst : Instance) → fail_of head (Return false) inst ≡ None → 2 ≤ depth_of inst
return_slots head inst f = let e = (and_true (nat_le 2 (depth_of inst)) _ (not_false _ (unless_none _ _ _ f).0)).0 in
    grind (arith, nat_tests)
