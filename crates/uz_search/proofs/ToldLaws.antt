-- A step, a widening and an entry change nothing of an instance but what is told of it.
use Rattle.uz_search.proofs.Common.{◌≡◌, ℕ, true, false, Option, Some, None, nat_eq, refl, ap, ◌∙◌, AddressMode}
use Rattle.uz_search.proofs.Common.{Direct, PostIncrement, PreDecrement, Effect, Binary, Jump, Load, LoadProgram, NoOperation, Store}
use Rattle.uz_search.proofs.Common.{is_single, Ends, IsInstanceTold, Val, Head, Instance, stored_in, with_cell, with_pointer_range}
use Rattle.uz_search.proofs.Common.{with_stored, address_range, transfer, span_of, value_at, with_value, cell_place}
use Rattle.uz_core.specs.declared.machine.Effect.TheVariants.{Return}
use Rattle.uz_schedule.specs.Told.{instance_told}
use Rattle.uz_search.proofs.Lists.{choose}
use Rattle.std.specs.FinMap.{FinMap}
use Rattle.std.specs.Ordering.{nat_cmp}

-- y has all of x that isn't told
abbrev pub LeavesUntold : Instance → Instance → Type 0
LeavesUntold x y = instance_told x y ≡ y

pub told_so : (x y : Instance) → LeavesUntold x y → IsInstanceTold x → IsInstanceTold y
told_so x y leaves told = ap (λ (z : Instance). instance_told z y) told ∙ leaves

pointer_leaves : (mode : AddressMode) (x old y : Instance) → LeavesUntold x y → LeavesUntold x (with_pointer_range mode old y)
pointer_leaves (PostIncrement p) x old y h = ap (λ (z : Instance). record z {
  regs = (with_pointer_range (PostIncrement p) old y).regs;
  pairs = (with_pointer_range (PostIncrement p) old y).pairs;
}) h
pointer_leaves (PreDecrement p) x old y h = ap (λ (z : Instance). record z {
  regs = (with_pointer_range (PreDecrement p) old y).regs;
  pairs = (with_pointer_range (PreDecrement p) old y).pairs;
}) h
pointer_leaves (Direct at) x old y h = h
pointer_leaves mode x old y h = h

value_leaves : (d : ℕ) (v : Val) (x y : Instance) → LeavesUntold x y → LeavesUntold x (with_value d v y)
value_leaves d v x y h = ap (λ (z : Instance). record z { regs = (with_value d v y).regs; pairs = (with_value d v y).pairs }) h

cell_leaves : (place : Option ℕ) (e : Ends) (x : Instance) → LeavesUntold x (with_cell place e x)
cell_leaves (Some j) e x = refl
cell_leaves None e x = refl

store_leaves : (head : Head) (a : Ends) (v : Val) (x : Instance) → LeavesUntold x (stored_in head a v x)
store_leaves head a v x = choose (LeavesUntold x) (is_single a) (with_stored head a.lo v x) x
    (choose (LeavesUntold x) (nat_eq a.lo 0x5F) _ (with_cell (cell_place head x.kind a.lo) (span_of v) x) refl
    (cell_leaves (cell_place head x.kind a.lo) (span_of v) x)) refl

pub transfer_leaves : (head : Head) (image : FinMap nat_cmp ℕ) (following sampled : ℕ) (e : Effect) (x : Instance)
    → LeavesUntold x (transfer head image following sampled e x)
transfer_leaves head image following sampled (Binary op d source compare) x = choose (LeavesUntold x) compare _ _ refl refl
transfer_leaves head image following sampled (Load d from) x = value_leaves d _ x _ (pointer_leaves from x x x refl)
transfer_leaves head image following sampled (Store to r) x = pointer_leaves to x x (stored_in head (address_range to x)
    (value_at x.regs r) x) (store_leaves head (address_range to x) (value_at x.regs r) x)
transfer_leaves head image following sampled (LoadProgram d increment) x = value_leaves d _ x _ (choose (LeavesUntold x) increment _ x refl refl)
transfer_leaves head image following sampled (Jump target true) x = refl
transfer_leaves head image following sampled (Jump target false) x = refl
transfer_leaves head image following sampled (Return true) x = refl
transfer_leaves head image following sampled (Return false) x = refl
transfer_leaves head image following sampled NoOperation x = refl
transfer_leaves head image following sampled e x = refl
