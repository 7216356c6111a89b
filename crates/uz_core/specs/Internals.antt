-- Instructions that touch the core alone: they load and store nothing, owe nothing, and are no return.
use Rattle.std.specs.Prelude.{◌≡◌, ℕ, zero, suc, ◌+◌, ◌%◌, ◌<◌, false, if◌then◌else◌, []}
use Rattle.std.specs.Ordering.{nat_cmp}
use Rattle.std.specs.FinMap.{FinMap}
use Rattle.std.specs.FinMap as map
use Rattle.avr_table.specs.declared.Outcome.{Outcome}
use Rattle.avr_table.specs.declared.Outcome.TheVariants.{Next, Taken}
use Rattle.uz_core.specs.declared.machine.Operand.TheVariants.{Register, Constant}
use Rattle.uz_core.specs.declared.machine.UnaryOp.TheVariants as unary
use Rattle.uz_core.specs.declared.machine.JumpTarget.TheVariants.{Absolute, Relative}
use Rattle.uz_core.specs.declared.machine.Effect.{Effect}
use Rattle.uz_core.specs.declared.machine.Effect.TheVariants as effect
use Rattle.uz_core.specs.Arithmetic.{bit_is_set}
use Rattle.uz_core.specs.Core.{Core, bit_equals, changed_core}
use Rattle.uz_core.specs.declared.internal.Action.{Action}
use Rattle.uz_core.specs.declared.internal.Action.TheVariants as action
use Rattle.uz_core.specs.declared.internal.Internal.{Internal}
use Rattle.uz_core.specs.PlainSteps.{IsPlainStep}

-- the effect that an action is
abbrev pub effect_in : Action → Effect
effect_in action.Nothing = effect.NoOperation
effect_in (action.CopyRegister d r) = effect.CopyByte d (Register r)
effect_in (action.CopyConstant d k) = effect.CopyByte d (Constant k)
effect_in (action.CopyPair d r) = effect.CopyPair d r
effect_in (action.Binary op d source compare) = effect.Binary op d source compare
effect_in (action.Increment d) = effect.Unary unary.Increment d
effect_in (action.Decrement d) = effect.Unary unary.Decrement d
effect_in (action.ShiftRight d) = effect.Unary unary.LogicalShiftRight d
effect_in (action.RotateRight d) = effect.Unary unary.RotateRight d
effect_in (action.Unary op d) = effect.Unary op d
effect_in (action.AddToPair d constant subtract) = effect.AddToPair d constant subtract
effect_in (action.Multiply d r d_signed r_signed shifted) = effect.Multiply d r d_signed r_signed shifted
effect_in (action.LoadBit d bit) = effect.LoadBit d bit
effect_in (action.StoreBit d bit) = effect.StoreBit d bit
effect_in (action.Branch flag set offset) = effect.Branch flag set offset
effect_in (action.JumpTo address) = effect.Jump (Absolute address) false
effect_in (action.JumpBy offset) = effect.Jump (Relative offset) false

-- where a branch that is taken, or a jump, goes; all else goes to the following instruction
abbrev pub target_in : Action → ℕ → ℕ
target_in (action.Branch flag set offset) following = (following + offset) % 32768
target_in (action.JumpTo address) following = address
target_in (action.JumpBy offset) following = (following + offset) % 32768
target_in other following = following

-- the pc after an action, and its clocks
abbrev pub pc_in : Action → ℕ → ℕ → Core → ℕ
pc_in (action.Branch flag set offset) following target s = if bit_equals s.sreg flag set then target else following
pc_in (action.JumpTo address) following target s = target
pc_in (action.JumpBy offset) following target s = target
pc_in other following target s = following

abbrev pub clocks_taken : Action → ℕ → ℕ → Core → ℕ
clocks_taken (action.Branch flag set offset) next taken s = if bit_equals s.sreg flag set then taken else next
clocks_taken other next taken s = next

-- an instruction at a word address, with this effect and with the words and, by outcome, the clocks of its row
pub record IsInternal (at : ℕ) (e : Effect) (words : ℕ) (clocks : Outcome → ℕ) (internal : Internal) : Type 0 where
  pub effect : e ≡ effect_in internal.action
  pub following : internal.following ≡ (at + words) % 32768
  pub target : internal.target ≡ target_in internal.action internal.following
  pub next : internal.next ≡ clocks Next
  pub taken : internal.taken ≡ clocks Taken

-- what it makes of the core, and its clocks
abbrev pub core_in : Internal → Core → Core
core_in internal s = record (changed_core (effect_in internal.action) map.empty 0 [] s) {
  pc = pc_in internal.action internal.following internal.target s;
}

abbrev pub clocks_of_internal : Internal → Core → ℕ
clocks_of_internal internal s = clocks_taken internal.action internal.next internal.taken s

-- By the machine's definitions

-- one instruction that touches the core alone, in so many clocks: I stays as it is
pub record IsInternalStep (image : FinMap nat_cmp ℕ) (s next : Core) (clocks : ℕ) : Type 0 where
  pub step : IsPlainStep image s next [] clocks
  pub below : next.pc < 32768
  pub enabled : bit_is_set next.sreg 7 ≡ bit_is_set s.sreg 7

-- so many of them one after another, in so many clocks
abbrev pub InternalRun : FinMap nat_cmp ℕ → ℕ → Core → ℕ → Core → Type 0
InternalRun image zero s clocks last = (clocks ≡ 0) × (last ≡ s)
InternalRun image (suc n) s clocks last =
    (mid : Core) × (before : ℕ) × (taken : ℕ) × InternalRun image n s before mid × IsInternalStep image mid last taken
    × (clocks ≡ before + taken)

-- any number of them
abbrev pub RunsInternally : FinMap nat_cmp ℕ → Core → ℕ → Core → Type 0
RunsInternally image s clocks last = (n : ℕ) × InternalRun image n s clocks last
