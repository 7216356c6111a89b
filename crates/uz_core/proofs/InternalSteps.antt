-- Instructions that touch the core alone are steps of the machine.
use Rattle.std.proofs.Common.{◌≡◌, ◌≢◌, ℕ, zero, suc, ◌+◌, ◌%◌, ◌<◌, Bool, true, false, if◌then◌else◌, []}
use Rattle.std.proofs.Common.{refl, sym, ◌∙◌, ap, subst, arith}
use Rattle.std.specs.Prelude.{filter}
use Rattle.std.specs.Ordering.{nat_cmp}
use Rattle.std.specs.FinMap.{FinMap}
use Rattle.std.specs.FinMap as map
use Rattle.avr_table.specs.declared.Instr.{Instr}
use Rattle.avr_table.specs.declared.Outcome.{Outcome}
use Rattle.avr_table.specs.declared.Outcome.TheVariants.{Next, Taken}
use Rattle.avr_table.specs.Rows.{words_of, clocks_of}
use Rattle.uz_core.specs.declared.machine.Effect.{Effect}
use Rattle.uz_core.specs.declared.machine.Effect.TheVariants.{Stop}
use Rattle.uz_core.specs.Effects.{effect_of}
use Rattle.uz_core.specs.Arithmetic.{bit_is_set, decrement_of, increment_of, logical_shift_of, product_of, rotation_of}
use Rattle.uz_core.specs.Core.{Core, add_to_pair_result, binary_result, bit_equals, changed_core, load_addresses, operand_value}
use Rattle.uz_core.specs.Core.{pair, register, unary_result}
use Rattle.uz_core.specs.Core.{stores_of, outcome_of, next_pc, owes_instruction, returns_from_interrupt}
use Rattle.uz_core.specs.Core.{leaves_core}
use Rattle.uz_core.specs.OperandRanges.{EffectFits}
use Rattle.uz_core.proofs.EffectRanges.{effect_fits}
use Rattle.uz_core.proofs.SregBits.{binary_seven, bit_of_with_bit, enabled_kept, pair_seven, unary_seven}
use Rattle.uz_core.specs.declared.internal.Action.{Action}
use Rattle.uz_core.specs.declared.internal.Action.TheVariants as action
use Rattle.uz_core.specs.declared.internal.Internal.{Internal}
use Rattle.uz_core.specs.declared.decoded.Decoded.{Decoded}
use Rattle.uz_core.specs.RowClocks.{clocks_in}
use Rattle.uz_core.specs.Programs.{IsDecoded, IsInstructionAt, IsReading}
use Rattle.uz_core.specs.declared.decoded.Reading.TheVariants as reading
use Rattle.uz_core.specs.Internals.{effect_in, target_in, pc_in, clocks_taken, IsInternal, core_in, clocks_of_internal}
use Rattle.uz_core.specs.Internals.{InternalRun, IsInternalStep, RunsInternally}

-- An action's effect

no_loads : (a : Action) (s : Core) → load_addresses (effect_in a) s ≡ []
no_loads action.Nothing s = refl
no_loads (action.CopyRegister d r) s = refl
no_loads (action.CopyConstant d k) s = refl
no_loads (action.CopyPair d r) s = refl
no_loads (action.Binary op d source compare) s = refl
no_loads (action.Increment d) s = refl
no_loads (action.Decrement d) s = refl
no_loads (action.ShiftRight d) s = refl
no_loads (action.RotateRight d) s = refl
no_loads (action.Unary op d) s = refl
no_loads (action.AddToPair d constant subtract) s = refl
no_loads (action.Multiply d r d_signed r_signed shifted) s = refl
no_loads (action.LoadBit d bit) s = refl
no_loads (action.StoreBit d bit) s = refl
no_loads (action.Branch flag set offset) s = refl
no_loads (action.JumpTo address) s = refl
no_loads (action.JumpBy offset) s = refl

no_stores : (a : Action) (words : ℕ) (s : Core) → stores_of (effect_in a) words s ≡ []
no_stores action.Nothing words s = refl
no_stores (action.CopyRegister d r) words s = refl
no_stores (action.CopyConstant d k) words s = refl
no_stores (action.CopyPair d r) words s = refl
no_stores (action.Binary op d source compare) words s = refl
no_stores (action.Increment d) words s = refl
no_stores (action.Decrement d) words s = refl
no_stores (action.ShiftRight d) words s = refl
no_stores (action.RotateRight d) words s = refl
no_stores (action.Unary op d) words s = refl
no_stores (action.AddToPair d constant subtract) words s = refl
no_stores (action.Multiply d r d_signed r_signed shifted) words s = refl
no_stores (action.LoadBit d bit) words s = refl
no_stores (action.StoreBit d bit) words s = refl
no_stores (action.Branch flag set offset) words s = refl
no_stores (action.JumpTo address) words s = refl
no_stores (action.JumpBy offset) words s = refl

owes_none : (a : Action) → owes_instruction (effect_in a) ≡ false
owes_none action.Nothing = refl
owes_none (action.CopyRegister d r) = refl
owes_none (action.CopyConstant d k) = refl
owes_none (action.CopyPair d r) = refl
owes_none (action.Binary op d source compare) = refl
owes_none (action.Increment d) = refl
owes_none (action.Decrement d) = refl
owes_none (action.ShiftRight d) = refl
owes_none (action.RotateRight d) = refl
owes_none (action.Unary op d) = refl
owes_none (action.AddToPair d constant subtract) = refl
owes_none (action.Multiply d r d_signed r_signed shifted) = refl
owes_none (action.LoadBit d bit) = refl
owes_none (action.StoreBit d bit) = refl
owes_none (action.Branch flag set offset) = refl
owes_none (action.JumpTo address) = refl
owes_none (action.JumpBy offset) = refl

returns_none : (a : Action) → returns_from_interrupt (effect_in a) ≡ false
returns_none action.Nothing = refl
returns_none (action.CopyRegister d r) = refl
returns_none (action.CopyConstant d k) = refl
returns_none (action.CopyPair d r) = refl
returns_none (action.Binary op d source compare) = refl
returns_none (action.Increment d) = refl
returns_none (action.Decrement d) = refl
returns_none (action.ShiftRight d) = refl
returns_none (action.RotateRight d) = refl
returns_none (action.Unary op d) = refl
returns_none (action.AddToPair d constant subtract) = refl
returns_none (action.Multiply d r d_signed r_signed shifted) = refl
returns_none (action.LoadBit d bit) = refl
returns_none (action.StoreBit d bit) = refl
returns_none (action.Branch flag set offset) = refl
returns_none (action.JumpTo address) = refl
returns_none (action.JumpBy offset) = refl

same_change : (a : Action) (image : FinMap nat_cmp ℕ) (words : ℕ) (s : Core) →
    changed_core (effect_in a) map.empty 0 [] s ≡ changed_core (effect_in a) image words [] s
same_change action.Nothing image words s = refl
same_change (action.CopyRegister d r) image words s = refl
same_change (action.CopyConstant d k) image words s = refl
same_change (action.CopyPair d r) image words s = refl
same_change (action.Binary op d source compare) image words s = refl
same_change (action.Increment d) image words s = refl
same_change (action.Decrement d) image words s = refl
same_change (action.ShiftRight d) image words s = refl
same_change (action.RotateRight d) image words s = refl
same_change (action.Unary op d) image words s = refl
same_change (action.AddToPair d constant subtract) image words s = refl
same_change (action.Multiply d r d_signed r_signed shifted) image words s = refl
same_change (action.LoadBit d bit) image words s = refl
same_change (action.StoreBit d bit) image words s = refl
same_change (action.Branch flag set offset) image words s = refl
same_change (action.JumpTo address) image words s = refl
same_change (action.JumpBy offset) image words s = refl

-- whether a branch is taken, as an outcome
abbrev branch_outcome : Bool → Outcome
branch_outcome taken = if taken then Taken else Next

abbrev Goes : FinMap nat_cmp ℕ → ℕ → Core → Action → ℕ → ℕ → Type 0
Goes image words s a following target = pc_in a following target s ≡ next_pc (effect_in a)
    (outcome_of (effect_in a) image words [] s) words [] s

goes : (a : Action) (image : FinMap nat_cmp ℕ) (words : ℕ) (s : Core) (following target : ℕ) →
    following ≡ (s.pc + words) % 32768 → target ≡ target_in a following → Goes image words s a following target
goes action.Nothing image words s following target f t = f
goes (action.CopyRegister d r) image words s following target f t = f
goes (action.CopyConstant d k) image words s following target f t = f
goes (action.CopyPair d r) image words s following target f t = f
goes (action.Binary op d source compare) image words s following target f t = f
goes (action.Increment d) image words s following target f t = f
goes (action.Decrement d) image words s following target f t = f
goes (action.ShiftRight d) image words s following target f t = f
goes (action.RotateRight d) image words s following target f t = f
goes (action.Unary op d) image words s following target f t = f
goes (action.AddToPair d constant subtract) image words s following target f t = f
goes (action.Multiply d r d_signed r_signed shifted) image words s following target f t = f
goes (action.LoadBit d bit) image words s following target f t = f
goes (action.StoreBit d bit) image words s following target f t = f
goes (action.Branch flag set offset) image words s following target f t = by_flag (bit_equals s.sreg flag set)
  where
    by_flag : (b : Bool) → (if b then target else following) ≡ next_pc (effect_in (action.Branch flag set offset)) (branch_outcome b)
        words [] s
    by_flag true = t ∙ ap (λ n. (n + offset) % 32768) f
    by_flag false = f
goes (action.JumpTo address) image words s following target f t = t
goes (action.JumpBy offset) image words s following target f t = t ∙ ap (λ n. (n + offset) % 32768) f

takes : (a : Action) (image : FinMap nat_cmp ℕ) (words : ℕ) (s : Core) (clocks : Outcome → ℕ) (next taken : ℕ) →
    next ≡ clocks Next → taken ≡ clocks Taken → clocks_taken a next taken s ≡ clocks (outcome_of (effect_in a) image words [] s)
takes action.Nothing image words s clocks next taken n t = n
takes (action.CopyRegister d r) image words s clocks next taken n t = n
takes (action.CopyConstant d k) image words s clocks next taken n t = n
takes (action.CopyPair d r) image words s clocks next taken n t = n
takes (action.Binary op d source compare) image words s clocks next taken n t = n
takes (action.Increment d) image words s clocks next taken n t = n
takes (action.Decrement d) image words s clocks next taken n t = n
takes (action.ShiftRight d) image words s clocks next taken n t = n
takes (action.RotateRight d) image words s clocks next taken n t = n
takes (action.Unary op d) image words s clocks next taken n t = n
takes (action.AddToPair d constant subtract) image words s clocks next taken n t = n
takes (action.Multiply d r d_signed r_signed shifted) image words s clocks next taken n t = n
takes (action.LoadBit d bit) image words s clocks next taken n t = n
takes (action.StoreBit d bit) image words s clocks next taken n t = n
takes (action.Branch flag set offset) image words s clocks next taken n t = by_flag (bit_equals s.sreg flag set)
  where
    by_flag : (b : Bool) → (if b then taken else next) ≡ clocks (branch_outcome b)
    by_flag true = t
    by_flag false = n
takes (action.JumpTo address) image words s clocks next taken n t = n
takes (action.JumpBy offset) image words s clocks next taken n t = n

-- the bit of interrupts stays as it is
keeps_enabled : (a : Action) (s : Core) → bit_is_set (changed_core (effect_in a) map.empty 0 [] s).sreg 7 ≡ bit_is_set s.sreg 7
keeps_enabled action.Nothing s = refl
keeps_enabled (action.CopyRegister d r) s = refl
keeps_enabled (action.CopyConstant d k) s = refl
keeps_enabled (action.CopyPair d r) s = refl
keeps_enabled (action.Binary op d source true) s =
    enabled_kept (binary_result op (register s d) (operand_value source s) s.sreg) s.sreg (binary_seven op _ _ s.sreg)
keeps_enabled (action.Binary op d source false) s =
    enabled_kept (binary_result op (register s d) (operand_value source s) s.sreg) s.sreg (binary_seven op _ _ s.sreg)
keeps_enabled (action.Increment d) s = enabled_kept (increment_of (register s d)) s.sreg refl
keeps_enabled (action.Decrement d) s = enabled_kept (decrement_of (register s d)) s.sreg refl
keeps_enabled (action.ShiftRight d) s = enabled_kept (logical_shift_of (register s d)) s.sreg refl
keeps_enabled (action.RotateRight d) s = enabled_kept (rotation_of (register s d) (bit_is_set s.sreg 0)) s.sreg refl
keeps_enabled (action.Unary op d) s = enabled_kept (unary_result op (register s d) s.sreg) s.sreg (unary_seven op _ s.sreg)
keeps_enabled (action.AddToPair d constant subtract) s =
    enabled_kept (add_to_pair_result subtract (pair s d) constant) s.sreg (pair_seven subtract _ constant)
keeps_enabled (action.Multiply d r d_signed r_signed shifted) s =
    enabled_kept (product_of (register s d) (register s r) d_signed r_signed shifted) s.sreg refl
keeps_enabled (action.LoadBit d bit) s = refl
keeps_enabled (action.StoreBit d bit) s = bit_of_with_bit 6 7 s.sreg (bit_is_set (register s d) bit) (omega arith) (omega arith)
keeps_enabled (action.Branch flag set offset) s = refl
keeps_enabled (action.JumpTo address) s = refl
keeps_enabled (action.JumpBy offset) s = refl

-- its operands are in range
pub internal_fits : (image : FinMap nat_cmp ℕ) (at : ℕ) (internal : Internal) → IsReading image at (reading.Internal internal)
    → EffectFits (effect_in internal.action)
internal_fits image at internal (i, here, runs, h) = subst EffectFits h.effect (effect_fits i)

-- what was decoded is an instruction's
pub internal_decoded : (at : ℕ) (i : Instr) (d : Decoded) (internal : Internal) → IsDecoded i d →
    IsInternal at d.effect d.words (clocks_in d.clocks) internal → IsInternal at (effect_of i) (words_of i) (clocks_of i) internal
internal_decoded at i d internal h made = subst (λ e. IsInternal at e (words_of i) (clocks_of i) internal) h.effect
    (subst (λ n. IsInternal at d.effect n (clocks_of i) internal) h.words
    (subst (λ clocks. IsInternal at d.effect d.words clocks internal) h.clocks made))

-- One instruction

-- of an effect, with the words and, by outcome, the clocks of a row
record Does (image : FinMap nat_cmp ℕ) (e : Effect) (words : ℕ) (clocks : Outcome → ℕ) (s next : Core) (passed : ℕ) : Type 0 where
  loads : load_addresses e s ≡ []
  stores : [] ≡ filter leaves_core (stores_of e words s)
  owes : owes_instruction e ≡ false
  returns : returns_from_interrupt e ≡ false
  core : next ≡ record (changed_core e image words [] s) { pc = next_pc e (outcome_of e image words [] s) words [] s }
  clocks_are : passed ≡ clocks (outcome_of e image words [] s)

does : (image : FinMap nat_cmp ℕ) (e : Effect) (words : ℕ) (clocks : Outcome → ℕ) (internal : Internal) (s next : Core) (passed : ℕ) →
    IsInternal s.pc e words clocks internal → next ≡ core_in internal s → passed ≡ clocks_of_internal internal s →
    Does image e words clocks s next passed
does image e words clocks internal s next passed h core took =
    let a = internal.action in
    let done : Does image (effect_in a) words clocks s next passed = record {
      loads = no_loads a s;
      stores = ap (λ x. filter leaves_core x) (sym (no_stores a words s));
      owes = owes_none a;
      returns = returns_none a;
      core = core ∙ (ap (λ (t : Core). record t { pc = pc_in a internal.following internal.target s }) (same_change a image words s)
          ∙ ap (λ n. record (changed_core (effect_in a) image words [] s) { pc = n }) (goes a image words s internal.following
          internal.target
          h.following h.target));
      clocks_are = took ∙ takes a image words s clocks internal.next internal.taken h.next h.taken;
    } in
    subst (λ x. Does image x words clocks s next passed) (sym h.effect) done

pub internal_step : (image : FinMap nat_cmp ℕ) (i : Instr) (internal : Internal) (s next : Core) (passed : ℕ) →
    IsInstructionAt image s.pc i → effect_of i ≢ Stop → IsInternal s.pc (effect_of i) (words_of i) (clocks_of i) internal →
    next ≡ core_in internal s → passed ≡ clocks_of_internal internal s → next.pc < 32768 → IsInternalStep image s next passed
internal_step image i internal s next passed at runs h core took below =
    let d = does image (effect_of i) (words_of i) (clocks_of i) internal s next passed h core took in
    record {
      step = record {
        row = i;
        reads = record { reads = at.reads; only = at.only };
        runs = runs;
        loads = d.loads;
        stores_are = d.stores;
        owes = d.owes;
        returns = d.returns;
        core = d.core;
        clocks_are = d.clocks_are;
      };
      below = below;
      enabled = ap (λ (t : Core). bit_is_set t.sreg 7) core ∙ keeps_enabled internal.action s;
    }

pub step_read : (image : FinMap nat_cmp ℕ) (internal : Internal) (s next : Core) (passed : ℕ) →
    IsReading image s.pc (reading.Internal internal) →
    next ≡ core_in internal s → passed ≡ clocks_of_internal internal s → next.pc < 32768 → IsInternalStep image s next passed
step_read image internal s next passed (i, at, runs, h) core took below = internal_step image i internal s next passed at runs h core took
    below

-- Many of them

pub runs_nowhere : (image : FinMap nat_cmp ℕ) (s : Core) → RunsInternally image s 0 s
runs_nowhere image s = (0, (refl, refl))

pub runs_on : (image : FinMap nat_cmp ℕ) (s mid last : Core) (before taken : ℕ) → RunsInternally image s before mid →
    IsInternalStep image mid last taken → RunsInternally image s (before + taken) last
runs_on image s mid last before taken run step = (suc run.0, (mid, before, taken, run.1, step, refl))

-- I stays as it is on the way
pub run_keeps_enabled : (image : FinMap nat_cmp ℕ) (n : ℕ) (s last : Core) (clocks : ℕ) → InternalRun image n s clocks last
    → bit_is_set last.sreg 7 ≡ bit_is_set s.sreg 7
run_keeps_enabled image zero s last clocks run = ap (λ (t : Core). bit_is_set t.sreg 7) run.1
run_keeps_enabled image (suc n) s last clocks (mid, before, taken, run, step, sum) =
    step.enabled ∙ run_keeps_enabled image n s mid before run
