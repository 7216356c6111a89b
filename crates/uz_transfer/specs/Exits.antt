-- Where an instruction leads, by class of effect.
use Rattle.avr_table.specs.Length.{length_of}
use Rattle.avr_table.specs.declared.Outcome.{Outcome}
use Rattle.avr_table.specs.declared.Outcome.TheVariants.{Next, SkipOne, SkipTwo, Taken}
use Rattle.std.specs.FinMap.{FinMap}
use Rattle.std.specs.Ordering.{nat_cmp}
use Rattle.std.specs.Prelude.{Bool, List, None, Option, Some, [], false, if◌then◌else◌, nat_eq, nat_lt, not, suc, true, zero, ℕ, ◌%◌, ◌&&◌}
use Rattle.std.specs.Prelude.{◌*◌, ◌+◌, ◌-◌, ◌||◌, ◌∷◌}
use Rattle.uz_schedule.specs.Ends.{Ends}
use Rattle.uz_schedule.specs.declared.facts.Bit.{Bit}
use Rattle.uz_schedule.specs.declared.facts.Bit.TheVariants.{Free, Old as OldBit, One, Zero}
use Rattle.uz_schedule.specs.declared.states.Instance.{Instance}
use Rattle.uz_hex.specs.Cells.{word_of}
use Rattle.uz_core.specs.declared.machine.Effect.{Effect}
use Rattle.uz_core.specs.declared.machine.Effect.TheVariants.{Branch, Jump, Return, SkipIf}
use Rattle.uz_core.specs.declared.machine.JumpTarget.{JumpTarget}
use Rattle.uz_core.specs.declared.machine.JumpTarget.TheVariants.{Absolute, Indirect, Relative}
use Rattle.uz_core.specs.declared.machine.SkipTest.{SkipTest}
use Rattle.uz_core.specs.declared.machine.SkipTest.TheVariants.{Equal, IoBit, RegisterBit}
use Rattle.uz_range.specs.Answers.{is_single}
use Rattle.uz_range.specs.Rules.{bst_answer}
use Rattle.uz_transfer.specs.declared.step.Exit.{Exit}
use Rattle.uz_transfer.specs.Values.{span_of, value_at, flag_at, pair_range}
use Rattle.uz_transfer.specs.Kinds.{is_main}
use Rattle.uz_transfer.specs.Memory.{slot_value}
use Rattle.uz_transfer.specs.Transfer.{bit_of_bool}

-- Where it goes

-- what a flag or a bit that must have this value decided: None is undecided
abbrev pub decided : Bit → Bool → Option Bool
decided Zero set = Some (not set)
decided One set = Some set
decided Free set = None
decided OldBit set = None

-- I is the kind's
abbrev pub flag_of_kind : Instance → ℕ → Bit
flag_of_kind inst k = if nat_eq k 7 then bit_of_bool (is_main inst.kind) else flag_at inst.flags k

abbrev pub are_equal : Ends → Ends → Option Bool
are_equal a b =
    if is_single a && is_single b && nat_eq a.lo b.lo then Some true else
    if nat_lt a.hi b.lo || nat_lt b.hi a.lo then Some false else None

abbrev pub test_decides : SkipTest → Instance → Option Bool
test_decides (Equal d r) inst = if nat_eq d r then Some true else are_equal (span_of (value_at inst.regs d))
    (span_of (value_at inst.regs r))
test_decides (RegisterBit r b set) inst = decided (bst_answer (span_of (value_at inst.regs r)) b) set
test_decides (IoBit at b set) inst = None

abbrev pub choices : Option Bool → Outcome → List Outcome
choices (Some true) other = other ∷ []
choices (Some false) other = Next ∷ []
choices None other = Next ∷ other ∷ []

abbrev pub skip_outcome : FinMap nat_cmp ℕ → ℕ → Outcome
skip_outcome image following = if nat_eq (length_of (word_of image following)) 2 then SkipTwo else SkipOne

abbrev pub outcomes : FinMap nat_cmp ℕ → ℕ → Effect → Instance → List Outcome
outcomes image following (Branch flag set offset) inst = choices (decided (flag_of_kind inst flag) set) Taken
outcomes image following (SkipIf test) inst = choices (test_decides test inst) (skip_outcome image following)
outcomes image following e inst = Next ∷ []

-- the numbers_from from a on, n in all
abbrev pub numbers_from : ℕ → ℕ → List ℕ
numbers_from a zero = []
numbers_from a (suc n) = a ∷ numbers_from (suc a) n

abbrev pub jump_pcs : JumpTarget → ℕ → Instance → List ℕ
jump_pcs (Absolute k) following inst = k ∷ []
jump_pcs (Relative k) following inst = (following + k) % 32768 ∷ []
jump_pcs Indirect following inst = numbers_from (pair_range inst 30).lo (suc (pair_range inst 30).hi - (pair_range inst 30).lo)

abbrev pub skipped : Outcome → ℕ
skipped SkipOne = 1
skipped SkipTwo = 2
skipped o = 0

abbrev pub targets : Effect → Outcome → ℕ → Instance → List ℕ
targets (Branch flag set offset) Taken following inst = (following + offset) % 32768 ∷ []
targets (SkipIf test) o following inst = (following + skipped o) % 32768 ∷ []
targets (Jump target call) o following inst = jump_pcs target following inst
targets (Return false) o following inst = ((span_of (slot_value 2 inst)).lo + 256 * (span_of (slot_value 1 inst)).lo) % 32768 ∷ []
targets (Return true) o following inst = inst.pc % 32768 ∷ []
targets e o following inst = following ∷ []

-- whether all exits pass a test
abbrev pub each_exit : (Exit → Bool) → List Exit → Bool
each_exit test [] = true
each_exit test (exit ∷ exits) = test exit && each_exit test exits
