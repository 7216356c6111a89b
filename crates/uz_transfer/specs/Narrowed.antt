-- What a branch or a skip tells: what is left at an exit of an instance's registers and pairs, by the flag, the comparison or the bit that
-- was asked (this project's profile). None: no state goes there.
use Rattle.std.specs.Prelude.{Bool, None, Option, Some, if◌then◌else◌, nat_lt, not, slice_set, ℕ, ◌+◌}
use Rattle.uz_schedule.specs.Ends.{Ends, hull}
use Rattle.uz_schedule.specs.declared.facts.Against.{Against}
use Rattle.uz_schedule.specs.declared.facts.Against.TheVariants as against
use Rattle.uz_schedule.specs.declared.facts.Compared.{Compared}
use Rattle.uz_schedule.specs.declared.facts.Compared.TheVariants.{Byte, Nothing, Pair, PairResult, Result, Value}
use Rattle.uz_schedule.specs.declared.facts.Val.TheVariants.{Range}
use Rattle.uz_schedule.specs.declared.header.Head.{Head}
use Rattle.uz_schedule.specs.declared.states.Instance.{Instance}
use Rattle.uz_core.specs.declared.machine.Effect.{Effect}
use Rattle.uz_core.specs.declared.machine.Effect.TheVariants.{Branch, SkipIf}
use Rattle.uz_core.specs.declared.machine.SkipTest.TheVariants as skip
use Rattle.uz_range.specs.Narrowing.{bit_narrowed, both, by_value, by_zero, common, narrowed as both_narrowed, result_narrowed}
use Rattle.uz_range.specs.Rules.{high_answer, low_answer}
use Rattle.uz_transfer.specs.declared.narrowing.Left.{Left}
use Rattle.uz_transfer.specs.declared.step.Exit.{Exit}
use Rattle.uz_transfer.specs.declared.step.Test.{Test}
use Rattle.uz_transfer.specs.declared.step.Test.TheVariants as test
use Rattle.uz_transfer.specs.Compared.{knows_comparisons}
use Rattle.uz_transfer.specs.Values.{byte_hull, is_pointer, known_byte, pair_at, pair_number, span_of, value_at}

-- Registers and pairs

abbrev pub left_of : Instance → Left
left_of inst = record { regs = inst.regs; pairs = inst.pairs }

abbrev pub with_left : Left → Instance → Instance
with_left left inst = record inst { regs = left.regs; pairs = left.pairs }

abbrev pub byte_span : Left → ℕ → Ends
byte_span left r = span_of (value_at left.regs r)

abbrev pub against_span : Against → Left → Ends
against_span (against.Register r) left = byte_span left r
against_span (against.Constant k) left = span_of (known_byte k)

abbrev pub pair_span : Left → ℕ → Ends
pair_span left d = if is_pointer d then pair_at left.pairs (pair_number d) else byte_hull left.regs d

-- a register takes a narrower range; its pair stays as it is
abbrev pub with_span : ℕ → Ends → Left → Left
with_span d e left = record left { regs = slice_set left.regs d (Range e) }

abbrev pub with_against_span : Against → Ends → Left → Left
with_against_span (against.Register r) e left = with_span r e left
with_against_span (against.Constant k) e left = left

-- X, Y or Z takes one
abbrev pub with_pair : ℕ → Ends → Left → Left
with_pair d e left = record left { pairs = if is_pointer d then slice_set left.pairs (pair_number d) e else left.pairs }

abbrev pub with_both : ℕ → Against → Left → Option (Ends × Ends) → Option Left
with_both d source left None = None
with_both d source left (Some p) = Some (with_span d p.0 (with_against_span source p.1 left))

abbrev pub with_one : ℕ → Left → Option Ends → Option Left
with_one d left None = None
with_one d left (Some e) = Some (with_span d e left)

-- a pair, and each of its bytes with it
abbrev pub with_one_pair : ℕ → Left → Option Ends → Option Left
with_one_pair d left None = None
with_one_pair d left (Some e) =
    with_both d (against.Register (d + 1)) (with_pair d e left)
    (both (common (low_answer e) (byte_span left d)) (common (high_answer e) (byte_span left (d + 1))))

abbrev pub with_first_pair : ℕ → Left → Option (Ends × Ends) → Option Left
with_first_pair d left None = None
with_first_pair d left (Some p) = with_one_pair d left (Some p.0)

-- flag k is known to be set or clear
abbrev pub narrowed_by : Compared → ℕ → Bool → Left → Option Left
narrowed_by Nothing k is_set left = Some left
narrowed_by (Byte d source) k is_set left =
    with_both d source left (both_narrowed 128 k is_set (byte_span left d) (against_span source left))
narrowed_by (Pair d low high) k is_set left =
    with_first_pair d left (both_narrowed 32768 k is_set (pair_span left d) (hull (against_span low left) (byte_span left high)))
narrowed_by (Result d j old) k is_set left = with_one d left (result_narrowed 128 k is_set old j (byte_span left d))
narrowed_by (PairResult d j old) k is_set left = with_one_pair d left (result_narrowed 32768 k is_set old j (pair_span left d))
narrowed_by (Value d) k is_set left = with_one d left (by_value 128 k is_set (byte_span left d))

-- What an instruction asks of main, by the rules of version 3

abbrev pub asked : Effect → Test
asked (Branch flag set offset) = test.Flag flag set
asked (SkipIf (skip.Equal d r)) = test.Equal d r
asked (SkipIf (skip.RegisterBit r b set)) = test.Bit r b set
asked e = test.Nothing

abbrev pub test_of : Head → Effect → Instance → Test
test_of head e inst = if knows_comparisons head inst.kind then asked e else test.Nothing

-- At an exit

-- the exit that is taken where the test holds: it takes more than one clock
abbrev pub is_taken : Exit → Bool
is_taken exit = nat_lt 1 exit.clocks

abbrev pub as_asked : Bool → Bool → Bool
as_asked taken set = if taken then set else not set

-- flags but C, Z, N, V and S tell nothing, and a byte has 8 bits
abbrev pub left_at : Test → Bool → Compared → Left → Option Left
left_at test.Nothing taken told left = Some left
left_at (test.Flag k set) taken told left = if nat_lt k 5 then narrowed_by told k (as_asked taken set) left else Some left
left_at (test.Equal d r) taken told left =
    with_both d (against.Register r) left (by_zero taken (byte_span left d) (byte_span left r))
left_at (test.Bit r b set) taken told left =
    if nat_lt b 8 then with_one r left (bit_narrowed b (as_asked taken set) (byte_span left r)) else Some left

abbrev pub with_some_left : Option Left → Instance → Option Instance
with_some_left None inst = None
with_some_left (Some left) inst = Some (with_left left inst)

-- what is left of an instance at an exit
abbrev pub narrowed : Test → Exit → Instance → Option Instance
narrowed asks exit inst = with_some_left (left_at asks (is_taken exit) inst.compared (left_of inst)) inst
