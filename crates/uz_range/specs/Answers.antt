-- The shapes of the range rules' answers (this project's profile).
-- Of a range's flags Z is 0 where 0 is below it, and else open; N is its top bit where that is known, and else open.
use Rattle.std.specs.Prelude.{ℕ, Bool, true, false, Option, Some, None, [], ◌∷◌, map, nat_lt, nat_le, nat_eq, if◌then◌else◌}
use Rattle.uz_core.specs.Arithmetic.{AluResult}
use Rattle.uz_schedule.specs.Ends.{Ends}
use Rattle.uz_schedule.specs.declared.facts.Bit.{Bit}
use Rattle.uz_schedule.specs.declared.facts.Bit.TheVariants.{Zero, One, Free, Old}
use Rattle.uz_range.specs.declared.answer.Ranged.{Ranged}
use Rattle.uz_range.specs.declared.answer.WideRanged.{WideRanged}

abbrev pub ends : ℕ → ℕ → Ends
ends lo hi = record { lo = lo; hi = hi }

abbrev pub is_single : Ends → Bool
is_single e = nat_eq e.lo e.hi

abbrev pub is_known : Bit → Bool
is_known Zero = true
is_known One = true
is_known Free = false
is_known Old = false

abbrev pub is_one : Bit → Bool
is_one Zero = false
is_one One = true
is_one Free = false
is_one Old = false

-- What a carry adds: 0 to 1 where it isn't known, an interrupted program's too

abbrev pub least_carry : Bit → ℕ
least_carry Zero = 0
least_carry One = 1
least_carry Free = 0
least_carry Old = 0

abbrev pub most_carry : Bit → ℕ
most_carry Zero = 0
most_carry One = 1
most_carry Free = 1
most_carry Old = 1

-- Flags

-- a flag of a known result; one that the instruction keeps is open
abbrev pub flag_of : Option Bool → Bit
flag_of None = Free
flag_of (Some false) = Zero
flag_of (Some true) = One

abbrev pub zero_flag : ℕ → Bit
zero_flag lo = if nat_lt 0 lo then Zero else Free

-- bit 7 of the bytes of a range
abbrev pub negative_flag : ℕ → ℕ → Bit
negative_flag lo hi = if nat_lt hi 128 then Zero else if nat_le 128 lo then One else Free

-- bit 15 of the pairs of a range
abbrev pub negative_wide_flag : ℕ → ℕ → Bit
negative_wide_flag lo hi = if nat_lt hi 32768 then Zero else if nat_le 32768 lo then One else Free

-- Answers for a byte

-- the result is known
abbrev pub exact_answer : AluResult → Ranged
exact_answer o = record { span = ends o.value o.value; flags = map flag_of o.flags }

-- V, S and H are open
abbrev pub arithmetic_answer : ℕ → ℕ → Bit → Ranged
arithmetic_answer lo hi c = record { span = ends lo hi; flags = c ∷ zero_flag lo ∷ negative_flag lo hi ∷ Free ∷ Free ∷ Free ∷ Free ∷ [] }

-- V is 0, and S is N
abbrev pub logic_answer : ℕ → ℕ → Bit → Ranged
logic_answer lo hi c = record {
  span = ends lo hi;
  flags = c ∷ zero_flag lo ∷ negative_flag lo hi ∷ Zero ∷ negative_flag lo hi ∷ Free ∷ Free
      ∷ [];
}

-- Answers for a pair

abbrev pub exact_wide_answer : AluResult → WideRanged
exact_wide_answer o = record { span = ends o.value o.value; flags = map flag_of o.flags }

abbrev pub wide_answer : ℕ → ℕ → Bit → WideRanged
wide_answer lo hi c = record { span = ends lo hi; flags = c ∷ zero_flag lo ∷ negative_wide_flag lo hi ∷ Free ∷ Free ∷ Free ∷ Free ∷ [] }

-- nothing is known
abbrev pub open_wide_answer : WideRanged
open_wide_answer = record { span = ends 0 65535; flags = Free ∷ Free ∷ Free ∷ Free ∷ Free ∷ Free ∷ Free ∷ [] }
