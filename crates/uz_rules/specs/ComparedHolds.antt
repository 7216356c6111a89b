-- When what is known of main's last comparison or result holds of a core.
use Rattle.std.specs.Prelude.{false, nat_eq, nat_le, Bool, Option, Some, ℕ, ⊤, ◌*◌, ◌+◌, ◌<◌, ◌≡◌}
use Rattle.uz_schedule.specs.declared.facts.Against.{Against}
use Rattle.uz_schedule.specs.declared.facts.Against.TheVariants.{Constant, Register}
use Rattle.uz_schedule.specs.declared.facts.Compared.{Compared}
use Rattle.uz_schedule.specs.declared.facts.Compared.TheVariants.{Byte, Nothing, Pair, PairResult, Result, Value}
use Rattle.uz_core.specs.Arithmetic.{bit_is_set, difference_of}
use Rattle.uz_core.specs.Core.{Core, pair, register}
use Rattle.uz_range.specs.Containment.{IsWithin}
use Rattle.uz_range.specs.Flags.{byte_flag, difference_value, pair_flag}

-- the flags C, Z, N, V and S of a status register are those that are given
abbrev pub FlagsAre : (ℕ → Option Bool) → ℕ → Type 0
FlagsAre flags sreg = (k : ℕ) (b : Bool) → k < 5 → flags k ≡ Some b → bit_is_set sreg k ≡ b

abbrev pub against_value : Against → Core → ℕ
against_value (Register r) s = register s r
against_value (Constant k) s = k

abbrev pub AgainstFits : Against → Type 0
AgainstFits (Register r) = r < 32
AgainstFits (Constant k) = k < 256

-- the pair with this low byte and this high register
abbrev pub second_pair : Against → ℕ → Core → ℕ
second_pair low high s = against_value low s + 256 * register s high

-- a result is a number of the old range less k
abbrev pub ComparedHolds : Compared → Core → Type 0
ComparedHolds Nothing s = ⊤
ComparedHolds (Byte d source) s = (d < 32) × AgainstFits source × FlagsAre (byte_flag (register s d) (against_value source s)) s.sreg
ComparedHolds (Pair d low high) s = (d < 31) × AgainstFits low × (high < 32) × FlagsAre (pair_flag (pair s d) (second_pair low high s)) s.sreg
ComparedHolds (Result d k old) s =
    (d < 32) × (k < 256) × ((x : ℕ) × (x < 256) × IsWithin x old × (register s d ≡ (difference_of x k false).value)
    × FlagsAre (byte_flag x k) s.sreg)
ComparedHolds (PairResult d k old) s =
    (d < 31) × (k < 65536) × ((x : ℕ) × (x < 65536) × IsWithin x old × (pair s d ≡ difference_value x k)
    × FlagsAre (pair_flag x k) s.sreg)
ComparedHolds (Value d) s =
    (d < 32) × (bit_is_set s.sreg 1 ≡ nat_eq (register s d) 0) × (bit_is_set s.sreg 2 ≡ nat_le 128 (register s d))
