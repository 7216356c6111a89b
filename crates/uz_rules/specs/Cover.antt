-- Cover: a result whose states lie in instances of named successors, one value of a register after another (this project's profile).
use Rattle.std.specs.Prelude.{Bool, List, None, Option, Some, false, nat_lt, suc, true, zero, ℕ, ◌&&◌, ◌-◌}
use Rattle.uz_schedule.specs.Ends.{Ends}
use Rattle.uz_schedule.specs.declared.certificate.Cert.{Cert}
use Rattle.uz_schedule.specs.declared.states.Instance.{Instance}
use Rattle.uz_transfer.specs.Values.{known_byte, span_of, value_at, with_value}
use Rattle.uz_rules.specs.Successors.{lies_in_any}

-- a register of a cover has at most so many values
abbrev pub most_values : ℕ
most_values = 64

-- a test holds of each of the n numbers from k on
unfoldable pub all_from : (ℕ → Bool) → ℕ → ℕ → Bool
all_from test k zero = true
all_from test k (suc n) = test k && all_from test (suc k) n

-- the states of a result whose register r has this value, as a write of it leaves them: the register's pair is made anew of its bytes
abbrev pub at_value : ℕ → ℕ → Instance → Instance
at_value r v result = with_value r (known_byte v) result

-- with each value of a range in register r
abbrev pub lies_at_each : Cert → List ℕ → ℕ → Ends → Instance → Bool
lies_at_each cert next r e result = all_from (λ v. lies_in_any cert next (at_value r v result)) e.lo (suc e.hi - e.lo)

-- of few values
abbrev pub lies_at_few : Cert → List ℕ → ℕ → Ends → Instance → Bool
lies_at_few cert next r e result = nat_lt (e.hi - e.lo) most_values && lies_at_each cert next r e result

-- with each value that the register of the cover may have, which is one of R0 to R31
abbrev pub covered_by : Cert → List ℕ → Option ℕ → Instance → Bool
covered_by cert next None result = false
covered_by cert next (Some r) result = nat_lt r 32 && lies_at_few cert next r (span_of (value_at result.regs r)) result
