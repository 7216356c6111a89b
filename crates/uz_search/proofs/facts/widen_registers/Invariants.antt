use Rattle.uz_search.proofs.Common.{◌≡◌, ◌<◌, ◌≤◌, ℕ, [], length, slice_index_or, whole_byte, Range, folded_value}
use Rattle.uz_search.proofs.facts.widen_registers.Given as goal

-- the registers so far are widened, the others are as they were
abbrev pub invariant-each : goal.invariant-each
invariant-each l = record {
  size : length l.registers ≡ 32;
  done : (q : ℕ) → q < l.register → slice_index_or l.registers q (Range whole_byte)
      ≡ folded_value (slice_index_or l.chains q []) (slice_index_or l.initial.registers q (Range whole_byte));
  left : (q : ℕ) → l.register ≤ q → slice_index_or l.registers q (Range whole_byte)
      ≡ slice_index_or l.initial.registers q (Range whole_byte);
}
