use Rattle.std.proofs.Common.{◌≤◌, ◌^◌, arith}
use Rattle.std.proofs.lemmas.Nat.{one_shl}
use Rattle.std.proofs.Math.Pow.{pow_mono}
use Rattle.avr_table.proofs.Field.new.Goals as goal

pub invariant_of-result : goal.invariant_of-result
invariant_of-result g c = record {
  in_range = let h : 2 ^ 16 ≤ 2 ^ g.row.BITS = (let k : 16 ≤ g.row.BITS = omega arith in pow_mono k) in
      omega (arith, h);
}

pub invariant_of-result-then-value : goal.invariant_of-result-then-value
invariant_of-result-then-value g c = record { in_range = omega (arith, one_shl g.row.BITS 16 (omega arith)) }

pub returns-else-value-clause-none : goal.returns-else-value-clause-none
returns-else-value-clause-none g c = omega (arith, one_shl g.row.BITS 16 (omega arith))
