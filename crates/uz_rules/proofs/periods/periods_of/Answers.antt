use Rattle.uz_rules.proofs.Common.{◌^◌, All, arith, subst, ByteRepeats}
use Rattle.uz_rules.proofs.PeriodLaws.{all_longer, pairs_all_longer}
use Rattle.uz_rules.proofs.periods.periods_of.Goals as goal

pub returns : goal.returns
returns c =
    let point = c.args.point.now in
    let most = c.greater-2.result in
    let bytes = c.greater-2.ensures.first in
    let registers = c.greater-bytes.ensures.first in
    let others = c.greater-bytes.ensures.second in
    let stack = c.greater.ensures.first in
    let cells = c.greater.ensures.second in
    record {
      registers = all_longer point.regs c.longest_of-registers.result.exponent most (omega (arith, bytes, registers))
          c.longest_of-registers.ensures;
      stack = subst (All (ByteRepeats (2 ^ most))) c.as_slice.ensures.value (all_longer c.as_slice.result.now
          c.longest_of-stack.result.exponent most (omega (arith, bytes, others, stack)) c.longest_of-stack.ensures);
      cells = subst (All (ByteRepeats (2 ^ most))) c.as_slice-2.ensures.value (all_longer c.as_slice-2.result.now
          c.longest_of-cells.result.exponent most (omega (arith, bytes, others, cells)) c.longest_of-cells.ensures);
      pairs = pairs_all_longer point.pairs c.longest_of_pairs-pairs.result most c.greater-2.ensures.second c.longest_of_pairs-pairs.ensures;
    }
