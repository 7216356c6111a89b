use Rattle.std.proofs.Common.{arith}
use Rattle.uz_proposal.proofs.PeriodLemmas.{further}
use Rattle.uz_proposal.proofs.periods.period_in.Goals as goal
use Rattle.uz_proposal.proofs.periods.period_in.Goals.{else-same-lines-via-then-same-lines+else-same-lines-2, else-same-lines-via-else-same-lines}

pub returns-then-lines-count : goal.returns-then-lines-count
returns-then-lines-count c = λ lines from p. omega (arith, p.twice, c.loop-lines.invariant lines from p)

pub loop-lines-preserved : goal.loop-lines-preserved
loop-lines-preserved c = λ lines from p.
    let keys = c.args.keys.now in
    let apart = c.loop-lines.lines in
    let least = c.loop-lines.invariant lines from p in
    elim c.else-same-lines.branch [
      | else-same-lines-via-then-same-lines+else-same-lines-2 w ↦
          further keys apart c.same_at_end-same.result lines from least c.same_at_end-same.ensures (λ a b d. omega (arith, a, b, d)) p
      | else-same-lines-via-else-same-lines w ↦
          further keys apart c.same_at_end-same.result lines from least c.same_at_end-same.ensures (λ a b d. omega (arith, a, b, d)) p
    ]

pub returns : goal.returns
returns c = λ lines from p. omega (arith, p.most, c.loop-lines.invariant lines from p)
