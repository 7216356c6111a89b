use Rattle.uz_check.proofs.Common.{◌≡◌, ℕ, suc, ◌+◌, ◌-◌, ◌∙◌, sym, ap, length, arith, None, Schedule, at_line, break_in_line, break_from}
use Rattle.uz_check.proofs.steadiness.first_break.Goals as goal

-- past a steady line
past : (s : Schedule) (l next n m : ℕ) → next ≡ suc l → n ≡ suc m → break_in_line s l ≡ None → break_from s l n ≡ break_from s next m
past s l next n m e f steady = rw (e, f) (ap (λ o. at_line l o (break_from s (suc l) m)) steady)

pub loop-line-preserved : goal.loop-line-preserved
loop-line-preserved c =
    sym (past c.args.schedule.now c.loop-line.line (c.loop-line.line + 1) (length c.args.schedule.now.lines - c.loop-line.line)
    (length c.args.schedule.now.lines - (c.loop-line.line + 1)) (omega arith)
    (omega (arith, c.loop-line-test.true, c.len-line-end.ensures)) (sym c.break_in_line.ensures ∙ c.in_default.is))
    ∙ c.loop-line.invariant
