use Rattle.std.proofs.Common.{◌+◌, ◌++◌, ◌∙◌, ap, sym, arith, ℕ, List, Bor, drop, map}
use Rattle.avr_asm.specs.SourceMap.{hint_lines_from}
use Rattle.avr_asm.proofs.MappedLines.{hints_one, hints_none, hints_end}
use Rattle.avr_asm.proofs.source_maps.hint_lines_of.Goals as goal
use Rattle.avr_asm.proofs.source_maps.hint_lines_of.Goals.{then-branch+in_ok-push, else-branch}

pub loop-i-preserved : goal.loop-i-preserved
loop-i-preserved c = elim c.if-branch.branch [
  | then-branch+in_ok-push w ↦
      hints_one _ _ _ _ _ _
      c.loop-i-test.true c.in_ok-is_hint_line.ensures w.if-branch.true (ap (λ v. v.items) w.numbers-is ∙ w.in_ok-push.ensures.items)
      ∙ c.loop-i.invariant
  | else-branch w ↦
      ap (λ v. v.items ++ hint_lines_from (c.loop-i.i + 1 + 1) (drop (c.loop-i.i + 1) (map (λ (l : Bor (List ℕ)). l.now) c.args.lines.now)))
      w.numbers-is ∙ hints_none _ _ _ _ _ c.loop-i-test.true c.in_ok-is_hint_line.ensures w.if-branch.false ∙ c.loop-i.invariant
]

pub returns : goal.returns
returns c = sym (hints_end c.loop-i.numbers.items (c.loop-i.i + 1) c.args.lines.now c.loop-i.i (omega arith)) ∙ c.loop-i.invariant
