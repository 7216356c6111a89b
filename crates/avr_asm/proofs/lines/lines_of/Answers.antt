use Rattle.std.proofs.Common.{◌∙◌, sym, ap, take, arith}
use Rattle.avr_asm.specs.Lines.{first_len}
use Rattle.avr_asm.proofs.LineLemmas.{cut_line, no_more_lines}
use Rattle.avr_asm.proofs.lines.lines_of.Goals as goal

pub loop-start-preserved : goal.loop-start-preserved
loop-start-preserved c = record {
  within = omega (arith, c.first_line_len-len.ensures.within, c.split_at.ensures.back_len);
  left =
      cut_line _ _ _ _ _ _ c.loop-start-test.true (c.first_line_len-len.ensures.len ∙ ap first_len c.split_at.ensures.back)
      (c.split_at-in-loop-start.ensures.front ∙ ap (take c.first_line_len-len.result) c.split_at.ensures.back) c.in_ok-push.ensures.items
      ∙ c.loop-start.invariant.left;
}

pub returns : goal.returns
returns c = sym (no_more_lines c.args.text.now c.loop-start.start c.loop-start.lines.items (omega arith)) ∙ c.loop-start.invariant.left
