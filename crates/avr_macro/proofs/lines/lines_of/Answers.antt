use Rattle.std.proofs.Common.{◌∙◌, ◌+◌, ◌++◌, ap, drop}
use Rattle.avr_macro.specs.Lines.{lines_from}
use Rattle.avr_macro.proofs.TextLines.{few_ended, few_longer, last_told, line_ended, line_longer, none_told}
use Rattle.avr_macro.proofs.lines.lines_of.Goals.{then-byte-eq10+in_ok-lines, else-byte-eq10+in_ok-push}
use Rattle.avr_macro.proofs.lines.lines_of.Goals.{then-len-gt0+in_ok-lines-2, else-len-gt0}
use Rattle.avr_macro.proofs.lines.lines_of.Goals as goal

pub loop-byte-preserved : goal.loop-byte-preserved
loop-byte-preserved c = record {
  left = elim c.if-byte-eq10.branch [
    | then-byte-eq10+in_ok-lines w ↦
        line_ended _ _ _ _ _ _ _ _ c.loop-byte-test.true w.if-byte-eq10.true w.cut_return.ensures
        w.as_slice.ensures.value (w.lines-is ∙ w.in_ok-lines.ensures) (ap (λ l. l.items) w.line-is ∙ w.clear.ensures.items)
        ∙ c.loop-byte.invariant.left
    | else-byte-eq10+in_ok-push w ↦
        ap (λ l. l ++ lines_from c.if-byte-eq10.line.items (drop (c.loop-byte.byte-index + 1) c.args.text.now)) w.lines-is
        ∙ line_longer _ _ _ _ _ c.loop-byte-test.true w.if-byte-eq10.false (ap (λ l. l.items) w.line-is ∙ w.in_ok-push.ensures.items)
        ∙ c.loop-byte.invariant.left
  ];
  few = elim c.if-byte-eq10.branch [
    | then-byte-eq10+in_ok-lines w ↦
        few_ended _ _ _ _ _ _ c.loop-byte.invariant.few (w.lines-is ∙ w.in_ok-lines.ensures)
        (ap (λ l. l.items) w.line-is ∙ w.clear.ensures.items)
    | else-byte-eq10+in_ok-push w ↦
        few_longer _ _ _ _ _ _ c.loop-byte.invariant.few w.lines-is (ap (λ l. l.items) w.line-is ∙ w.in_ok-push.ensures.items)
  ];
}

pub returns-clause-lines : goal.returns-clause-lines
returns-clause-lines c =
    elim c.if-len-gt0.branch [
      | then-len-gt0+in_ok-lines-2 w ↦
          last_told _ _ _ _ _ _ _ c.loop-byte-test.false (c.len.ensures ∙ c.loop-byte.line.ok.0) w.if-len-gt0.true
          w.as_slice-then-len-gt0.ensures.value (w.lines-is ∙ w.in_ok-lines-2.ensures) ∙ c.loop-byte.invariant.left
      | else-len-gt0 w ↦
          w.lines-is ∙ none_told _ _ _ _ _ c.loop-byte-test.false (c.len.ensures ∙ c.loop-byte.line.ok.0) w.if-len-gt0.false
          ∙ c.loop-byte.invariant.left
    ]
