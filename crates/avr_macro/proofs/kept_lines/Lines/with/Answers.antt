use Rattle.std.proofs.Common.{length, ap, arith, length-append}
use Rattle.avr_macro.proofs.Kept.{line_added, rise_added}
use Rattle.avr_macro.proofs.kept_lines.Lines.with.Goals as goal

pub invariant_of-lines : goal.invariant_of-lines
invariant_of-lines c = (
  rise_added _ _ _ _ _ _ c.lines.invariant.0 c.in_ok-extend_from_slice.ensures.items (ap length c.as_slice.ensures.value)
      c.in_ok-push.ensures.items,
  omega (arith, ap length c.in_ok-extend_from_slice.ensures.items, length-append c.lines.inside.text.items c.args.line.now),
)

pub returns : goal.returns
returns c = line_added _ _ _ _ _ _ _ c.lines.invariant.0 c.lines.view_is c.in_ok-extend_from_slice.ensures.items
    (ap length c.as_slice.ensures.value) c.in_ok-push.ensures.items
