use Rattle.std.proofs.Common.{◌-◌, ◌<◌, ◌≤◌, length, refl, sym, ◌∙◌, ap, reverse, arith}
use Rattle.std.specs.Option.{option_copied}
use Rattle.avr_macro.specs.AtSigns.{filled}
use Rattle.avr_macro.proofs.BlockEnds.{closed_more, none_closed, none_open, open_more}
use Rattle.avr_macro.proofs.Filled.{filled_length, filled_line}
use Rattle.avr_macro.proofs.ends.blocks_of.Goals as goal

pub loop-n-init : goal.loop-n-init
loop-n-init c =
    let s = option_copied c.args.substitution in
    let all = c.count-n.ensures ∙ sym (filled_length _ _) in
    record {
      within = omega (arith, c.count-n.ensures);
      open_ends = ap reverse c.new-pending.ensures.items ∙ none_open _ _ _ _ all;
      closed = ap reverse c.new-blocks.ensures.items ∙ none_closed _ _ _ _ all;
    }

pub loop-n-preserved : goal.loop-n-preserved
loop-n-preserved c =
    let s = option_copied c.args.substitution in
    let within : c.loop-n.n ≤ length (filled s c.args.lines.now) =
    omega (arith, c.loop-n.invariant.within, filled_length s c.args.lines.now) in
    let here : c.loop-n.n - 1 < length c.args.lines.now = omega (arith, c.loop-n.invariant.within, c.loop-n-test.true) in
    let made = filled_line _ _ _ _ here c.line.ensures in
    record {
      within = omega (arith, c.loop-n.invariant.within);
      open_ends =
          open_more _ _ _ _ _ _ _ _ _ c.loop-n-test.true within refl
          made c.in_ok-word.ensures c.loop-n.invariant.open_ends c.in_ok-pending.ensures;
      closed =
          closed_more _ _ _ _ _ _ _ _ _ _ c.loop-n-test.true within refl made c.in_ok-word.ensures
          (ap reverse c.as_slice.ensures.value ∙ c.loop-n.invariant.open_ends) c.loop-n.invariant.closed c.in_ok-blocks.ensures;
    }
