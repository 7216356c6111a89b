use Rattle.std.proofs.Common.{◌∙◌, sym, arith}
use Rattle.avr_asm.proofs.MappedLines.{labels_more, labels_end}
use Rattle.avr_asm.proofs.source_maps.placed_labels.Goals as goal

pub loop-i-preserved : goal.loop-i-preserved
loop-i-preserved c = labels_more _ _ _ _ _ _ c.loop-i-test.true c.requires.same c.in_ok-put_label.ensures ∙ c.loop-i.invariant

pub returns : goal.returns
returns c = sym (labels_end c.loop-i.labels.items c.args.lines.now c.args.addresses.now c.loop-i.i (omega arith)) ∙ c.loop-i.invariant
