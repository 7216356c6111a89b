use Rattle.std.proofs.Common.{arith}
use Rattle.uz_explanations.specs.Known.{slot_item}
use Rattle.uz_explanations.proofs.PieceLemmas.{slot_put, pieces_over}
use Rattle.uz_explanations.proofs.known.add_slots.Goals as goal

pub loop-val-preserved : goal.loop-val-preserved
loop-val-preserved c = slot_put c.loop-val.text.items c.extend_from_slice.new.self.items c.add_val.new.text.items _ c.args.vals.now
    c.loop-val.val-index c.val-item.result c.loop-val-test.true c.val-item.is c.in_ok-extend_from_slice.ensures.items
    c.in_ok-add_val.ensures c.loop-val.invariant

pub returns : goal.returns
returns c = pieces_over slot_item _ _ c.args.vals.now c.loop-val.val-index (omega (arith, c.loop-val-test.false)) c.loop-val.invariant
