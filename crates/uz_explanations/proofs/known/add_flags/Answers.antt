use Rattle.std.proofs.Common.{arith, refl}
use Rattle.uz_explanations.specs.Known.{flag_item}
use Rattle.uz_explanations.proofs.PieceLemmas.{piece_put, pieces_over}
use Rattle.uz_explanations.proofs.known.add_flags.Goals as goal

pub loop-b-preserved : goal.loop-b-preserved
loop-b-preserved c = piece_put (flag_item c.args.e) c.loop-b.text.items c.add_flag.new.text.items _ c.args.bits.now c.loop-b.b _ _
    c.loop-b-test.true refl c.in_ok-add_flag.ensures c.loop-b.invariant

pub returns : goal.returns
returns c = pieces_over (flag_item c.args.e) _ _ c.args.bits.now c.loop-b.b (omega (arith, c.loop-b-test.false)) c.loop-b.invariant
