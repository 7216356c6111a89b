use Rattle.std.proofs.Common.{arith}
use Rattle.uz_explanations.specs.Known.{register_item}
use Rattle.uz_explanations.proofs.PieceLemmas.{piece_put, pieces_over}
use Rattle.uz_explanations.proofs.known.add_registers.Goals as goal

pub loop-register-preserved : goal.loop-register-preserved
loop-register-preserved c = piece_put (register_item c.args.e) c.loop-register.text.items c.add_register.new.text.items _ c.args.vals.now c.loop-register.register
    c.index-vals-register.result c.index-vals-register.result c.loop-register-test.true c.index-vals-register.is c.in_ok-add_register.ensures c.loop-register.invariant

pub returns : goal.returns
returns c = pieces_over (register_item c.args.e) _ _ c.args.vals.now c.loop-register.register (omega (arith, c.loop-register-test.false)) c.loop-register.invariant
