use Rattle.uz_cert_writer.proofs.{Common.arith, Steps.register_added, Steps.registers_over}
use Rattle.uz_cert_writer.proofs.items.add_registers.Goals as goal

pub loop-register-preserved : goal.loop-register-preserved
loop-register-preserved c = register_added c.loop-register.text.items c.add_register.new.text.items _ c.args.kind c.args.facts.now
    c.loop-register.register c.index-facts-register.result c.loop-register-test.true c.index-facts-register.is
    c.in_ok-add_register.ensures c.loop-register.invariant

pub returns : goal.returns
returns c = registers_over _ _ c.args.kind c.args.facts.now c.loop-register.register (omega (arith, c.loop-register-test.false))
    c.loop-register.invariant
