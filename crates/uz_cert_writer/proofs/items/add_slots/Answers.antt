use Rattle.uz_cert_writer.proofs.{Common.◌++◌, Common.arith, Common.fact_word, Steps.word_begun, Steps.words_over}
use Rattle.std.proofs.Common.{codes}
use Rattle.uz_cert_writer.proofs.items.add_slots.Goals as goal

pub loop-fact-preserved : goal.loop-fact-preserved
loop-fact-preserved c = word_begun (codes "s:") fact_word c.loop-fact.text.items c.add_word.new.text.items c.add_fact.new.text.items _
    c.args.facts.now c.loop-fact.fact-index c.fact-item.result c.fact-item.result c.loop-fact-test.true c.fact-item.is
    c.in_ok-add_word.ensures c.in_ok-add_fact.ensures c.loop-fact.invariant

pub returns : goal.returns
returns c = words_over (λ f. codes "s:" ++ fact_word f) _ _ c.args.facts.now c.loop-fact.fact-index (omega (arith, c.loop-fact-test.false))
    c.loop-fact.invariant
