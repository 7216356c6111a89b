use Rattle.uz_cert_writer.proofs.{Common.decimal, Common.get_or, Common.refl, Common.arith, Steps.word_put, Steps.words_over}
use Rattle.uz_cert_writer.proofs.words.add_numbers.Goals as goal

pub loop-number-preserved : goal.loop-number-preserved
loop-number-preserved c = word_put (λ n. decimal n) c.loop-number.text.items c.add_number.new.text.items _ c.args.numbers.now
    c.loop-number.number-index (get_or c.args.numbers.now c.loop-number.number-index 0) 0 c.loop-number-test.true refl
    c.in_ok-add_number.ensures c.loop-number.invariant

pub returns : goal.returns
returns c = words_over (λ n. decimal n) _ _ c.args.numbers.now c.loop-number.number-index (omega (arith, c.loop-number-test.false))
    c.loop-number.invariant
