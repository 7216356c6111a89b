use Rattle.uz_cert_writer.proofs.Common.{◌++◌, decimal, get_or, refl, arith}
use Rattle.std.proofs.Common.{codes}
use Rattle.uz_cert_writer.proofs.Steps.{word_begun, words_over}
use Rattle.uz_cert_writer.proofs.items.add_successors.Goals as goal

pub loop-id-preserved : goal.loop-id-preserved
loop-id-preserved c = word_begun (codes ">") (λ n. decimal n) c.loop-id.text.items c.add_word.new.text.items c.add_decimal.new.text.items _
    c.args.ids.now c.loop-id.id-index (get_or c.args.ids.now c.loop-id.id-index 0) 0 c.loop-id-test.true refl c.in_ok-add_word.ensures
    c.in_ok-add_decimal.ensures c.loop-id.invariant

pub returns : goal.returns
returns c = words_over (λ n. codes ">" ++ decimal n) _ _ c.args.ids.now c.loop-id.id-index (omega (arith, c.loop-id-test.false))
    c.loop-id.invariant
