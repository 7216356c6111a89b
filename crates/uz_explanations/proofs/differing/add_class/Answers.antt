use Rattle.std.proofs.Common.{◌∙◌, ap, arith, sym}
use Rattle.std.specs.Prelude.{vec_len}
use Rattle.uz_explanations.proofs.Lines.{parts_more, parts_none}
use Rattle.uz_explanations.proofs.SeenLemmas.{count_of_part, text_of_all}
use Rattle.uz_explanations.proofs.differing.add_class.Goals as goal

pub loop-number-init : goal.loop-number-init
loop-number-init g c all n are = parts_none c.args.text.now.items c.args.class all

pub loop-number-preserved : goal.loop-number-preserved
loop-number-preserved g c all n are = parts_more c.args.text.now.items c.loop-number.text.items c.add_part.new.text.items c.args.class
    c.loop-number.number _ all (c.loop-number.invariant all n are)
    (count_of_part g.T.Said.value c.args.class n c.loop-number.number c.args.seen.now all c.index-seen-number.result _ are
    c.loop-number-test.true c.index-seen-number.is (c.len.ensures ∙ ap (λ s. vec_len s.values) (sym c.index-seen-number.is) ∙ c.index-seen-number.result.values.ok.0)) c.in_ok-add_part.ensures

pub returns : goal.returns
returns g c all n are = text_of_all g.T.Said.value c.args.class n c.loop-number.number _ _ all c.args.seen.now are
    (omega (arith, c.loop-number-test.false)) (c.loop-number.invariant all n are)
