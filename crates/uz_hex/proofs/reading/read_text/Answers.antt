use Rattle.std.proofs.Common.{sym, ap, subst, ◌∙◌, inr, arith}
use Rattle.uz_hex.specs.HexText.{trimmed}
use Rattle.uz_hex.specs.Reading.{GivesHex}
use Rattle.uz_hex.proofs.LineSteps.{next_more, next_within, next_ended, next_err, last_told}
use Rattle.uz_hex.proofs.reading.read_text.Goals as goal

pub loop-length-preserved : goal.loop-length-preserved
loop-length-preserved c =
    let l = c.loop-length in
    let cut = c.without_blanks-content.ensures ∙ ap trimmed c.without_return.ensures in
    let within = next_within l.start c.in-Some.length c.args.text.now l.invariant.within c.in-Some.ensures in
    let counted = l.invariant.counted in
    record {
      within = within;
      counted = omega arith;
      same = next_more l.before l.base l.start c.in-Some.length c.in-Ok-More.next l.image c.take_line.new.image c.args.text.now
          c.without_blanks-content.result.now c.in-Ok-More.field-0 c.in-Some.ensures cut c.in-Ok-More.field-0-is c.in-Ok-More.ensures.ok
          ∙ l.invariant.same;
    }

pub returns-in-Ok-Ended : goal.returns-in-Ok-Ended
returns-in-Ok-Ended c =
    let l = c.loop-length in
    let cut = c.without_blanks-content.ensures ∙ ap trimmed c.without_return.ensures in
    (sym l.invariant.same ∙ next_ended l.before l.base l.start c.in-Some.length l.image c.take_line.new.image c.args.text.now
    c.without_blanks-content.result.now c.in-Ok-Ended.field-0 c.in-Some.ensures cut c.in-Ok-Ended.field-0-is c.in-Ok-Ended.ensures.ok)

pub returns-in-Err : goal.returns-in-Err
returns-in-Err c =
    let l = c.loop-length in
    let cut = c.without_blanks-content.ensures ∙ ap trimmed c.without_return.ensures in
    (inr (sym l.invariant.same ∙ next_err l.before l.base l.start c.in-Some.length l.image c.args.text.now
    c.without_blanks-content.result.now c.in-Err.why c.in-Some.ensures cut c.in-Err.ensures.err))

pub returns : goal.returns
returns c =
    let l = c.loop-length in
    subst (λ read. GivesHex c.read_last.result read) (last_told l.before l.base l.start l.image c.args.text.now c.in_default.ensures
    ∙ l.invariant.same) c.read_last.ensures
