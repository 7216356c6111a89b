use Rattle.uz_certificate_commands.proofs.PairLemmas.{checked_answers, checked_pair, preface_answers}
use Rattle.uz_certificate_commands.proofs.pair_command.prepare.Goals as goal

pub returns-in-Err-clause-gives : goal.returns-in-Err-clause-gives
returns-in-Err-clause-gives g c =
    preface_answers g.T.PairText.text_of _ _ c.args.hex.now c.args.cert.now c.in-Err.failure c.in-Err.ensures.fails

pub returns-clause-gives : goal.returns-clause-gives
returns-clause-gives g c =
    checked_answers g.T.PairText.text_of _ _ c.args.hex.now c.args.cert.now c.in-Ok.checked c.in_ok-ending_of.field-0
    c.in-Ok.ensures.checked c.in_ok-ending_of.ensures.answer

pub returns-clause-worth : goal.returns-clause-worth
returns-clause-worth g c = λ done.
    checked_pair _ c.args.hex.now c.args.cert.now c.in-Ok.checked g.T.PairText.worth c.in-Ok.ensures.checked
    (λ image cert is. c.in_ok-ending_of.ensures.worth image cert is done)
