use Rattle.uz_report.proofs.Rounds.{mains_time_tells}
use Rattle.uz_report.proofs.main_time.slacks.Goals as goal

pub returns-clause-worth : goal.returns-clause-worth
returns-clause-worth c =
    let image = c.args.accepted.now.image in
    let cert = c.args.accepted.now.cert in
    let formed = c.cert-cert.ensures.well_formed in
    let accepted = c.cert-cert.ensures.accepted in
    mains_time_tells image cert formed accepted
    (record { inside = c.places_go_on.ensures.inside cert.schedule; events = c.places_go_on.ensures.events cert.schedule })
    (c.soundness.ensures.mains_time image cert formed accepted)
    (c.soundness.ensures.returns image cert (c.soundness.ensures.certified image cert formed accepted))
