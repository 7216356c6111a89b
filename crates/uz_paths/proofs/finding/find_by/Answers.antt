use Rattle.std.proofs.Common.{subst, sym}
use Rattle.uz_paths.specs.Certificate.{IsEntry, ReturnsFromMain}
use Rattle.uz_paths.specs.Finding.{IsFoundBy}
use Rattle.uz_schedule.specs.WellFormed.{WellFormed}
use Rattle.uz_search.specs.Fitting.{ProgramFits}
use Rattle.uz_search.specs.Searching.{IsEnded}
use Rattle.uz_check.specs.Acceptance.{Accepts}
use Rattle.uz_paths.proofs.FindLemmas.{some_both}
use Rattle.uz_paths.proofs.JoinedLemmas.{some_found_joined}
use Rattle.uz_paths.proofs.finding.find_by.Goals as goal

pub returns-in_ok-cert-in-Err-joined_certificate-clause-found : goal.returns-in_ok-cert-in-Err-joined_certificate-clause-found
returns-in_ok-cert-in-Err-joined_certificate-clause-found c =
    let made = c.in_ok-cert-in-Err-joined_certificate in
    let found = subst (λ p. IsFoundBy c.args.image.now p c.args.entry made.cert) c.in-Err-joined_certificate.ensures.same made.ensures.found in
    some_found_joined c.args.image.now c.args.program c.args.entry made.cert c.joined_from.result c.joined_from.ensures.same found

pub certificate-requires-in-Err-joined_certificate-clause-returns : goal.certificate-requires-in-Err-joined_certificate-clause-returns
certificate-requires-in-Err-joined_certificate-clause-returns c =
    subst (λ p. ReturnsFromMain p c.in-Ok.found) (sym c.in-Err-joined_certificate.ensures.same) c.in-Ok.ensures.returns

pub certificate-requires-in-Err-joined_certificate-clause-fits : goal.certificate-requires-in-Err-joined_certificate-clause-fits
certificate-requires-in-Err-joined_certificate-clause-fits c = subst ProgramFits (sym c.in-Err-joined_certificate.ensures.same) c.requires.fits

pub certificate-requires-in-Err-joined_certificate-clause-start : goal.certificate-requires-in-Err-joined_certificate-clause-start
certificate-requires-in-Err-joined_certificate-clause-start c =
    subst (λ p. IsEntry p c.args.entry) (sym c.in-Err-joined_certificate.ensures.same) c.requires.start

pub certificate-requires-in-Err-joined_certificate-clause-ended : goal.certificate-requires-in-Err-joined_certificate-clause-ended
certificate-requires-in-Err-joined_certificate-clause-ended c =
    subst (λ p. IsEnded c.args.image.now p c.in-Ok.found) (sym c.in-Err-joined_certificate.ensures.same) c.in-Ok.ensures.ended

pub returns-in-Ok-joined_certificate-clause-accepted : goal.returns-in-Ok-joined_certificate-clause-accepted
returns-in-Ok-joined_certificate-clause-accepted c =
    (c.in-Ok-joined_certificate.ensures.fits, c.in-Ok-joined_certificate.ensures.accepted)

pub returns-in-Ok-joined_certificate-clause-found : goal.returns-in-Ok-joined_certificate-clause-found
returns-in-Ok-joined_certificate-clause-found c = c.in-Ok-joined_certificate.ensures.found

pub returns-then-joining-eq1-clause-accepted : goal.returns-then-joining-eq1-clause-accepted
returns-then-joining-eq1-clause-accepted c = (c.in_ok-certificate.ensures.fits, c.in_ok-certificate.ensures.accepted)

pub returns-then-joining-eq1-clause-found : goal.returns-then-joining-eq1-clause-found
returns-then-joining-eq1-clause-found c = c.in_ok-certificate.ensures.found

pub returns-in_ok-cert-in-Err-joined_certificate-clause-accepted : goal.returns-in_ok-cert-in-Err-joined_certificate-clause-accepted
returns-in_ok-cert-in-Err-joined_certificate-clause-accepted c =
    some_both WellFormed (Accepts c.args.image.now) c.joined_from.result c.joined_from.ensures.fits c.joined_from.ensures.accepted

pub joined_from-requires-clause-accepted : goal.joined_from-requires-clause-accepted
joined_from-requires-clause-accepted c = c.in_ok-cert-in-Err-joined_certificate.ensures.accepted
