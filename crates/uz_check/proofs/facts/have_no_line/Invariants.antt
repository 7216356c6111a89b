use Rattle.uz_check.proofs.Common.{◌≡◌, drop, slice_get, list_all, has_no_line_there}
use Rattle.uz_check.proofs.facts.have_no_line.Given as goal

abbrev pub invariant-each : goal.invariant-each
invariant-each l = list_all (λ id. has_no_line_there (slice_get l.cert.points id)) (drop l.id-index l.ids) ≡ list_all
    (λ id. has_no_line_there (slice_get l.cert.points id)) l.ids
