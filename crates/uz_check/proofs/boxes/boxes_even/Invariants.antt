use Rattle.uz_check.proofs.Common.{◌≡◌, drop, slice_get, list_all, is_even}
use Rattle.uz_check.proofs.boxes.boxes_even.Given as goal

abbrev pub invariant-each : goal.invariant-each
invariant-each l = list_all (λ id. is_even l.cert.schedule l.line (slice_get l.cert.points id)) (drop l.id-index l.point.next.items)
    ≡ list_all (λ id. is_even l.cert.schedule l.line (slice_get l.cert.points id)) l.point.next.items
