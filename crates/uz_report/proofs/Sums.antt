-- One gap after each rest: the sums.
use Rattle.std.proofs.Common.{All, ◌+◌, ◌*◌, ◌≤◌, List, [], ◌∷◌, length, map, ◌∙◌, ap, arith}
use Rattle.std.specs.List.{sum_by}
use Rattle.std.proofs.lemmas.List.{length-append}
use Rattle.std.proofs.lemmas.List.Elements.{All-head, All-tail}
use Rattle.std.proofs.lemmas.List.Sums.{sum_by-append, sum_by-cons}
use Rattle.uz_schedule.specs.declared.states.Rest.{Rest}
use Rattle.uz_schedule.specs.declared.certificate.Cert.{Cert}
use Rattle.uz_report.specs.Slacks.{frame_least, frame_most, least_after}
use Rattle.uz_report.specs.MainsTime.{AreInFrameOrder, Gap, IsWithin, clocks_of}

abbrev pub rest_of : Gap → Rest
rest_of gap = gap.rest

-- between the rests' sum and 3 more for each
between : (cert : Cert) (gaps : List Gap) → All (λ (g : Gap). IsWithin cert g.rest (clocks_of g)) gaps
    → (sum_by (least_after cert.schedule) (map rest_of gaps) ≤ sum_by clocks_of gaps)
    × (sum_by clocks_of gaps ≤ sum_by (least_after cert.schedule) (map rest_of gaps) + 3 * length (map rest_of gaps))
between cert [] h = (omega arith, omega arith)
between cert (g ∷ gaps) h =
    let here : IsWithin cert g.rest (clocks_of g) = All-head (λ (x : Gap). IsWithin cert x.rest (clocks_of x)) g gaps h in
    let rest = between cert gaps (All-tail (λ (x : Gap). IsWithin cert x.rest (clocks_of x)) g gaps h) in
    let least = sum_by-cons (least_after cert.schedule) g.rest (map rest_of gaps) in
    let clocks = sum_by-cons clocks_of g gaps in
    (omega (arith, least, clocks, here.0, rest.0), omega (arith, least, clocks, here.1, rest.1))

pub frame_sums : (cert : Cert) (gaps : List Gap) → AreInFrameOrder cert.rests (map rest_of gaps)
    → All (λ (g : Gap). IsWithin cert g.rest (clocks_of g)) gaps
    → (frame_least cert ≤ sum_by clocks_of gaps) × (sum_by clocks_of gaps ≤ frame_most cert)
frame_sums cert gaps order h =
    let sums = between cert gaps h in
    let least = least_after cert.schedule in
    let turned = ap (sum_by least) order.is ∙ sum_by-append least order.later order.earlier in
    let whole = ap (sum_by least) order.cut ∙ sum_by-append least order.earlier order.later in
    let many = ap length order.is ∙ length-append order.later order.earlier in
    let all = ap length order.cut ∙ length-append order.earlier order.later in
    (omega (arith, sums.0, turned, whole), omega (arith, sums.1, turned, whole, many, all))
