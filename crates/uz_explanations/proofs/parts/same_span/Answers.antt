use Rattle.std.proofs.Common.{◌+◌, ◌*◌, ◌∙◌, ap, nat_eq}
use Rattle.uz_explanations.proofs.PartLemmas.{ends_same}
use Rattle.uz_explanations.proofs.parts.same_span.Goals as goal

pub returns : goal.returns
returns c =
    let a = c.args.a.now in
    let b = c.args.b.now in
    ap (λ n. nat_eq n c.both_ends-2.result) c.both_ends.ensures.is ∙ ap (nat_eq (a.lo + 256 * a.hi)) c.both_ends-2.ensures.is
    ∙ ends_same a.lo a.hi b.lo b.hi c.both_ends.ensures.low c.both_ends-2.ensures.low
