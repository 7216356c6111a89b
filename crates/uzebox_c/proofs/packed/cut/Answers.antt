use Rattle.std.proofs.Common.{length, take, drop, ap, subst, ◌∙◌, ◌<◌, arith}
use Rattle.std.specs.Int.{w64, from_le_bytes}
use Rattle.std.proofs.Math.Facts.{Fits-lt-pow}
use Rattle.uzebox_c.proofs.PackedLaws.{too_few, too_short, whole}
use Rattle.uzebox_c.proofs.packed.cut.Goals as goal

pub returns-in_default-clause-none : goal.returns-in_default-clause-none
returns-in_default-clause-none c text rest e = too_few c.args.bytes.now text rest c.in_default.ensures.cases e

pub returns-then-rest-length-clause-none : goal.returns-then-rest-length-clause-none
returns-then-rest-length-clause-none c text rest e =
    let says = c.from_le_bytes-length.ensures ∙ ap (from_le_bytes w64) c.in-Some.ensures.cases.0 in
    too_short c.args.bytes.now text rest c.from_le_bytes-length.result says
    (subst (λ t. length t < c.from_le_bytes-length.result) c.in-Some.ensures.cases.1 c.if-rest-length.true)
    c.from_le_bytes-length.type_inv e

pub returns-clause-cut : goal.returns-clause-cut
returns-clause-cut c =
    let parts = c.in-Some.ensures.cases in
    let n = c.from_le_bytes-length.result in
    whole c.args.bytes.now c.split_at.result.0.now c.split_at.result.1.now n
    (c.from_le_bytes-length.ensures ∙ ap (from_le_bytes w64) parts.0) (omega (arith, parts.2)) (λ i. Fits-lt-pow (c.type_inv.bytes i))
    (c.split_at.ensures.front ∙ ap (take n) parts.1) (c.split_at.ensures.back ∙ ap (drop n) parts.1) c.split_at.ensures.front_len
