use Rattle.std.proofs.Common.{subst}
use Rattle.std.specs.Prelude.{IfSome}
use Rattle.uz_paths.specs.JoinedParts.{AreJoinedOf}
use Rattle.uz_paths.proofs.JoinedLemmas.{found_ok, said_ok}
use Rattle.uz_paths.proofs.joined.joined_certificate.Goals as goal

pub returns-in-Ok-Some-clause-found : goal.returns-in-Ok-Some-clause-found
returns-in-Ok-Some-clause-found c =
    let made = subst (λ o. IfSome o (AreJoinedOf c.args.program c.args.entry.now c.args.found.now)) c.in-Ok-Some.field-0-is
    c.in-Ok-Some.ensures in
    found_ok c.args.image.now c.args.program c.args.entry.now c.args.found.now c.in-Ok-Some.parts c.choose.result c.choose.ensures.cert made
    c.requires.ended
    (λ x among. c.nodes_are_reached.ensures.on_trail c.args.image.now c.args.program c.args.found.now x c.requires.ended among)

pub returns-in-Ok-Some-clause-said : goal.returns-in-Ok-Some-clause-said
returns-in-Ok-Some-clause-said c =
    let made = subst (λ o. IfSome o (AreJoinedOf c.args.program c.args.entry.now c.args.found.now)) c.in-Ok-Some.field-0-is
    c.in-Ok-Some.ensures in
    said_ok c.args.program c.args.found.now.nodes.keys c.in-Ok-Some.parts c.choose.result c.choose.ensures.cert made.said
