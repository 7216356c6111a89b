use Rattle.std.proofs.Common.{◌≡◌, ◌+◌, ◌∷◌, List, ap, drop, get_or, length, refl, subst, sym, arith}
use Rattle.std.proofs.lemmas.List.{drop_more}
use Rattle.uz_core.specs.declared.machine.Edge.{Edge}
use Rattle.uz_core.specs.declared.machine.EdgeKind.TheVariants.{Sync}
use Rattle.uz_player.proofs.PlayLaws.{scans_one}
use Rattle.uz_player.proofs.play.Play.scan_next.Goals as goal

-- what is read past the end, where nothing is read
abbrev no_edge : Edge
no_edge = record { clock = 0; kind = Sync 0 }

pub returns : goal.returns
returns c =
    let old = c.args.self.now in
    let edge = get_or c.deref.result.now old.next no_edge in
    let left = subst (λ (xs : List Edge). drop old.next old.edges.items ≡ get_or xs old.next no_edge ∷ drop (old.next + 1) old.edges.items)
    (sym c.deref.ensures.0) (drop_more old.edges.items old.next no_edge c.requires) in
    let new = record old { scanner = c.scan.new.scanner; next = old.next + 1 } in
    let size = ap (λ (es : List Edge). length es) left in
    record { goes = scans_one old new edge c.scan.result refl left c.scan.ensures.scans; end = c.scan.ensures.end; clock = refl; fewer = omega (arith, size) }
