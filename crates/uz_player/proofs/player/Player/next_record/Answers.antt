use Rattle.std.proofs.Common.{[], ◌≡◌, ◌+◌, ◌<◌, ◌∙◌, ◌∷◌, List, None, Some, append-nil, ap, drop, get_or, length, sym, subst, refl, arith}
use Rattle.std.proofs.lemmas.List.{drop_more}
use Rattle.uz_core.specs.declared.machine.Edge.{Edge}
use Rattle.uz_core.specs.declared.machine.EdgeKind.TheVariants.{Sync}
use Rattle.uz_player.specs.Playing.{Plays}
use Rattle.uz_player.proofs.PlayerLaws.{record_comes, takes_edge}
use Rattle.uz_player.proofs.player.Player.next_record.Goals as goal

-- what is read past the end, where nothing is read
abbrev no_edge : Edge
no_edge = record { clock = 0; kind = Sync 0 }

pub returns-in-Some-clause-record : goal.returns-in-Some-clause-record
returns-in-Some-clause-record c =
    let old = c.loop-self.self in
    let within : old.next < length old.page.items = omega arith in
    let left = subst (λ (xs : List Edge). drop old.next old.page.items ≡ get_or xs old.next no_edge ∷ drop (old.next + 1) old.page.items)
    (sym c.deref.ensures.0) (drop_more old.page.items old.next no_edge within) in
    record_comes c.args.self.now _ c.in-Some.record
    (λ start handed row plays same. takes_edge old _ (get_or c.deref.result.now old.next no_edge) (Some c.in-Some.record) start handed row
    refl refl refl c.in-Some.ensures.entered left c.in-Some.ensures.takes same (c.loop-self.invariant.plays start handed plays))

pub returns-in-Some-clause-nearer : goal.returns-in-Some-clause-nearer
returns-in-Some-clause-nearer c =
    let old = c.loop-self.self in
    let within : old.next < length old.page.items = omega arith in
    let size = ap (λ (es : List Edge). length es) (drop_more old.page.items old.next no_edge within) in
    omega (arith, size, c.loop-self.invariant.nearer)

pub loop-self-preserved : goal.loop-self-preserved
loop-self-preserved c =
    let old = c.loop-self.self in
    let within : old.next < length old.page.items = omega arith in
    let left = subst (λ (xs : List Edge). drop old.next old.page.items ≡ get_or xs old.next no_edge ∷ drop (old.next + 1) old.page.items)
    (sym c.deref.ensures.0) (drop_more old.page.items old.next no_edge within) in
    let size = ap (λ (es : List Edge). length es) left in
    record {
      plays = λ start handed plays. subst (Plays _ start) (append-nil handed) (takes_edge old _ (get_or c.deref.result.now old.next no_edge)
          None start handed [] refl refl refl c.in_default.ensures.entered left c.in_default.ensures.takes (λ edges seen. refl)
          (c.loop-self.invariant.plays start handed plays));
      nearer = omega (arith, size, c.loop-self.invariant.nearer);
      console = c.loop-self.invariant.console;
      limit = c.loop-self.invariant.limit;
      cert = c.loop-self.invariant.cert;
      entered = c.in_default.ensures.entered ∙ c.loop-self.invariant.entered;
    }
