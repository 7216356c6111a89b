use Rattle.std.proofs.Common.{◌≡◌, arith, false, length, sym, subst}
use Rattle.uz_rules.specs.declared.next.Next.{Next}
use Rattle.uz_search.specs.Following.{Among}
use Rattle.uz_paths.specs.Linking.{pieces_by}
use Rattle.uz_paths.proofs.FewResults.{one_next, ok_or_err}
use Rattle.uz_paths.proofs.LinkLemmas.{none_added, added_within}
use Rattle.uz_paths.proofs.linking.Linking.put_results_of.Goals as goal

pub put_after-requires-clause-line : goal.put_after-requires-clause-line
put_after-requires-clause-line c = (c.requires.linking.searched.stand c.args.at.now c.requires.node).line

pub put_after-requires-clause-clock : goal.put_after-requires-clause-clock
put_after-requires-clause-clock c = (c.requires.linking.searched.stand c.args.at.now c.requires.node).clock

pub put_next-requires-clause-nodes : goal.put_next-requires-clause-nodes
put_next-requires-clause-nodes c = λ on y there. c.requires.linking.searched.closed c.args.at.now y c.put_after.new.next c.requires.node c.in-Ok.ensures.ok
    on there

pub put_next-requires-clause-room : goal.put_next-requires-clause-room
put_next-requires-clause-room c = let few = c.requires.few c.put_after.new.next c.in-Ok.ensures.ok in omega (arith, c.requires.room)

pub returns-in-Ok-clause-more : goal.returns-in-Ok-clause-more
returns-in-Ok-clause-more c =
    added_within c.args.self.now.count (length (pieces_by c.args.self.now c.args.at.now c.put_after.new.next)) c.args.most c.args.successors.now.items c.put_next.new.successors.items
    c.put_next.ensures.more (c.requires.few c.put_after.new.next c.in-Ok.ensures.ok)

pub returns-in-Ok-clause-named : goal.returns-in-Ok-clause-named
returns-in-Ok-clause-named c =
    λ result y after on there.
    let same : c.put_after.new.next ≡ result = one_next c.args.self.now.image.now c.args.self.now.program.now c.args.at.now c.put_after.new.next result
    c.in-Ok.ensures.ok
    after in
    c.put_next.ensures.named (subst (λ (n : Next). n.back ≡ false) (sym same) on) y (subst (λ (n : Next). Among (pieces_by c.args.self.now c.args.at.now n) y) (sym same)
    there)

pub returns-in-Err-clause-more : goal.returns-in-Err-clause-more
returns-in-Err-clause-more c = none_added c.args.self.now.count c.args.most c.args.successors.now.items

pub returns-in-Err-clause-named : goal.returns-in-Err-clause-named
returns-in-Err-clause-named c = λ result y after on there. absurd (ok_or_err c.args.self.now.image.now c.args.self.now.program.now c.args.at.now result _
    after c.in-Err.ensures.err)
