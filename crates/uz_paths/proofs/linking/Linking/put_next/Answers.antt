use Rattle.std.proofs.Common.{◌≡◌, ◌∙◌, Bool, false, true, List, ap, arith, length, sym, subst}
use Rattle.uz_schedule.specs.declared.states.Instance.{Instance}
use Rattle.uz_search.specs.Following.{Among}
use Rattle.uz_paths.specs.Linked.{AddsSuccessors}
use Rattle.uz_paths.specs.Linking.{pieces_by}
use Rattle.uz_paths.proofs.LinkLemmas.{none_added}
use Rattle.uz_paths.proofs.linking.Linking.put_next.Goals as goal

pub returns-then-next-clause-more : goal.returns-then-next-clause-more
returns-then-next-clause-more c = none_added c.args.self.now.count (length (pieces_by c.args.self.now c.args.at.now c.args.next.now))
    c.args.successors.now.items

not_both : (b : Bool) → b ≡ true → b ≡ false → ⊥
not_both b on off = cc

pub returns-then-next-clause-named : goal.returns-then-next-clause-named
returns-then-next-clause-named c = λ on y there. absurd (not_both c.args.next.now.back c.if-next.true on)

pub put_all-requires-clause-nodes : goal.put_all-requires-clause-nodes
put_all-requires-clause-nodes c = λ y there. c.requires.nodes c.if-next.false y
    (subst (λ (l : List Instance). Among l y) (c.as_slice.ensures.value ∙ c.put_pieces.ensures.pieces) there)

pub put_all-requires-clause-room : goal.put_all-requires-clause-room
put_all-requires-clause-room c =
    let same = ap length (c.as_slice.ensures.value ∙ c.put_pieces.ensures.pieces) in omega (arith, same, c.requires.room)

pub returns-clause-more : goal.returns-clause-more
returns-clause-more c = subst (λ (l : List Instance). AddsSuccessors c.args.self.now.count (length l) c.args.successors.now.items c.put_all.new.successors.items)
    (c.as_slice.ensures.value ∙ c.put_pieces.ensures.pieces) c.put_all.ensures.more

pub returns-clause-named : goal.returns-clause-named
returns-clause-named c = λ on y there. c.put_all.ensures.named y (subst (λ (l : List Instance). Among l y)
    (sym (c.as_slice.ensures.value ∙ c.put_pieces.ensures.pieces)) there)
