use Rattle.uz_search.proofs.Common.{◌≤◌, ℕ, subst, ap, ◌∙◌, MarksAll, most_clocks}
use Rattle.uz_search.proofs.Lists.{not_in_main}
use Rattle.uz_search.proofs.SearchingLemmas.{way_from_all}
use Rattle.uz_search.proofs.examination.mark_way.Goals as goal

pub mark_all-requires-clause-there : goal.mark_all-requires-clause-there
mark_all-requires-clause-there c = λ k few.
    let p = c.args.program.now in
    let x = c.args.at.now in
    let most = c.most_clocks-most.ensures.clocks ∙ ap (most_clocks p x) c.as_slice.ensures.value in
    c.requires.there (not_in_main x.kind c.in-Handler.is) k (subst (λ n. k ≤ n) most few)

pub returns-in-Handler : goal.returns-in-Handler
returns-in-Handler c =
    let p = c.args.program.now in
    let x = c.args.at.now in
    let next = c.args.next.now in
    let most = c.most_clocks-most.ensures.clocks ∙ ap (most_clocks p x) c.as_slice.ensures.value in
    way_from_all p x next c.args.marks.now c.mark_all.result c.mark_all.new.marks (not_in_main x.kind c.in-Handler.is)
    (subst (λ (n : ℕ). MarksAll p x n next.emit c.args.marks.now c.mark_all.result c.mark_all.new.marks) most c.mark_all.ensures)
