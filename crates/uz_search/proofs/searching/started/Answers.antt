use Rattle.uz_search.proofs.Common.{ℕ, None, Option, List, [], subst, Instance, Program, Flash, IsTree, ComeFrom, AddsAll}
use Rattle.uz_search.proofs.StepLemmas.{search_begin}
use Rattle.uz_search.proofs.searching.started.Goals as goal

pub returns-in-Ok : goal.returns-in-Ok
returns-in-Ok c = λ image p starts marks returned.
    let items = c.args.starts.items in
    let nodes = c.add_all.new.nodes.keys in
    let parents = c.add_all.new.parents.items in
    search_begin image p items nodes parents c.args.marks.items c.args.returns.items starts
    (subst (λ (ps : List (Option ℕ)). (image : Flash) (p : Program) → IsTree image p [] ps → ComeFrom image p [] None items
    → AddsAll image p [] items nodes parents)
    c.new-2.ensures.items
    (subst (λ (ks : List Instance). (image : Flash) (p : Program) → IsTree image p ks c.new-2.result.items
    → ComeFrom image p ks None items → AddsAll image p ks items nodes parents)
    c.new.ensures.empty c.in-Ok.ensures))
    marks returned
