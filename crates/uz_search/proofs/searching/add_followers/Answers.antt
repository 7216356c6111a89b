use Rattle.uz_search.proofs.Common.{◌<◌, Bool, List, Some, map, if◌then◌else◌, sym, ap, ◌∙◌, subst, flat_map, Flash, Among, entries}
use Rattle.uz_search.proofs.Common.{lines_of, Instance, Program, pieces, widened, AddsAll, ComeFrom, IsTree}
use Rattle.std.specs.Prelude.{OnOk}
use Rattle.uz_search.proofs.searching.add_followers.Goals as goal

pub returns-in_ok-entries-clause-added : goal.returns-in_ok-entries-clause-added
returns-in_ok-entries-clause-added c =
    let s = c.args.found.now in
    let p = c.args.program.now in
    let results = c.args.next.now.out.items in
    subst (λ (follow : List Instance). OnOk c.add_all.result ((image : Flash) (p : Program) → IsTree image p s.nodes.keys s.parents.items
    → ComeFrom image p s.nodes.keys (Some c.args.done) follow
    → AddsAll image p s.nodes.keys follow c.add_all.new.nodes.keys c.add_all.new.parents.items))
    (c.in_ok-entries.ensures ∙ ap (flat_map (entries p)) c.as_slice.ensures.value ∙ sym (ap (λ (b : Bool). if b then flat_map (entries p) results
    else map (widened p) (pieces c.args.split results)) c.if-next.true)) c.add_all.ensures

pub returns-else-next-clause-added : goal.returns-else-next-clause-added
returns-else-next-clause-added c =
    let s = c.args.found.now in
    let p = c.args.program.now in
    let results = c.args.next.now.out.items in
    subst (λ (follow : List Instance). OnOk c.add_widened.result ((image : Flash) (p : Program) → IsTree image p s.nodes.keys s.parents.items
    → ComeFrom image p s.nodes.keys (Some c.args.done) follow
    → AddsAll image p s.nodes.keys follow c.add_widened.new.nodes.keys c.add_widened.new.parents.items))
    (ap (map (widened p)) (c.as_slice-else-next.ensures.value ∙ c.split_results.ensures) ∙ sym (ap (λ (b : Bool). if b then flat_map (entries p) results
    else map (widened p) (pieces c.args.split results)) c.if-next.false)) c.add_widened.ensures

pub entries_after-requires-clause-each : goal.entries_after-requires-clause-each
entries_after-requires-clause-each c =
    subst (λ (l : List Instance). (x : Instance) → Among l x → x.line < lines_of c.args.program.now) (sym c.as_slice.ensures.value)
    (c.requires.each c.if-next.true)
