use Rattle.uz_search.proofs.Common.{◌≡◌, ℕ, Option, ◌<◌, ◌+◌, ◌++◌, length, slice_get, take, drop, Some, Err, refl, sym, subst, ap, ◌∙◌}
use Rattle.uz_search.proofs.Common.{Program, Flash, followers_of, AddsAll, ComeFrom, IsTree, AreMarked, IsSearch, StopHolds}
use Rattle.uz_search.specs.Following.{followers_by}
use Rattle.uz_search.proofs.OneResult.{steps}
use Rattle.uz_search.proofs.Results.{stands_next}
use Rattle.uz_search.proofs.Standing.{stands_all}
use Rattle.uz_search.proofs.StepLemmas.{search_step, stop_holds, split_within}
use Rattle.uz_search.proofs.searching.step.Goals as goal

pub returns-in-Err-clause-refusal : goal.returns-in-Err-clause-refusal
returns-in-Err-clause-refusal c = λ limit.
    let image = c.args.image.now in
    let program = c.args.program.now in
    let s = c.args.found.now in
    let x = c.node_at-at.result.now in
    let at : slice_get s.nodes.keys c.args.done ≡ Some x = ap (λ l. slice_get l c.args.done) (sym c.as_slice-nodes.ensures.keys)
    ∙ c.node_at-at.ensures in
    let keys = c.as_slice.ensures.keys in
    let parents = c.as_slice-in-Err.ensures.value in
    let tree = subst (λ k. IsTree image program k c.as_slice-in-Err.result.now) (sym keys)
    (subst (λ p. IsTree image program s.nodes.keys p) (sym parents) c.requires.so_far.tree) in
    let holds = stop_holds image program s.nodes.keys c.as_slice-nodes.result.now s.parents.items s.marks.items s.returns.items
    c.as_mut_slice-2.result.now c.args.done x c.in-Err.stop
    c.requires.so_far c.as_slice-nodes.ensures.keys c.as_mut_slice-2.ensures.value c.in-Err.ensures.stuck c.in-Err.ensures.split in
    c.refused.ensures image program limit x tree (ap (λ l. slice_get l c.args.done) keys ∙ at)
    (subst (λ k. StopHolds image program k x c.in-Err.stop) (sym keys) holds)

pub returns-in_ok-add_followers-in-Ok-clause-ok : goal.returns-in_ok-add_followers-in-Ok-clause-ok
returns-in_ok-add_followers-in-Ok-clause-ok c =
    let image = c.args.image.now in
    let program = c.args.program.now in
    let s = c.args.found.now in
    let new = c.add_followers.new.found in
    let x = c.node_at-at.result.now in
    let at : slice_get s.nodes.keys c.args.done ≡ Some x = ap (λ l. slice_get l c.args.done) (sym c.as_slice-nodes.ensures.keys)
    ∙ c.node_at-at.ensures in
    subst (λ m. IsSearch image program new.nodes.keys new.parents.items m.items new.returns.items (c.args.done + 1))
    (sym c.add_followers.ensures.marks)
    (subst (λ r. IsSearch image program new.nodes.keys new.parents.items
    (take s.marks.len (c.examine.new.marks ++ drop (length c.examine.new.marks) s.marks.items)) r.items (c.args.done + 1))
    (sym c.add_followers.ensures.returns)
    (search_step image program s.nodes.keys new.nodes.keys s.parents.items new.parents.items
    s.marks.items c.as_mut_slice.result.now c.examine.new.marks s.returns.items c.as_mut_slice-2.result.now c.examine.new.returns
    s.marks.len s.returns.len c.args.done x c.examine.new.next (followers_of program x c.examine.new.next)
    c.requires.so_far at c.as_mut_slice.ensures.value c.as_mut_slice-2.ensures.value c.in-Ok.ensures.ok
    c.examine.auto.marks c.examine.auto.returns s.marks.ok.0 s.returns.ok.0 refl (subst (λ (o : Option ℕ).
    (image : Flash) (p : Program) → IsTree image p s.nodes.keys s.parents.items
    → ComeFrom image p s.nodes.keys (Some c.args.done) (followers_by program o c.examine.new.next)
    → AddsAll image p s.nodes.keys (followers_by program o c.examine.new.next) new.nodes.keys new.parents.items)
    c.split_at-split.ensures c.in_ok-add_followers-in-Ok.ensures.added)))

pub examine-requires-clause-stands : goal.examine-requires-clause-stands
examine-requires-clause-stands c = λ x there.
    let s = c.args.found.now in
    stands_all c.args.image.now c.args.program.now s.nodes.keys s.parents.items c.requires.fits c.requires.so_far.tree x
    (there.0, ap (λ l. slice_get l there.0) (sym c.as_slice-nodes.ensures.keys) ∙ there.1)

pub examine-requires-clause-marked : goal.examine-requires-clause-marked
examine-requires-clause-marked c =
    let image = c.args.image.now in
    let program = c.args.program.now in
    let s = c.args.found.now in
    subst (λ l. AreMarked image program l c.as_mut_slice.result.now c.args.done) (sym c.as_slice-nodes.ensures.keys)
    (subst (λ m. AreMarked image program s.nodes.keys m c.args.done) (sym c.as_mut_slice.ensures.value) c.requires.so_far.marked)

pub refused-requires-clause-other : goal.refused-requires-clause-other
refused-requires-clause-other c = λ other is.
    let image = c.args.image.now in
    let program = c.args.program.now in
    let s = c.args.found.now in
    let x = c.node_at-at.result.now in
    subst (λ k. other < length k) (sym c.as_slice.ensures.keys)
    (split_within image program s.nodes.keys c.as_slice-nodes.result.now s.parents.items s.marks.items s.returns.items
    c.as_mut_slice-2.result.now c.args.done other x
    c.requires.so_far c.as_slice-nodes.ensures.keys c.as_mut_slice-2.ensures.value (c.in-Err.ensures.split other (λ i. Err (is i))))

pub add_followers-requires-clause-each : goal.add_followers-requires-clause-each
add_followers-requires-clause-each c = λ back y there.
    let image = c.args.image.now in
    let program = c.args.program.now in
    let s = c.args.found.now in
    let x = c.node_at-at.result.now in
    let next = c.examine.new.next in
    let stands = stands_all image program s.nodes.keys s.parents.items c.requires.fits c.requires.so_far.tree x
    (c.args.done, ap (λ l. slice_get l c.args.done) (sym c.as_slice-nodes.ensures.keys) ∙ c.node_at-at.ensures) in
    (stands_next image program c.requires.fits x stands next (steps image program x next c.in-Ok.ensures.ok.after) y there).line
