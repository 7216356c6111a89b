use Rattle.uz_search.proofs.Common.{◌≡◌, ℕ, ◌<◌, ◌+◌, List, Option, Some, map, take, get_or, length, slice_get, refl, sym, ap, ◌∙◌, subst}
use Rattle.uz_search.proofs.Common.{arith, Flash, Instance, Program, slice_get_read, widened, length-take-le, Adds, AddsAll, ComeFrom}
use Rattle.std.proofs.lemmas.List.{length-map, take_all}
use Rattle.uz_search.proofs.Lists.{in_map, map_next}
use Rattle.uz_search.proofs.VisitingLemmas.{adds_more}
use Rattle.uz_search.proofs.visited.add_widened.Goals as goal

-- one more of a list is added as what a function makes of it
mapped_more : (image : Flash) (p : Program) (nodes0 : List Instance) (parent : Option ℕ) (f : Instance → Instance) (xs : List Instance)
    (i : ℕ) (x y : Instance) (nodes : List Instance) (parents : List (Option ℕ)) (nodes' : List Instance) (parents' : List (Option ℕ))
    → i < length xs → x ≡ get_or xs i x → y ≡ f x → ComeFrom image p nodes0 parent (map f xs)
    → AddsAll image p nodes0 (map f (take i xs)) nodes parents → Adds nodes parents y parent nodes' parents'
    → AddsAll image p nodes0 (map f (take (i + 1) xs)) nodes' parents'
mapped_more image p nodes0 parent f xs i x y nodes parents nodes' parents' within is made come so_far adds =
    let long : length (map f (take i xs)) ≡ i = length-map (take i xs) f ∙ length-take-le i xs (omega (arith, within)) in
    let here : slice_get (map f xs) i ≡ Some y =
    in_map f xs i x (slice_get_read xs (length xs) i x refl within is) ∙ ap Some (sym made) in
    subst (λ l. AddsAll image p nodes0 l nodes' parents') (map_next f xs (map f (take i xs)) _ i x y within is made refl refl)
    (adds_more image p nodes0 parent (map f xs) (map f (take i xs)) y nodes parents nodes' parents'
    (subst (λ n. slice_get (map f xs) n ≡ Some y) (sym long) here) come so_far adds)

pub each-preserved : goal.each-preserved
each-preserved c = λ image p tree come.
    mapped_more image p c.args.nodes.now.keys (Some c.args.parent) (widened c.args.program.now) c.args.results.now c.each.at-index
    c.at-item.result c.widened_copy.result c.each.nodes.keys c.each.parents.items c.add.new.nodes.keys c.add.new.parents.items
    c.each-test.true c.at-item.is c.widened_copy.ensures come (c.each.invariant image p tree come) c.in_ok-place.ensures

pub returns : goal.returns
returns c = λ image p tree come.
    subst (λ l. AddsAll image p c.args.nodes.now.keys (map (widened c.args.program.now) l) c.each.nodes.keys c.each.parents.items)
    (take_all c.each.at-index c.args.results.now c.each-test.false) (c.each.invariant image p tree come)
