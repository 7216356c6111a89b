use Rattle.uz_join.proofs.Common.{◌∙◌, ◌++◌, ◌∷◌, [], ap, refl, sym, subst, List, Point, IsPut}
use Rattle.uz_join.proofs.PutLemmas.{none_left, point_kept, point_let_go}
use Rattle.uz_join.proofs.replacing.Replacing.pass.Goals as goal

pub returns-in-None : goal.returns-in-None
returns-in-None c = λ points i so_far.
    none_left points i c.begin.new.self c.take.new.self (c.in-None.ensures.none refl) c.in-None.ensures.left c.in-None.ensures.joined
    (c.in_ok-begin.ensures points i so_far)

pub returns-then-is_said : goal.returns-then-is_said
returns-then-is_said c = λ points i so_far.
    point_let_go points i c.begin.new.self c.take.new.self c.in-Some.point c.in-Some.ensures.left c.in-Some.ensures.joined
    (c.is_said.ensures c.if-is_said.true) (c.in_ok-begin.ensures points i so_far)

pub returns : goal.returns
returns c = λ points i so_far.
    let point = c.in-Some.point in
    point_kept points i c.begin.new.self c.keep.new.self point
    (c.in-Some.ensures.left ∙ ap (λ (ps : List Point). ps ++ point ∷ []) (sym c.in_ok-keep.ensures.left))
    (subst (λ ps. IsPut ps c.keep.new.self.joined.items point) c.in-Some.ensures.joined c.in_ok-keep.ensures.put)
    (c.in_ok-begin.ensures points i so_far)
