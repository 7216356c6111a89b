use Rattle.std.proofs.Common.{◌≡◌, ◌∙◌, map, sym, subst, true}
use Rattle.uz_explanations.specs.Putting.{is_among}
use Rattle.uz_explanations.proofs.SeenLemmas.{among_there}
use Rattle.uz_explanations.proofs.seen.is_at.Goals as goal

pub returns-in-Some : goal.returns-in-Some
returns-in-Some g c is =
    subst (λ l. is_among (map g.T.Said.value l) (g.T.Said.value c.args.value.now) ≡ true) c.deref.ensures.value
    (among_there g.T.Said.value c.deref.result.now c.args.place c.in-Some.other.now (g.T.Said.value c.args.value.now)
    c.in-Some.ensures.lookup.3.0 c.in-Some.ensures.lookup.1 (sym c.is_same.ensures ∙ is))
