use Rattle.uz_search.proofs.Common.{◌≡◌, List, [], ap, ◌∙◌, Instance, Program, Widening, loosened, widened_all, facts_at, widened}
use Rattle.uz_search.specs.Widened.{facts_in}
use Rattle.uz_search.proofs.widening.widen.Goals as goal

widened_so : (program : Program) (x : Instance) (facts : List Widening) → facts ≡ facts_at program x.pc → widened_all facts (loosened x)
    ≡ widened program x
unfolding widened
widened_so program x facts e = ap (λ l. widened_all l (loosened x)) e

pub returns-in-Some : goal.returns-in-Some
returns-in-Some c =
    let facts = c.in-Some.facts.now in
    c.widen.ensures ∙ ap (widened_all facts) c.loosen.ensures
    ∙ widened_so c.args.program.now c.args.at.now facts
    (ap facts_in c.in-Some.ensures.value ∙ ap (λ (z : Instance). facts_at c.args.program.now z.pc) c.loosen.ensures)

pub returns-in_default : goal.returns-in_default
returns-in_default c =
    c.loosen.ensures
    ∙ widened_so c.args.program.now c.args.at.now []
    (ap facts_in c.in_default.ensures.value ∙ ap (λ (z : Instance). facts_at c.args.program.now z.pc) c.loosen.ensures)
