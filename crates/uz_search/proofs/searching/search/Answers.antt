use Rattle.uz_search.proofs.Common.{◌≡◌, ℕ, refl, sym, subst, List, Option, Main, Instance, Return, Among, ReturnAt, ClosedWithoutReturn}
use Rattle.uz_search.specs.Returning.{SomeReturn}
use Rattle.uz_schedule.specs.contracts.states.InstanceEq.TheImpl.Laws.{laws-law}
use Rattle.uz_search.proofs.TrailLaws.{closed_without, one_place}
use Rattle.uz_search.proofs.searching.search.Goals.{else-starts_in_main-via-then-starts_in_main+else-is_without_return}
use Rattle.uz_search.proofs.searching.search.Goals.{else-starts_in_main-via-else-starts_in_main}
use Rattle.uz_schedule.specs.contracts.states.InstancePartialEq as instances
use Rattle.uz_search.proofs.searching.search.Goals as goal

pub returns-then-is_without_return-clause-refusal : goal.returns-then-is_without_return-clause-refusal
returns-then-is_without_return-clause-refusal c =
    let image = c.args.image.now in
    let program = c.args.program.now in
    let s = c.in-Ok.found in
    subst (ClosedWithoutReturn image program) (sym c.len-count.ensures.len)
    (closed_without image program s.nodes.keys s.parents.items s.marks.items s.returns.items c.in-Ok.ensures.ended
    (λ i j x. one_place (instances.TheImpl.eq-value).it laws-law.refl s.nodes.keys c.len-count.ensures.unique i j x)
    (subst (λ (l : List Instance). (s : Instance) × Among l s × (s.kind ≡ Main)) c.as_slice.ensures (c.if-starts_in_main.ensures.some refl))
    (subst (λ (rs : List (Option Return)). (line : ℕ) (r : Return) → ReturnAt rs line r → ⊥) c.as_slice-then-starts_in_main.ensures.value
    (c.if-is_without_return.ensures.none refl)))

pub returns-clause-returns : goal.returns-clause-returns
returns-clause-returns c =
    λ x there main. elim c.else-starts_in_main.branch [
      | else-starts_in_main-via-then-starts_in_main+else-is_without_return w ↦
          subst SomeReturn w.as_slice-then-starts_in_main.ensures.value (w.is_without_return.ensures.some w.if-is_without_return.false)
      | else-starts_in_main-via-else-starts_in_main w ↦
          absurd (c.starts_in_main.ensures.none w.if-starts_in_main.false x
          (subst (λ (l : List Instance). Among l x) (sym c.as_slice.ensures) there) main)
    ]
