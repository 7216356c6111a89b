use Rattle.uz_search.proofs.Common.{ℕ, Option, ap, ◌∙◌, EventKind, clock_on, is_clear_at}
use Rattle.uz_search.proofs.stuck.is_clear_after.Goals as goal

pub returns : goal.returns
returns c =
    let fall : ℕ = c.args.program.now.schedule.fall in
    let q : ℕ = clock_on c.args.program.now c.args.at.now c.args.clocks in
    c.is_clear.ensures
    ∙ ap (λ (n : ℕ). is_clear_at n c.clock_on.result c.shown_after.result) c.from.ensures
    ∙ ap (λ (k : ℕ). is_clear_at fall k c.shown_after.result) c.clock_on.ensures.value
    ∙ ap (λ (e : Option EventKind). is_clear_at fall q e) c.shown_after.ensures
