use Rattle.std.proofs.Common.{inr, subst, Ok, Err}
use Rattle.uz_shelf.specs.Faults.{Rose}
use Rattle.uz_files.proofs.EndingLemmas.{holds_if_done}
use Rattle.uz_files.proofs.WorkLemmas.{finished}
use Rattle.uz_program_commands.specs.HintsCommand.{HintsAnswers}
use Rattle.uz_program_commands.specs.HintsValues.{IsToldOf}
use Rattle.uz_program_commands.proofs.HintsLemmas.{hints_failed, hints_leave, hints_made, hints_refused, hints_worth, not_done}
use Rattle.uz_program_commands.proofs.hints_command.run_hints.Goals as goal

pub returns-in-Err-clause-outcome : goal.returns-in-Err-clause-outcome
returns-in-Err-clause-outcome g c =
    hints_failed (g.H.Shelf.files c.args.shelf.now) _ c.args.input.now.hex.now c.args.input.now.pads.now c.args.input.now.irq
    c.args.hints.now
    (g.H.Shelf.files c.prepare.new.shelf) _ _ c.in-Err.failure c.give_up.result _ _ c.prepare.ensures.files inr c.in-Err.ensures.fails
    c.give_up.ensures.comes

pub returns-in-Err-clause-hinted : goal.returns-in-Err-clause-hinted
returns-in-Err-clause-hinted g c = λ done.
    holds_if_done _ (Err c.in-Err.failure) c.give_up.result _ _ _ tt (c.give_up.ensures.comes (g.H.Shelf.files c.args.shelf.now)) done

pub returns-in-Refusal-clause-outcome : goal.returns-in-Refusal-clause-outcome
returns-in-Refusal-clause-outcome g c =
    hints_refused (g.H.Shelf.files c.args.shelf.now) _ c.args.input.now.hex.now c.args.input.now.pads.now c.args.input.now.irq
    c.args.hints.now
    (g.H.Shelf.files c.prepare.new.shelf) _ _ c.in-Refusal.ending c.end_with.result _ _ c.prepare.ensures.files inr
    (subst (IsToldOf (g.H.Shelf.files c.args.shelf.now) c.args.input.now.hex.now c.args.input.now.pads.now) c.in-Refusal.is
    c.in-Ok.ensures.told)
    c.end_with.ensures.comes

pub returns-in-Refusal-clause-hinted : goal.returns-in-Refusal-clause-hinted
returns-in-Refusal-clause-hinted g c = λ done.
    holds_if_done _ (Ok c.in-Refusal.ending) c.end_with.result _ _ _
    (not_done (g.H.Shelf.files c.args.shelf.now) c.args.input.now.hex.now c.args.input.now.pads.now c.in-Refusal.ending
    (subst (IsToldOf (g.H.Shelf.files c.args.shelf.now) c.args.input.now.hex.now c.args.input.now.pads.now) c.in-Refusal.is
    c.in-Ok.ensures.told))
    (c.end_with.ensures.comes (g.H.Shelf.files c.args.shelf.now)) done

pub returns-in-Made-clause-outcome : goal.returns-in-Made-clause-outcome
returns-in-Made-clause-outcome g c =
    let files = g.H.Shelf.files c.args.shelf.now in
    let loads = g.H.Shelf.load_faults c.args.shelf.now in
    finished (λ n. HintsAnswers files (Rose loads n) c.args.input.now.hex.now c.args.input.now.pads.now c.args.input.now.irq
    c.args.hints.now)
    c.args.hints.now
    (Ok c.in-Made.work) files _ _ _ _ _ _ _ _ _ _ _ _ c.prepare.ensures.files c.prepare.ensures.write_faults
    c.finish_work.ensures.load_faults
    (hints_made files _ c.args.input.now.hex.now c.args.input.now.pads.now c.args.input.now.irq c.args.hints.now c.in-Made.work
    (subst (IsToldOf files c.args.input.now.hex.now c.args.input.now.pads.now) c.in-Made.is c.in-Ok.ensures.told))
    c.finish_work.ensures.outcome

pub returns-in-Made-clause-hinted : goal.returns-in-Made-clause-hinted
returns-in-Made-clause-hinted g c = λ done.
    hints_worth (g.H.Shelf.files c.args.shelf.now) _ _ c.args.input.now.hex.now c.args.input.now.pads.now c.args.hints.now c.in-Made.work
    (subst (IsToldOf (g.H.Shelf.files c.args.shelf.now) c.args.input.now.hex.now c.args.input.now.pads.now) c.in-Made.is
    c.in-Ok.ensures.told)
    (c.finish_work.ensures.written done)

pub returns-in-Made-clause-refused : goal.returns-in-Made-clause-refused
returns-in-Made-clause-refused g c =
    hints_leave _ _ _ _ c.args.input.now.hex.now c.args.input.now.pads.now c.args.input.now.irq c.args.hints.now _ _ _
    (returns-in-Made-clause-outcome
    g c)
