use Rattle.std.proofs.Common.{inr, subst, Ok, Err}
use Rattle.uz_shelf.specs.Faults.{Rose}
use Rattle.uz_files.proofs.EndingLemmas.{holds_if_done}
use Rattle.uz_files.proofs.WorkLemmas.{finished}
use Rattle.uz_certificate_commands.specs.FindCommand.{FindAnswers}
use Rattle.uz_certificate_commands.specs.FindValues.{IsFoundFor}
use Rattle.uz_certificate_commands.proofs.FindLemmas.{find_failed, find_made, find_refused, find_worth, not_done}
use Rattle.uz_certificate_commands.proofs.find_command.run_find.Goals as goal

pub returns-in-Err-clause-outcome : goal.returns-in-Err-clause-outcome
returns-in-Err-clause-outcome g c =
    find_failed (g.H.Shelf.files c.args.shelf.now) (g.H.Shelf.files c.prepare.new.shelf) _ _ _ c.args.hex.now c.args.hints.now c.args.irq
    c.args.cert.now c.in-Err.failure c.give_up.result _ _ c.prepare.ensures.files inr c.in-Err.ensures.fails c.give_up.ensures.comes

pub returns-in-Err-clause-certified : goal.returns-in-Err-clause-certified
returns-in-Err-clause-certified g c = λ done.
    holds_if_done _ (Err c.in-Err.failure) c.give_up.result _ _ _ tt (c.give_up.ensures.comes (g.H.Shelf.files c.args.shelf.now)) done

pub returns-in-Refusal-clause-outcome : goal.returns-in-Refusal-clause-outcome
returns-in-Refusal-clause-outcome g c =
    find_refused (g.H.Shelf.files c.args.shelf.now) _ c.args.hex.now c.args.hints.now c.args.irq c.args.cert.now
    (g.H.Shelf.files c.prepare.new.shelf) _ _ c.in-Refusal.ending c.end_with.result _ _ c.prepare.ensures.files inr
    (subst (IsFoundFor (g.H.Shelf.files c.args.shelf.now) c.args.hex.now c.args.hints.now c.args.irq) c.in-Refusal.is c.in-Ok.ensures.found)
    c.end_with.ensures.comes

pub returns-in-Refusal-clause-certified : goal.returns-in-Refusal-clause-certified
returns-in-Refusal-clause-certified g c = λ done.
    holds_if_done _ (Ok c.in-Refusal.ending) c.end_with.result _ _ _
    (not_done (g.H.Shelf.files c.args.shelf.now) c.args.hex.now c.args.hints.now c.args.irq c.in-Refusal.ending
    (subst (IsFoundFor (g.H.Shelf.files c.args.shelf.now) c.args.hex.now c.args.hints.now c.args.irq) c.in-Refusal.is c.in-Ok.ensures.found))
    (c.end_with.ensures.comes (g.H.Shelf.files c.args.shelf.now)) done

pub returns-in-Made-clause-outcome : goal.returns-in-Made-clause-outcome
returns-in-Made-clause-outcome g c =
    let files = g.H.Shelf.files c.args.shelf.now in
    let loads = g.H.Shelf.load_faults c.args.shelf.now in
    finished (λ n. FindAnswers files (Rose loads n) c.args.hex.now c.args.hints.now c.args.irq c.args.cert.now) c.args.cert.now
    (Ok c.in-Made.work) files _ _ _ _ _ _ _ _ _ _ _ _ c.prepare.ensures.files c.prepare.ensures.write_faults
    c.finish_work.ensures.load_faults
    (find_made files _ c.args.hex.now c.args.hints.now c.args.irq c.args.cert.now c.in-Made.work
    (subst (IsFoundFor files c.args.hex.now c.args.hints.now c.args.irq) c.in-Made.is c.in-Ok.ensures.found))
    c.finish_work.ensures.outcome

pub returns-in-Made-clause-certified : goal.returns-in-Made-clause-certified
returns-in-Made-clause-certified g c = λ done.
    find_worth (g.H.Shelf.files c.args.shelf.now) ⊥ c.args.hex.now c.args.hints.now c.args.irq c.args.cert.now c.soundness.ensures.certified
    _ _ c.in-Made.work
    (subst (IsFoundFor (g.H.Shelf.files c.args.shelf.now) c.args.hex.now c.args.hints.now c.args.irq) c.in-Made.is c.in-Ok.ensures.found)
    (c.finish_work.ensures.written done)
