-- A run that goes on a page at a time.
use Rattle.std.proofs.Common.{◌≡◌, ℕ, List, [], ◌++◌, sym, subst, append_assoc, append-nil}
use Rattle.std.specs.Prelude.{None, Some}
use Rattle.uz_core.specs.declared.machine.Edge.{Edge}
use Rattle.uz_core.specs.PadLine.{PadHistory}
use Rattle.uz_core.specs.Turn.{State}
use Rattle.uz_core.specs.Run.{IsStoppedRun}
use Rattle.uz_core.specs.declared.step.Why.{Why}
use Rattle.uz_console.specs.declared.console.Console.{Console}
use Rattle.uz_console.specs.Consoles.{StandsFor}
use Rattle.uz_console.specs.Runs.{RunIsOver, RunsTo}
use Rattle.uz_console.specs.Turns.{Halts}
use Rattle.uz_proposal.specs.Reaching.{IsOnTheWay, IsReached}

pub on_the_way : (limit : ℕ) (start : State PadHistory) (edges : List Edge) (console : Console) → RunsTo limit start edges console
    → IsOnTheWay limit start edges console
on_the_way limit start edges console run = ([], subst (λ es. RunsTo limit start es console) (sym (append-nil edges)) run)

pub further : (limit : ℕ) (start : State PadHistory) (edges page : List Edge) (old new : Console) → IsOnTheWay limit start edges old
    → ((s : State PadHistory) (es : List Edge) → RunsTo limit s es old → RunsTo limit s (es ++ page) new)
    → IsOnTheWay limit start edges new
further limit start edges page old new way step =
    (way.0 ++ page, subst (λ es. RunsTo limit start es new) (append_assoc edges way.0 page) (step start (edges ++ way.0) way.1))

pub over : (limit : ℕ) (start : State PadHistory) (edges page : List Edge) (old new : Console) → IsOnTheWay limit start edges old
    → ((s : State PadHistory) (es : List Edge) → RunsTo limit s es old → RunIsOver limit s (es ++ page) new)
    → IsReached limit start edges new None
over limit start edges page old new way step =
    (way.0 ++ page, subst (λ es. RunIsOver limit start es new) (append_assoc edges way.0 page) (step start (edges ++ way.0) way.1))

pub stops : (limit : ℕ) (start : State PadHistory) (edges page : List Edge) (old new : Console) (why : Why) → IsOnTheWay limit start edges old
    → ((s : State PadHistory) (es : List Edge) → RunsTo limit s es old
    → (last : State PadHistory) × IsStoppedRun limit s (es ++ page) last × Halts last why × StandsFor new last)
    → IsReached limit start edges new (Some why)
stops limit start edges page old new why way step =
    let stop = step start (edges ++ way.0) way.1 in
    (way.0 ++ page, stop.0, subst (λ es. IsStoppedRun limit start es stop.0) (append_assoc edges way.0 page) stop.1, stop.2, stop.3)
