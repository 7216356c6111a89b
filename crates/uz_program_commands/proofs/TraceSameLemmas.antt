-- A shelf that tells its files gives one trace, unless loading met a fault.
use Rattle.std.proofs.Common.{◌≡◌, ◌⊎◌, inl, inr, ℕ, List, sym, ap, ◌∙◌, subst}
use Rattle.std.specs.Prelude.{Option, Some}
use Rattle.uz_shelf.specs.Files.{FileMap}
use Rattle.uz_schedule.specs.declared.kinds.Response.{Response}
use Rattle.uz_core.specs.PadLine.{PadHistory}
use Rattle.uz_core.specs.Turn.{State}
use Rattle.uz_console.proofs.RunLaws.{one_run, one_stopped_run, over_or_stopped}
use Rattle.uz_console.specs.Turns.{Halts}
use Rattle.uz_files.specs.declared.status.Status.TheVariants.{Done, Stopped}
use Rattle.uz_files.specs.Answers.{Answer, ended}
use Rattle.uz_files.specs.Formats.{Readings}
use Rattle.uz_files.specs.StopLines.{stopped_line}
use Rattle.uz_files.proofs.RunFileLemmas.{run_or_fault, run_same, same_why}
use Rattle.uz_program_commands.specs.TraceCommand.{IsTrace, TraceAnswers, edge_lines, end_line}

one_trace : (clocks : ℕ) (a b : Answer) (start : State PadHistory) → IsTrace clocks start a → IsTrace clocks start b → a ≡ b
one_trace clocks a b start (inl p) (inl q) =
    let same = one_run clocks start p.last q.last p.edges q.edges p.run q.run in
    p.printed ∙ (ap (λ e. ended (edge_lines e) Done (end_line clocks)) same.0 ∙ sym q.printed)
one_trace clocks a b start (inl p) (inr q) = absurd (over_or_stopped clocks start p.last q.last p.edges q.edges p.run q.run)
one_trace clocks a b start (inr p) (inl q) = absurd (over_or_stopped clocks start q.last p.last q.edges p.edges q.run p.run)
one_trace clocks a b start (inr p) (inr q) =
    let same = one_stopped_run clocks start p.last q.last p.edges q.edges p.run q.run in
    let why : p.why ≡ q.why = same_why q.last p.why q.why (subst (λ s. Halts s p.why) same.1 p.halts) q.halts in
    p.printed
    ∙ (ap (λ e. ended (edge_lines e) Stopped (stopped_line p.last.core.pc p.why)) same.0
    ∙ (ap (λ (s : State PadHistory). ended (edge_lines q.edges) Stopped (stopped_line s.core.pc p.why)) same.1
    ∙ (ap (λ w. ended (edge_lines q.edges) Stopped (stopped_line q.last.core.pc w)) why
    ∙ sym q.printed)))

-- a shelf that tells its files gives one answer, unless loading met a fault
pub trace_same : (readings : Readings) (files : FileMap) (load_fault : Type 0) (hex pads : List ℕ) (irq : Response) (clocks : ℕ)
    (a b : Answer)
    → TraceAnswers (Some files) load_fault hex pads irq clocks a → TraceAnswers (Some files) ⊥ hex pads irq clocks b → (a ≡ b) ⊎ load_fault
trace_same readings files load_fault hex pads irq clocks a b =
    run_same (IsTrace clocks) readings files load_fault hex pads irq a b (one_trace clocks a b)

-- loading met a fault, or none is needed for the answer
pub trace_or_fault : (files : Option FileMap) (load_fault : Type 0) (hex pads : List ℕ) (irq : Response) (clocks : ℕ) (answer : Answer)
    → TraceAnswers files load_fault hex pads irq clocks answer → load_fault ⊎ TraceAnswers files ⊥ hex pads irq clocks answer
trace_or_fault files load_fault hex pads irq clocks = run_or_fault (IsTrace clocks) files load_fault hex pads irq
