-- What `trace` answers.
use Rattle.std.proofs.Common.{◌≡◌, ◌⊎◌, inl, inr, ℕ, List, [], refl, ap, subst, sym}
use Rattle.std.specs.Prelude.{Option, Err}
use Rattle.uz_shelf.specs.Files.{FileMap}
use Rattle.uz_shelf.specs.Text.{TakesAll, TakesPrefix}
use Rattle.uz_schedule.specs.declared.kinds.Response.{Response}
use Rattle.uz_console.specs.declared.console.Console.{Console}
use Rattle.uz_console.specs.Runs.{RunsTo}
use Rattle.uz_core.specs.PadLine.{PadHistory}
use Rattle.uz_core.specs.Turn.{State}
use Rattle.uz_files.specs.declared.ending.Failure.{Failure}
use Rattle.uz_program_commands.specs.declared.trace_command.RunEnd.{RunEnd}
use Rattle.uz_program_commands.specs.declared.trace_command.RunEnd.TheVariants as end
use Rattle.uz_files.specs.declared.status.Status.{Status}
use Rattle.uz_files.specs.declared.status.Status.TheVariants.{Done, Unread, BadInput, Stopped, Unwritten, NoMemory}
use Rattle.uz_files.specs.Answers.{Answer, ComesOf, MayCome, ended, outside}
use Rattle.uz_files.specs.Endings.{ComesOfFailure, EndsBy}
use Rattle.uz_program_commands.specs.TraceCommand.{IsTrace, TraceAnswers, TraceParts, edge_lines, end_line}
use Rattle.uz_program_commands.specs.TraceValues.{IsPrinted, IsPrintedPart, end_status, last_line}
use Rattle.uz_files.specs.RunFiles.{RunLacks, RunPreface, RunSucceeds, StartsRun, start_of}
use Rattle.uz_files.specs.StopLines.{stopped_line}
use Rattle.uz_files.proofs.RunFileLemmas.{preface_answers, run_status}
use Rattle.uz_files.proofs.ReadingLemmas.{ends_by}
use Rattle.uz_files.proofs.PrintedLemmas.{cut_part}
use Rattle.uz_files.proofs.EndingLemmas.{comes_by, run_outcome}

is_trace_status : (clocks : ℕ) (start : State PadHistory) (answer : Answer) → IsTrace clocks start answer → (answer.status ≡ Done)
    ⊎ (answer.status ≡ Stopped)
is_trace_status clocks start answer (inl traced) = inl (ap (λ a. a.status) traced.printed)
is_trace_status clocks start answer (inr stopped) = inr (ap (λ a. a.status) stopped.printed)

-- the statuses of `trace`, and the cause of Unread
pub trace_status : (files : Option FileMap) (load_fault : Type 0) (hex pads : List ℕ) (irq : Response) (clocks : ℕ) (answer : Answer)
    → TraceAnswers files load_fault hex pads irq clocks answer → ((answer.status ≡ Unread) × (load_fault ⊎ RunLacks files hex pads))
    ⊎ ((answer.status ≡ BadInput) ⊎ ((answer.status ≡ Done) ⊎ (answer.status ≡ Stopped)))
trace_status files load_fault hex pads irq clocks answer h =
    elim (run_status (IsTrace clocks) files load_fault hex pads irq answer h) [
      | inl unread ↦ inl unread
      | inr (inl bad) ↦ inr (inl bad)
      | inr (inr (start, trace)) ↦ inr (inr (is_trace_status clocks start answer trace))
    ]

-- where all is well the answer is one that is done
pub trace_done : (files : Option FileMap) (hex pads : List ℕ) (irq : Response) (clocks : ℕ) → RunSucceeds files hex pads irq clocks
    → (answer : Answer) × TraceAnswers files ⊥ hex pads irq clocks answer × (answer.status ≡ Done)
trace_done files hex pads irq clocks h = (
  ended (edge_lines h.edges) Done (end_line clocks),
  inr (
    h.image,
    h.spelled_image,
    inr (h.list, h.spelled_pads, inl (record { edges = h.edges; last = h.last; run = h.run; printed = refl })),
  ),
  refl,
)

-- the whole run is printed
printed_answers : (files : Option FileMap) (load_fault : Type 0) (hex pads : List ℕ) (irq : Response) (clocks : ℕ) (console : Console)
    (run_end : RunEnd) (old mid : Option (List ℕ)) → StartsRun files hex pads irq console
    → ((start : State PadHistory) → RunsTo clocks start [] console → IsPrinted clocks start run_end old mid) → (printed : List ℕ)
    × TakesAll old printed mid × TraceAnswers files load_fault hex pads irq clocks
    (ended printed (end_status run_end) (last_line clocks run_end))
printed_answers files load_fault hex pads irq clocks console end.Over old mid starts prints =
    let done = prints (start_of starts.image starts.list irq) (starts.run clocks) in (
      edge_lines done.0,
      done.3,
      inr (
        starts.image,
        starts.spelled_image,
        inr (starts.list, starts.spelled_pads, inl (record { edges = done.0; last = done.1; run = done.2; printed = refl })),
      ),
    )
printed_answers files load_fault hex pads irq clocks console (end.Stopped pc why) old mid starts prints =
    let stop = prints (start_of starts.image starts.list irq) (starts.run clocks) in (
      edge_lines stop.0,
      stop.5,
      inr (
        starts.image,
        starts.spelled_image,
        inr (
          starts.list,
          starts.spelled_pads,
          inr (record {
            edges = stop.0;
            last = stop.1;
            why = why;
            run = stop.2;
            halts = stop.3;
            printed = ap (λ at. ended (edge_lines stop.0) Stopped (stopped_line at why)) stop.4;
          }),
        ),
      ),
    )

pub trace_outcome : (files after : Option FileMap) (load_fault narrow wide : Type 0) (hex pads : List ℕ) (irq : Response) (clocks : ℕ)
    (console : Console) (run_end : RunEnd) (came : Status) (old mid new : Option (List ℕ)) → after ≡ files → (narrow → wide)
    → StartsRun files hex pads irq console → ((start : State PadHistory) → RunsTo clocks start [] console → IsPrinted clocks start run_end
    old mid) → ((f : Option FileMap) (was : Option (List ℕ)) (printed : List ℕ) → TakesAll was printed mid
    → ComesOf (ended printed (end_status run_end) (last_line clocks run_end)) narrow came (outside f was) (outside f new))
    → MayCome (TraceAnswers files load_fault hex pads irq clocks) (TraceParts files hex pads irq clocks) wide came (outside files old)
    (outside after new)
trace_outcome files after load_fault narrow wide hex pads irq clocks console run_end came old mid new same widen starts prints comes =
    let all = printed_answers files load_fault hex pads irq clocks console run_end old mid starts prints in
    subst (λ f. MayCome (TraceAnswers files load_fault hex pads irq clocks) (TraceParts files hex pads irq clocks) wide came
    (outside files old) (outside f new)) (sym same)
    (inr (inl (
      ended all.0 (end_status run_end) (last_line clocks run_end),
      all.2,
      comes_by (ended all.0 (end_status run_end) (last_line clocks run_end)) came narrow wide (outside files old) (outside files new) widen
          (comes files old all.0 all.1),
    )))

-- a part of the run is printed
part_answers : (files : Option FileMap) (hex pads : List ℕ) (irq : Response) (clocks : ℕ) (console : Console) (old mid : Option (List ℕ))
    → StartsRun files hex pads irq console → ((start : State PadHistory) → RunsTo clocks start [] console → IsPrintedPart clocks start old
    mid) → (printed : List ℕ) × TakesPrefix old printed mid × TraceParts files hex pads irq clocks (ended printed Unwritten [])
part_answers files hex pads irq clocks console old mid starts prints =
    let part = prints (start_of starts.image starts.list irq) (starts.run clocks) in (
      edge_lines part.0,
      part.3,
      record {
        image = starts.image;
        list = starts.list;
        spelled_image = starts.spelled_image;
        spelled_pads = starts.spelled_pads;
        part = record { edges = part.0; last = part.1; run = part.2; printed = refl };
      },
    )

pub trace_unwritten : (files after : Option FileMap) (load_fault wide : Type 0) (hex pads : List ℕ) (irq : Response) (clocks : ℕ)
    (console : Console) (came : Status) (old new : Option (List ℕ)) → after ≡ files → wide → came ≡ Unwritten → StartsRun files hex pads
    irq console → ((start : State PadHistory) → RunsTo clocks start [] console → IsPrintedPart clocks start old new)
    → MayCome (TraceAnswers files load_fault hex pads irq clocks) (TraceParts files hex pads irq clocks) wide came (outside files old)
    (outside after new)
trace_unwritten files after load_fault wide hex pads irq clocks console came old new same fault is starts prints =
    let part = part_answers files hex pads irq clocks console old new starts prints in
    subst (λ f. MayCome (TraceAnswers files load_fault hex pads irq clocks) (TraceParts files hex pads irq clocks) wide came
    (outside files old) (outside f new)) (sym same)
    (inr (inr (ended part.0 Unwritten [], part.2, inl (is, fault, cut_part part.0 files old new part.1))))

pub trace_lacks : (files after : Option FileMap) (load_fault wide : Type 0) (hex pads : List ℕ) (irq : Response) (clocks : ℕ)
    (console : Console) (came : Status) (old new : Option (List ℕ)) → after ≡ files → came ≡ NoMemory
    → StartsRun files hex pads irq console → ((start : State PadHistory) → RunsTo clocks start [] console → IsPrintedPart clocks start
    old new) → MayCome (TraceAnswers files load_fault hex pads irq clocks) (TraceParts files hex pads irq clocks) wide came
    (outside files old) (outside after new)
trace_lacks files after load_fault wide hex pads irq clocks console came old new same is starts prints =
    let part = part_answers files hex pads irq clocks console old new starts prints in
    subst (λ f. MayCome (TraceAnswers files load_fault hex pads irq clocks) (TraceParts files hex pads irq clocks) wide came
    (outside files old) (outside f new)) (sym same)
    (inr (inr (ended part.0 Unwritten [], part.2, inr (is, cut_part part.0 files old new part.1))))

-- a file ends the command
pub trace_failed : (files after : Option FileMap) (load_fault narrow wide : Type 0) (hex pads : List ℕ) (irq : Response) (clocks : ℕ)
    (failure : Failure) (came : Status) (old new : Option (List ℕ)) → after ≡ files → (narrow → wide)
    → EndsBy (RunPreface files load_fault hex pads) failure → ((f : Option FileMap) → ComesOfFailure failure narrow came (outside f old)
    (outside f new)) → MayCome (TraceAnswers files load_fault hex pads irq clocks) (TraceParts files hex pads irq clocks) wide came
    (outside files old) (outside after new)
trace_failed files after load_fault narrow wide hex pads irq clocks failure came old new same widen given comes =
    run_outcome (TraceAnswers files load_fault hex pads irq clocks) (TraceParts files hex pads irq clocks) (Err failure) came narrow wide
    files after old new widen same
    (ends_by (RunPreface files load_fault hex pads) (TraceAnswers files load_fault hex pads irq clocks) failure
    (preface_answers (IsTrace clocks) files load_fault hex pads irq) given) comes
