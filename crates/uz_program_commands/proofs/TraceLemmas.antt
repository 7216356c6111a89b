-- The lines of a run, printed as it goes.
use Rattle.std.proofs.Common.{◌≡◌, ℕ, List, [], ◌∷◌, ◌++◌, refl, sym, ap, subst, ◌∙◌}
use Rattle.std.proofs.Common.{append_assoc}
use Rattle.std.specs.Prelude.{Option}
use Rattle.uz_shelf.specs.Text.{TakesAll, TakesPrefix}
use Rattle.uz_core.specs.declared.machine.Edge.{Edge}
use Rattle.uz_core.specs.PadLine.{PadHistory}
use Rattle.uz_core.specs.Turn.{State}
use Rattle.uz_core.specs.Run.{IsRunPart}
use Rattle.uz_core.specs.declared.step.Why.{Why}
use Rattle.uz_console.specs.declared.console.Console.{Console}
use Rattle.uz_console.specs.declared.paging.Paged.{Paged}
use Rattle.uz_console.specs.declared.paging.Paged.TheVariants as paged
use Rattle.uz_console.specs.Consoles.{StandsFor}
use Rattle.uz_console.specs.Pages.{IsPage}
use Rattle.uz_console.specs.Runs.{RunsTo}
use Rattle.uz_program_commands.specs.declared.trace_command.RunEnd.TheVariants as end
use Rattle.uz_program_commands.specs.TraceCommand.{edge_line, edge_lines}
use Rattle.uz_program_commands.specs.TraceValues.{IsPrinted, IsPrintedPart, IsPrintedSoFar}
use Rattle.uz_files.proofs.PrintedLemmas.{takes_then_prefix}
use Rattle.uz_files.proofs.TextLemmas.{takes_both}

edge_lines-append : (a b : List Edge) → edge_lines (a ++ b) ≡ edge_lines a ++ edge_lines b
edge_lines-append [] b = refl
edge_lines-append (x ∷ xs) b = ap (λ t. edge_line x ++ t) (edge_lines-append xs b)
    ∙ sym (append_assoc (edge_line x) (edge_lines xs) (edge_lines b))

-- the lines of a page after those of the edges before it
lines_after : (edges page : List Edge) (old was new : Option (List ℕ)) → TakesAll old (edge_lines edges) was
    → TakesAll was (edge_lines page) new → TakesAll old (edge_lines (edges ++ page)) new
lines_after edges page old was new takes piece = subst (λ t. TakesAll old t new) (sym (edge_lines-append edges page))
    (takes_both old (edge_lines edges) (edge_lines page) was new takes piece)

pub goes_on : (limit : ℕ) (start : State PadHistory) (mid next : Console) (page : List Edge) (old was new : Option (List ℕ))
    → IsPrintedSoFar limit start mid old was → IsPage limit mid next page paged.Full → TakesAll was (edge_lines page) new
    → IsPrintedSoFar limit start next old new
goes_on limit start mid next page old was new (edges, run, takes) step piece =
    (edges ++ page, step start edges run, lines_after edges page old was new takes piece)

-- however far the run came by a page, the edges are those of a part of it
page_part : (limit : ℕ) (mid next : Console) (page : List Edge) (answer : Paged) → IsPage limit mid next page answer
    → (start : State PadHistory) (edges : List Edge) → RunsTo limit start edges mid
    → (last : State PadHistory) × IsRunPart limit start (edges ++ page) last
page_part limit mid next page paged.Full step start edges run = (let r = step start edges run in (r.0, r.1))
page_part limit mid next page paged.Over step start edges run = (let r = step start edges run in (r.0, (r.1).part))
page_part limit mid next page (paged.Stopped why) step start edges run = (let r = step start edges run in (r.0, (r.1).part))

pub is_cut : (limit : ℕ) (start : State PadHistory) (mid next : Console) (page : List Edge) (answer : Paged) (old was new : Option (List ℕ))
    → IsPrintedSoFar limit start mid old was → IsPage limit mid next page answer → TakesPrefix was (edge_lines page) new
    → IsPrintedPart limit start old new
is_cut limit start mid next page answer old was new (edges, run, takes) step piece =
    let part = page_part limit mid next page answer step start edges run in (
      edges ++ page,
      part.0,
      part.1,
      subst (λ t. TakesPrefix old t new) (sym (edge_lines-append edges page))
          (takes_then_prefix old was new (edge_lines edges) (edge_lines page) takes piece),
    )

-- a run that is over, and one that is stopped
pub prints_over : (limit : ℕ) (start : State PadHistory) (mid next : Console) (page : List Edge) (old was new : Option (List ℕ))
    → IsPrintedSoFar limit start mid old was → IsPage limit mid next page paged.Over → TakesAll was (edge_lines page) new
    → IsPrinted limit start end.Over old new
prints_over limit start mid next page old was new (edges, run, takes) step piece =
    let over = step start edges run in
    (edges ++ page, over.0, over.1, lines_after edges page old was new takes piece)

pub prints_stopped : (limit : ℕ) (start : State PadHistory) (mid next : Console) (page : List Edge) (pc : ℕ) (why : Why)
    (old was new : Option (List ℕ)) → IsPrintedSoFar limit start mid old was → IsPage limit mid next page (paged.Stopped why)
    → ((s : State PadHistory) → StandsFor next s → pc ≡ s.core.pc) → TakesAll was (edge_lines page) new
    → IsPrinted limit start (end.Stopped pc why) old new
prints_stopped limit start mid next page pc why old was new (edges, run, takes) step at piece =
    let stop = step start edges run in
    (edges ++ page, stop.0, stop.1, stop.2, at stop.0 stop.3, lines_after edges page old was new takes piece)
