-- What comes of a run whose records are written to a file.
use Rattle.std.proofs.Common.{◌≡◌, inl, inr, ℕ, List, [], ◌∷◌, ◌++◌, refl, sym, ap, subst, ◌∙◌}
use Rattle.std.specs.Prelude.{Option, Some, None}
use Rattle.uz_shelf.specs.Files.{FileMap, WritesFile}
use Rattle.uz_shelf.specs.Text.{TakesAll}
use Rattle.uz_schedule.specs.declared.certificate.Cert.{Cert}
use Rattle.uz_core.specs.declared.machine.Edge.{Edge}
use Rattle.uz_core.specs.PadLine.{PadHistory}
use Rattle.uz_core.specs.Turn.{State}
use Rattle.uz_core.specs.Run.{IsClockRun}
use Rattle.uz_scan.specs.Pictures.{newest_first, records}
use Rattle.uz_player.specs.declared.counts.Counts.{Counts}
use Rattle.uz_player.specs.Counting.{CountsEdges, EntersAt}
use Rattle.uz_player.specs.declared.recording.Captured.{Captured}
use Rattle.uz_player.specs.declared.recording.RunEnd.{RunEnd}
use Rattle.uz_player.specs.declared.recording.RunEnd.TheVariants as end
use Rattle.uz_player.specs.Captures.{IsCapturePart, IsCaptured, IsPlayedInto}
use Rattle.uz_files.specs.declared.ending.Ending.{Ending}
use Rattle.uz_files.specs.declared.status.Status.{Status}
use Rattle.uz_files.specs.declared.status.Status.TheVariants.{Done, Stopped, Unwritten, NoMemory}
use Rattle.uz_files.specs.Answers.{ComesOf, MayCome, WritesPart, outside}
use Rattle.uz_files.specs.Endings.{answer_of}
use Rattle.uz_certificate_commands.specs.Runs.{IsFramedPart, IsFramedRun, entered_line, framed, frames_file, numbers_line, numbers_of}
use Rattle.uz_certificate_commands.specs.RunValues.{counts_text, end_status, end_text, over_status, over_text}
use Rattle.uz_files.specs.StopLines.{stopped_at_line}
use Rattle.uz_files.proofs.EndingLemmas.{comes_by}
use Rattle.uz_files.proofs.TextLemmas.{takes_none}
use Rattle.uz_files.proofs.WriteLemmas.{comes_after_files, lacks_line}

-- The file is written, and then a text is printed

-- no memory for the text
pub lacks_text : (frames : List ℕ) (edges : List Edge) (s : Status) (line : List ℕ) (files after : Option FileMap)
    → WritesFile files frames (records (newest_first edges)) after → (write_fault : Type 0) (came : Status) (old new : Option (List ℕ))
    → came ≡ NoMemory → TakesAll old [] new
    → ComesOf (framed frames edges s line) write_fault came (outside files old) (outside after new)
lacks_text frames edges s line files after written write_fault came old new is text =
    lacks_line (frames_file frames edges ∷ []) s line files after (after, written, refl) old new write_fault came is text

pub comes_of_ending : (ending : Ending) (frames : List ℕ) (edges : List Edge) (s came : Status) (line : List ℕ) (write_fault : Type 0)
    (files after : Option FileMap) (old new : Option (List ℕ)) → (ending.status ≡ s) × (ending.line.items ≡ line) → WritesFile files frames
    (records (newest_first edges)) after →
    ComesOf (answer_of ending) write_fault came (outside after old) (outside after new) → ComesOf (framed frames edges s line) write_fault
    came (outside files old) (outside after new)
comes_of_ending ending frames edges s came line write_fault files after old new same written comes =
    subst (λ l. ComesOf (framed frames edges s l) write_fault came (outside files old) (outside after new)) same.1
    (subst (λ t. ComesOf (framed frames edges t ending.line.items) write_fault came (outside files old) (outside after new)) same.0
    (comes_after_files (frames_file frames edges ∷ []) ending.status ending.line.items files after (after, written, refl) old new
    write_fault came comes))

-- A run that is captured

same_numbers : (a b c d e v w x y z : ℕ) → a ≡ v → b ≡ w → c ≡ x → d ≡ y → e ≡ z → numbers_line a b c d e ≡ numbers_line v w x y z
same_numbers a b c d e v w x y z p q r s t =
    ap (λ n. numbers_line n b c d e) p
    ∙ (ap (λ n. numbers_line v n c d e) q
    ∙ (ap (λ n. numbers_line v w n d e) r ∙ (ap (λ n. numbers_line v w x n e) s ∙ ap (λ n. numbers_line v w x y n) t)))

counted_text : (counts : Counts) (edges : List Edge) → CountsEdges counts edges → counts_text counts ≡ numbers_of edges
counted_text counts edges h = same_numbers _ _ _ _ _ _ _ _ _ _ h.frames h.rows h.sync h.pixels h.sounds

run_over : (cert : Cert) (limit : ℕ) (start last : State PadHistory) (edges : List Edge) (counts : Counts) (name : List ℕ)
    (o : Option (ℕ × ℕ)) → IsClockRun limit start edges last → CountsEdges counts edges → EntersAt cert limit start o →
    IsFramedRun name cert limit start (framed name edges (over_status o) (over_text o counts))
run_over cert limit start last edges counts name None run counted never =
    inr (inl (record { edges = edges; last = last; run = run; never = never; told = refl }))
run_over cert limit start last edges counts name (Some at) run counted entered = inl (record {
  edges = edges;
  last = last;
  run = run;
  clock = at.0;
  position = entered.position;
  line = at.1;
  enters = entered.enters;
  in_line = entered.in_line;
  told = ap (λ t. framed name edges Done (entered_line at.0 at.1 ++ t)) (counted_text counts edges counted);
})

-- the file holds the records of its edges, and this is the answer
abbrev pub IsAnswered : Cert → ℕ → State PadHistory → RunEnd → Counts → Option FileMap → List ℕ → Option FileMap → Type 0
IsAnswered cert limit start e counts old name new =
    (edges : List Edge) × WritesFile old name (records (newest_first edges)) new × IsFramedRun name cert limit start
    (framed name edges (end_status e counts) (end_text e counts))

pub captured_answers : (cert : Cert) (limit : ℕ) (start : State PadHistory) (e : RunEnd) (counts : Counts) (old new : Option FileMap)
    (name : List ℕ) → IsPlayedInto cert limit start e counts old name new → IsAnswered cert limit start e counts old name new
captured_answers cert limit start end.Over counts old new name (edges, last, run, whole) =
    (edges, whole.file, run_over cert limit start last edges counts name counts.entered run whole.counted whole.entered)
captured_answers cert limit start (end.Stopped pc word) counts old new name (edges, last, run, halts, at, is, whole) = (
  edges,
  whole.file,
  inr (inr (record {
    edges = edges;
    last = last;
    run = run;
    halts = halts;
    told = ap (λ p. framed name edges Stopped (stopped_at_line p word)) at
        ∙ ap (λ w. framed name edges Stopped (stopped_at_line last.core.pc w)) is;
  })),
)

module _ (cert : Cert) (limit : ℕ) (start : State PadHistory) (old new : Option FileMap) (name : List ℕ) (wide : Type 0) (came : Status)
    (was now : Option (List ℕ)) where
  pub run_captured : (captured : Captured) (narrow : Type 0) → (narrow → wide) → IsCaptured cert limit start captured old name new →
      ((frames : List ℕ) (edges : List Edge) (files after : Option FileMap) → WritesFile files frames (records (newest_first edges)) after →
      ComesOf (framed frames edges (end_status captured.end captured.counts) (end_text captured.end captured.counts)) narrow came
      (outside files was) (outside after now)) →
      MayCome (IsFramedRun name cert limit start) (IsFramedPart name limit start) wide came (outside old was) (outside new now)
  run_captured captured narrow widen played comes =
      let told = captured_answers cert limit start captured.end captured.counts old new name played in
      let answer = framed name told.0 (end_status captured.end captured.counts) (end_text captured.end captured.counts) in
      inr (inl (
        answer,
        told.2,
        comes_by answer came narrow wide (outside old was) (outside new now) widen
            (comes name told.0 old new told.1),
      ))

  -- the answer of a part, and what of its file is written
  abbrev IsPartWritten : Type 0
  IsPartWritten = (edges : List Edge) × IsFramedPart name limit start (framed name edges Unwritten []) × WritesPart old
      (frames_file name edges ∷ []) new

  part_written : IsCapturePart limit start old name new → IsPartWritten
  part_written (inl same) = (
    [],
    record {
      edges = [];
      last = start;
      run = record {
        turns = 0;
        all_edges = [];
        run = (refl, refl);
        in_time = refl;
      };
      told = refl;
    },
    inl same,
  )
  part_written (inr holds) = (
    holds.edges,
    record { edges = holds.edges; last = holds.last; run = holds.part; told = refl },
    inr (inl (holds.count, holds.file)),
  )

  pub run_unwritten : IsCapturePart limit start old name new → wide → came ≡ Unwritten → now ≡ was
      → MayCome (IsFramedRun name cert limit start) (IsFramedPart name limit start) wide came (outside old was) (outside new now)
  run_unwritten cut fault is same =
      let part = part_written cut in
      inr (inr (
        framed name part.0 Unwritten [],
        part.1,
        inl (is, fault, inl (part.2, subst (λ t. TakesAll was [] t) (sym same) (takes_none was))),
      ))

  pub run_lacks : IsCapturePart limit start old name new → came ≡ NoMemory → TakesAll was [] now
      → MayCome (IsFramedRun name cert limit start) (IsFramedPart name limit start) wide came (outside old was) (outside new now)
  run_lacks cut is line =
      let part = part_written cut in
      inr (inr (framed name part.0 Unwritten [], part.1, inr (is, inl (part.2, line))))
