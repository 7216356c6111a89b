-- What comes of a demo.
use Rattle.std.proofs.Common.{◌≡◌, inl, inr, ℕ, List, [], refl, sym, ap, subst, ◌∙◌}
use Rattle.std.specs.Prelude.{Option, None, Ok, Err}
use Rattle.uz_shelf.specs.Files.{FileMap}
use Rattle.uz_shelf.specs.Text.{TakesAll, TakesPrefix}
use Rattle.uz_hex.specs.Reading.{Flash}
use Rattle.avr_asm.specs.declared.output.Hint.{Hint as SourceHint}
use Rattle.uz_schedule.specs.declared.certificate.Cert.{Cert}
use Rattle.uz_schedule.specs.declared.kinds.Response.TheVariants.{Four}
use Rattle.uz_core.specs.PadLine.{PadHistory}
use Rattle.uz_core.specs.Turn.{State}
use Rattle.uz_console.specs.declared.console.Console.{Console}
use Rattle.uz_player.specs.declared.recording.Captured.{Captured}
use Rattle.uz_files.specs.declared.ending.Ending.{Ending}
use Rattle.uz_files.specs.declared.status.Status.{Status}
use Rattle.uz_files.specs.declared.status.Status.TheVariants.{NoMemory, Refused, Unwritten}
use Rattle.uz_files.specs.Answers.{ComesOf, MayCome, Outside, ended, one_line, outside}
use Rattle.uz_files.specs.Endings.{answer_of}
use Rattle.uz_files.proofs.EndingLemmas.{comes_by}
use Rattle.uz_files.proofs.PrintedLemmas.{cut_part}
use Rattle.uz_certificate_commands.specs.SearchLines.{Allowed}
use Rattle.uz_certificate_commands.specs.Runs.{framed}
use Rattle.uz_certificate_commands.specs.RunValues.{end_status, end_text}
use Rattle.uz_certificate_commands.proofs.RunLemmas.{captured_answers}
use Rattle.uz_certificate_commands.specs.declared.demo_start.Start.{Start}
use Rattle.uz_certificate_commands.specs.declared.demo_start.Start.TheVariants.{Ready, Refusal}
use Rattle.uz_certificate_commands.specs.DemoCommand.{DemoAnswers, DemoParts, demo_clocks, demo_start}
use Rattle.uz_certificate_commands.specs.DemoValues.{IsPlayedOut, IsPrepared, IsPutPart, IsReady, IsRefusal, IsRunAfter, IsSearched, IsStart}

-- What a demo begins with

pub ready_found : (image : Flash) (hints : List SourceHint) (cert : Cert) (start : Start) → Allowed image Four hints (Ok cert)
    → IsPrepared image cert start → IsSearched image hints start
ready_found image hints cert (Ready console certificate line) allowed h =
    subst (λ c. IsReady image hints console c line.items) (sym h.same)
    (record { allowed = allowed; in_range = h.in_range; stands = h.stands; is_line = h.is_line })
ready_found image hints cert (Refusal line) allowed h = absurd h

-- The run, once the line of the frame is printed

module _ (line : List ℕ) (cert : Cert) (start : State PadHistory) (wide : Type 0) (came : Status) (files : Option FileMap)
    (old mid new : Option (List ℕ)) where
  pub run_after : (captured : Captured) (narrow : Type 0) → (narrow → wide) → IsPlayedOut cert (demo_clocks cert) start captured.end
      captured.counts → TakesAll old line mid →
      ((printed : List ℕ) (f : Option FileMap) (before : Option (List ℕ)) → TakesAll before printed mid →
      ComesOf (ended printed (end_status captured.end captured.counts) (end_text captured.end captured.counts)) narrow came
      (outside f before) (outside f new)) →
      MayCome (IsRunAfter line cert start) (IsPutPart line) wide came (outside files old) (outside files new)
  run_after captured narrow widen played takes comes =
      let s = end_status captured.end captured.counts in
      let text = end_text captured.end captured.counts in
      let told = captured_answers cert (demo_clocks cert) start captured.end captured.counts None None [] played in
      inr (inl (
        ended line s text,
        record { played = framed [] told.0 s text; run = told.2; told = refl },
        comes_by (ended line s text) came narrow wide (outside files old) (outside files new) widen (comes line files old takes),
      ))

  pub put_failed : wide → came ≡ Unwritten → TakesPrefix old line new → MayCome (IsRunAfter line cert start) (IsPutPart line) wide came
      (outside files old) (outside files new)
  put_failed fault is part = inr
      (inr (ended line Unwritten [], refl, inl (is, fault, cut_part line files old new part)))

  pub put_lacks : came ≡ NoMemory → TakesPrefix old line new → MayCome (IsRunAfter line cert start) (IsPutPart line) wide came
      (outside files old) (outside files new)
  put_lacks is part = inr (inr (ended line Unwritten [], refl, inr (is, cut_part line files old new part)))

-- The whole command

module _ (number : ℕ) (write_fault : Type 0) (came : Status) (old new : Outside) where
  pub demo_runs : (start : Start) (console : Console) (cert : Cert) (line told : List ℕ) → told ≡ line → (given : IsStart number start)
      → IsReady (given.output).image (given.output).hints console cert line →
      MayCome (IsRunAfter told cert (demo_start (given.output).image)) (IsPutPart told) write_fault came old new
      → MayCome (DemoAnswers number) (DemoParts number) write_fault came old new
  demo_runs start console cert line told same given ready (inl starts) = inl starts
  demo_runs start console cert line told same given ready (inr (inl (answer, run, comes))) =
      inr (inl (
        answer,
        record {
          output = given.output;
          assembles = given.assembles;
          found = Ok cert;
          allowed = ready.allowed;
          answers = record {
            played = run.played;
            run = run.run;
            told = run.told ∙ ap (λ l. ended l (run.played).status (run.played).line)
                (same ∙ ready.is_line);
          };
        },
        comes,
      ))
  demo_runs start console cert line told same given ready (inr (inr (answer, part, cut))) =
      inr (inr (
        answer,
        record {
          output = given.output;
          assembles = given.assembles;
          cert = cert;
          allowed = ready.allowed;
          told = part ∙ ap (λ l. ended l Unwritten []) (same ∙ ready.is_line);
        },
        cut,
      ))

  pub demo_refused : (start : Start) (ending : Ending) (given : IsStart number start) → IsRefusal (given.output).image (given.output).hints
      ending.line.items → ending.status ≡ Refused → ComesOf (answer_of ending) write_fault came old new → MayCome (DemoAnswers number)
      (DemoParts number) write_fault came old new
  demo_refused start ending given refusal is comes =
      inr (inl (
        answer_of ending,
        record {
          output = given.output;
          assembles = given.assembles;
          found = Err refusal.why;
          allowed = refusal.allowed;
          answers = ap (λ s. one_line s ending.line.items) is ∙ ap (one_line Refused) refusal.is_line;
        },
        comes,
      ))
