-- What a demo is worth.
use Rattle.std.proofs.Common.{◌≡◌, inl, inr, ℕ, ◌%◌, List, [], sym, ap, ◌∙◌, arith}
use Rattle.std.proofs.lemmas.List.{get_or-replicate}
use Rattle.uz_hex.specs.Reading.{Flash}
use Rattle.uz_schedule.specs.declared.certificate.Cert.{Cert}
use Rattle.uz_schedule.specs.WellFormed.{WellFormed}
use Rattle.uz_core.specs.PadLine.{PadHistory}
use Rattle.uz_core.specs.Turn.{State, sync_level}
use Rattle.uz_console.specs.declared.console.Console.{Console}
use Rattle.uz_check.specs.Acceptance.{Accepts}
use Rattle.uz_check.specs.Certified.{Certified}
use Rattle.uz_files.specs.declared.status.Status.{Status}
use Rattle.uz_files.specs.declared.status.Status.TheVariants as status
use Rattle.uz_files.specs.Answers.{Answer, MayCome, Outside}
use Rattle.uz_files.proofs.OutcomeLemmas.{from_answer}
use Rattle.uz_certificate_commands.specs.Runs.{IsEnteredRun, IsFramedRun, IsHaltedRun}
use Rattle.uz_certificate_commands.proofs.RunWorthLemmas.{NeverStops, RunsKeep}
use Rattle.uz_certificate_commands.specs.declared.demo_start.Start.{Start}
use Rattle.uz_certificate_commands.specs.DemoCommand.{DemoHalted, DemoPlayed, demo_clocks, demo_start}
use Rattle.uz_certificate_commands.specs.DemoValues.{IsPutPart, IsReady, IsRunAfter, IsStart}

-- the law of accepted pairs
abbrev pub AcceptedHold : Type 0
AcceptedHold = (image : Flash) (cert : Cert) → WellFormed cert → Accepts image cert → Certified image cert

-- sync is low at reset
low_at_reset : (image : Flash) → sync_level (demo_start image).space ≡ 0
low_at_reset image = ap (λ n. n % 2) (get_or-replicate 4352 37 0 0 (omega arith))

module _ (line : List ℕ) (cert : Cert) (start : State PadHistory) (write_fault : Type 0) (came : Status) (old new : Outside)
    (outcome : MayCome (IsRunAfter line cert start) (IsPutPart line) write_fault came old new) where
  done_run : came ≡ status.Done → (answer : Answer) × IsEnteredRun [] cert (demo_clocks cert) start answer
  done_run is = by_run (from_answer (IsRunAfter line cert start) (IsPutPart line) write_fault came old new status.Done (λ e. cc e)
      (λ e. cc e) outcome is)
    where
      by_played : (answer : Answer) → answer.status ≡ status.Done → IsFramedRun [] cert (demo_clocks cert) start answer → (answer : Answer)
          × IsEnteredRun [] cert (demo_clocks cert) start answer
      by_played answer e (inl entered) = (answer, entered)
      by_played answer e (inr (inl unentered)) = absurd (cc (ap (λ (a : Answer). a.status) unentered.told, e))
      by_played answer e (inr (inr halted)) = absurd (cc (ap (λ (a : Answer). a.status) halted.told, e))

      by_run : (answer : Answer) × IsRunAfter line cert start answer × (answer.status ≡ status.Done) → (answer : Answer) × IsEnteredRun []
          cert (demo_clocks cert) start answer
      by_run (answer, run, e) = by_played run.played (sym (ap (λ (a : Answer). a.status) run.told) ∙ e) run.run

  stopped_run : came ≡ status.Stopped → (answer : Answer) × IsHaltedRun [] (demo_clocks cert) start answer
  stopped_run is = by_run (from_answer (IsRunAfter line cert start) (IsPutPart line) write_fault came old new status.Stopped (λ e. cc e)
      (λ e. cc e) outcome is)
    where
      by_played : (answer : Answer) → answer.status ≡ status.Stopped → IsFramedRun [] cert (demo_clocks cert) start answer
          → (answer : Answer) × IsHaltedRun [] (demo_clocks cert) start answer
      by_played answer e (inl entered) = absurd (cc (ap (λ (a : Answer). a.status) entered.told, e))
      by_played answer e (inr (inl unentered)) = absurd (cc (ap (λ (a : Answer). a.status) unentered.told, e))
      by_played answer e (inr (inr halted)) = (answer, halted)

      by_run : (answer : Answer) × IsRunAfter line cert start answer × (answer.status ≡ status.Stopped) → (answer : Answer) × IsHaltedRun []
          (demo_clocks cert) start answer
      by_run (answer, run, e) = by_played run.played (sym (ap (λ (a : Answer). a.status) run.told) ∙ e) run.run

module _ (number : ℕ) (begin : Start) (console : Console) (cert : Cert) (line told : List ℕ) (given : IsStart number begin)
    (ready : IsReady (given.output).image (given.output).hints console cert line) (write_fault : Type 0) (came : Status) (old new : Outside)
    (outcome : MayCome (IsRunAfter told cert (demo_start (given.output).image)) (IsPutPart told) write_fault came old new)
    (accepted : AcceptedHold) where
  holds : Certified (given.output).image cert
  holds = accepted (given.output).image cert (ready.allowed.worth).0 (ready.allowed.worth).1

  pub demo_played : RunsKeep → came ≡ status.Done → DemoPlayed number
  demo_played law is =
      let image = (given.output).image in
      let entered = (done_run told cert (demo_start image) write_fault came old new outcome is).1 in
      record {
        output = given.output;
        assembles = given.assembles;
        cert = cert;
        asked = (ready.allowed.worth).2;
        accepted = (ready.allowed.worth).1;
        certified = holds;
        edges = entered.edges;
        last = entered.last;
        run = entered.run;
        clock = entered.clock;
        position = entered.position;
        enters = entered.enters;
        keeps = law image cert (demo_start image) (demo_clocks cert) entered.clock entered.position holds ((ready.allowed.worth).1).steady
            ((ready.allowed.worth).0).schedule ready.in_range (λ i. image) (low_at_reset image) entered.enters entered.edges entered.last
            entered.run;
      }

  pub demo_halted : NeverStops → came ≡ status.Stopped → DemoHalted number
  demo_halted law is =
      let image = (given.output).image in
      let halted = (stopped_run told cert (demo_start image) write_fault came old new outcome is).1 in
      record {
        output = given.output;
        assembles = given.assembles;
        cert = cert;
        accepted = (ready.allowed.worth).1;
        unentered = λ clock position enters. law image cert (demo_start image) (demo_clocks cert) clock position holds ready.in_range
            (λ i. image) enters halted.edges halted.last halted.run;
      }
