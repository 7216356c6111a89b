-- What a play is worth.
use Rattle.std.proofs.Common.{◌≡◌, ℕ, ◌%◌, List, ap, arith}
use Rattle.std.specs.Prelude.{Option}
use Rattle.std.proofs.lemmas.List.{get_or-replicate}
use Rattle.uz_shelf.specs.Files.{FileMap}
use Rattle.uz_hex.specs.Reading.{Flash}
use Rattle.uz_schedule.specs.declared.certificate.Cert.{Cert}
use Rattle.uz_schedule.specs.declared.kinds.Response.{Response}
use Rattle.uz_pads.specs.declared.pads.Pad.{Pad}
use Rattle.uz_core.specs.Turn.{sync_level}
use Rattle.uz_console.specs.declared.console.Console.{Console}
use Rattle.uz_files.specs.declared.status.Status.{Status}
use Rattle.uz_files.specs.declared.status.Status.TheVariants as status
use Rattle.uz_files.specs.Answers.{MayCome, Outside}
use Rattle.uz_certificate_commands.specs.PlayCommand.{FilesHalted, FilesPlayed}
use Rattle.uz_certificate_commands.specs.Runs.{IsFramedPart, IsFramedRun}
use Rattle.uz_certificate_commands.specs.PlayValues.{IsReady}
use Rattle.uz_files.specs.RunFiles.{start_of}
use Rattle.uz_certificate_commands.proofs.RunWorthLemmas.{RunsKeep, NeverStops, done_run, stopped_run}

-- sync is low at reset
low_at_reset : (image : Flash) (list : List Pad) (irq : Response) → sync_level (start_of image list irq).space ≡ 0
low_at_reset image list irq = ap (λ n. n % 2) (get_or-replicate 4352 37 0 0 (omega arith))

module _ (files : Option FileMap) (hex cert pads frames : List ℕ) (clocks : ℕ) (console : Console) (certificate : Cert)
    (ready : IsReady files hex cert pads console certificate) (write_fault : Type 0) (came : Status) (old new : Outside)
    (outcome : MayCome (IsFramedRun frames certificate clocks (start_of ready.image ready.list certificate.head.irq))
    (IsFramedPart frames clocks (start_of ready.image ready.list certificate.head.irq)) write_fault came old new) where
  pub is_played : RunsKeep → came ≡ status.Done → FilesPlayed files hex cert pads clocks
  is_played law is =
      let start = start_of ready.image ready.list certificate.head.irq in
      let entered = (done_run frames certificate clocks start write_fault came old new outcome is).1 in
      record {
        image = ready.image;
        certificate = certificate;
        list = ready.list;
        spelled = ready.spelled;
        edges = entered.edges;
        last = entered.last;
        run = entered.run;
        clock = entered.clock;
        position = entered.position;
        enters = entered.enters;
        keeps = law ready.image certificate start clocks entered.clock entered.position ready.certified (ready.accepted).steady
            (ready.formed).schedule ready.in_range (λ i. ready.image)
            (low_at_reset ready.image ready.list certificate.head.irq) entered.enters entered.edges entered.last entered.run;
      }

  pub is_halted : NeverStops → came ≡ status.Stopped → FilesHalted files hex cert pads clocks
  is_halted law is =
      let start = start_of ready.image ready.list certificate.head.irq in
      let halted = (stopped_run frames certificate clocks start write_fault came old new outcome is).1 in
      record {
        image = ready.image;
        certificate = certificate;
        list = ready.list;
        spelled = ready.spelled;
        unentered = λ clock position enters. law ready.image certificate start clocks clock position ready.certified ready.in_range
            (λ i. ready.image) enters halted.edges halted.last halted.run;
      }
