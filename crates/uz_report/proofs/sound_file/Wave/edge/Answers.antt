use Rattle.std.proofs.Common.{◌∷◌, ◌++◌, ap, sym, ◌∙◌, subst}
use Rattle.uz_scan.specs.Scanning as scanning
use Rattle.uz_report.specs.Waves.{heard}
use Rattle.uz_report.proofs.Samples.{heard_at}
use Rattle.uz_report.proofs.sound_file.Wave.edge.Goals as goal

pub returns-clause-ok : goal.returns-clause-ok
returns-clause-ok c = λ edges holds. record {
  scanner = subst (λ s. scanning.StandsFor s (c.args.edge ∷ edges)) (sym c.take.ensures.same)
      (c.edge-shown.ensures.stands edges holds.scanner);
  sounds = c.take.ensures.sounds
      ∙ (ap (λ xs. xs ++ heard c.edge-shown.result) (c.reserve.ensures.items ∙ holds.sounds)
      ∙ sym (heard_at c.args.edge edges c.edge-shown.result (c.edge-shown.ensures.shown edges holds.scanner)));
}
