use Rattle.uz_cert_lines.specs.declared.version.Version.TheVariants.{First}
use Rattle.uz_cert.specs.Reading.{version_told}
use Rattle.uz_cert.specs.Texts.{own_text}
use Rattle.uz_certificate_commands.proofs.MigrateLemmas.{TextLaws, text_kept}
use Rattle.uz_certificate_commands.proofs.migrate_law.migration_keeps_acceptance.Goals as goal

pub returns : goal.returns
returns c =
    let text = c.text_or_fault.ensures in
    let laws : TextLaws = record {
      fits = λ older cert is. text.fits First older cert (text.again First older cert is);
      one_old = text.one_certificate First;
      one_new = λ t. text.one_certificate (version_told t) t;
      same = c.old_rules_accept_the_same.ensures;
    } in
    record {
      written = λ image older cert is. text_kept laws image older (own_text cert) cert is
          (c.text_is_unique.ensures.is_text_own cert (laws.fits older cert is).0);
      rules = λ older cert is. (laws.fits older cert is).1.rules;
      kept = text_kept laws;
    }
