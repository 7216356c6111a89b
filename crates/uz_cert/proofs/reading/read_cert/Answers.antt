use Rattle.uz_cert.proofs.Common.{◌≡◌, ◌⊎◌, ℕ, sym, subst, Ok, Err, IfErr, IfOk, Cert, Two, Three, rules_of, CertWhy, Gives, IsMemory}
use Rattle.uz_cert.proofs.Common.{cert_of_text, version_told, IsCertificateText, IsFirstFault}
use Rattle.uz_cert.proofs.{Told.text_tells, NextLine.version_rules}
use Rattle.uz_cert.proofs.reading.read_cert.Goals as goal

pub returns : goal.returns
returns c =
    let text = c.args.text.now in
    let result = c.read_version.result in
    let told : c.version_of.result ≡ version_told text = c.version_of.ensures in
    let reads = c.read_version.ensures in
    let only = subst (λ v. (x : Cert) → IsCertificateText v text x → Gives result (Ok x)) told reads.only in
    record {
      found = subst (λ v. IfOk result (λ x. IsCertificateText v text x)) told reads.found;
      only = only;
      only_2 = λ x is. only x (subst (λ v. IsCertificateText v text x) (sym (text_tells Two text x is)) is);
      only_3 = λ x is. only x (subst (λ v. IsCertificateText v text x) (sym (text_tells Three text x is)) is);
      well_formed = reads.well_formed;
      rules = subst (λ v. IfOk result (λ x. x.head.version ≡ rules_of v)) told
          (version_rules c.version_of.result result reads.version);
      first = subst (λ v. IfErr result (λ e. IsMemory e ⊎ IsFirstFault v text e.line e.why)) told reads.first;
      faulty = subst (λ v. (line : ℕ) (why : CertWhy) → IsFirstFault v text line why → Gives result (Err (line, why))) told reads.faulty;
      exact = subst (λ v. Gives result (cert_of_text v text)) told reads.exact;
    }
