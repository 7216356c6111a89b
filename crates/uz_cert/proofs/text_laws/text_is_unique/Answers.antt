use Rattle.uz_cert.proofs.Common.{◌≡◌, ℕ, List, sym, ◌∙◌, ap, subst, WellFormed, Cert, Two, text_version, First, Second, spelling}
use Rattle.uz_cert.proofs.Common.{cert_of_text, version_told, IsCertificateText, IsOfVersion}
use Rattle.uz_cert.proofs.Told.{own_version, told_version, text_tells}
use Rattle.uz_cert.proofs.{Lines.LineSpelling, TextLaws.told, TextLaws.same_cert, WholeText.spelling_read, WholeText.text_spelled}
use Rattle.uz_cert.specs.{Reading.cert_told, Texts.IsToldText, Texts.own_text}
use Rattle.uz_cert.proofs.text_laws.text_is_unique.Goals as goal

pub returns : goal.returns
returns c = record {
  read = text_spelled l;
  read_own = read_own;
  again = spelling_read l;
  again_2 = again_2;
  again_own = again_own;
  spelled = λ v t x h. text_spelled l v t x (c.text_or_fault.ensures.again v t x h);
  spelled_own = λ t x h. read_own t x (c.text_or_fault.ensures.again (version_told t) t x h);
  is_text = λ v x w own. c.text_or_fault.ensures.read v (spelling v x) x (spelling_read l v x w own);
  is_text_2 = λ x w two. c.text_or_fault.ensures.read Second (spelling Second x) x (again_2 x w two);
  is_text_own = is_text_own;
  once = λ x y w z e. same_cert x y (sym (again_own x w) ∙ (ap cert_told e ∙ again_own y z));
  migrated = λ t x e. again_2 x (c.text_or_fault.ensures.fits First t x e).0 (c.text_or_fault.ensures.fits First t x e).1.rules;
}
  where
    l : LineSpelling
    l = record { again = c.said_lines.ensures.again; only = c.said_lines.ensures.only }

    again_2 : (x : Cert) → WellFormed x → x.head.version ≡ Two → cert_of_text Second (spelling Second x) ≡ told x
    again_2 x w two = spelling_read l Second x w (subst (λ rules. IsOfVersion (text_version rules) x) two (own_version x w))

    again_of : (x : Cert) → WellFormed x → cert_of_text (text_version x.head.version) (own_text x) ≡ told x
    again_of x w = spelling_read l (text_version x.head.version) x w (own_version x w)

    is_own : (x : Cert) → WellFormed x → IsCertificateText (text_version x.head.version) (own_text x) x
    is_own x w = c.text_or_fault.ensures.read (text_version x.head.version) (own_text x) x (again_of x w)

    tells : (x : Cert) → WellFormed x → version_told (own_text x) ≡ text_version x.head.version
    tells x w = text_tells x.head.version (own_text x) x (is_own x w)

    again_own : (x : Cert) → WellFormed x → cert_told (own_text x) ≡ told x
    again_own x w = ap (λ v. cert_of_text v (own_text x)) (tells x w) ∙ again_of x w

    is_text_own : (x : Cert) → WellFormed x → IsToldText (own_text x) x
    is_text_own x w = subst (λ v. IsCertificateText v (own_text x) x) (sym (tells x w)) (is_own x w)

    read_own : (t : List ℕ) (x : Cert) → cert_told t ≡ told x → t ≡ own_text x
    read_own t x e =
        let v = version_told t in
        text_spelled l v t x e
        ∙ ap (λ u. spelling u x) (told_version t ∙ ap text_version (sym (c.text_or_fault.ensures.fits v t x e).1.rules))
