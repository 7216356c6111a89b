-- The lines of a text that is read to its end, from the first to the last: each is spelled from what it says, and lacks line ends.
use Rattle.uz_cert.proofs.Common.{◌≡◌, ℕ, ◌+◌, List, [], ◌∷◌, ◌++◌, refl, sym, ◌∙◌, ap, subst, append_assoc, Option, Some, None, Lacks}
use Rattle.uz_cert.proofs.Common.{Entry, Cert, ParsedLine, Version, first_draft, expected_line, draft_after, Kept, SaidFits, is_more}
use Rattle.uz_cert.proofs.Common.{words_in, line_says, cert_from, cert_with, cert_before, read_by, read_from, expected_as, said_words}
use Rattle.uz_cert.proofs.Common.{ExpectedLine, Draft, EachLacks, with_said, ◌-◌, Bool, true, false, eqb, Result, Ok, Err, IfOk}
use Rattle.uz_cert.proofs.Common.{WellFormed, rules_of, IsOfVersion, CertError}
use Rattle.uz_hex.proofs.Plain.{lacks_nil}
use Rattle.uz_cert.proofs.ExpectedLineLaws.{IsExpected, is_expected, is_whole}
use Rattle.uz_cert.proofs.LinesSoFar.{so_far, so_far_after, later_lines, whole_text}
use Rattle.uz_cert.proofs.{Whole.whole_fits, SpelledText.spelled, KeptLaws.first_kept, KeptLaws.kept_after, Lines.LineSpelling}
use Rattle.uz_cert.proofs.{Lines.joined, Lines.no_line_end, TextLaws.told, TextLaws.same_cert, TextLaws.says_ok, TextLaws.fault_ok}
use Rattle.uz_cert_lines.specs.declared.lines.ParsedLine.TheVariants as parsed

-- within limits, and what a version says
abbrev pub FitsIn : Version → Cert → Type 0
FitsIn version c = WellFormed c × IsOfVersion version c

pub version_kept : (d : Draft) (s : ParsedLine) → (draft_after d s).version ≡ d.version
unfolding draft_after
version_kept d (parsed.Size s) = refl
version_kept d (parsed.Irq r) = refl
version_kept d (parsed.Stack s) = refl
version_kept d (parsed.Cell c) = refl
version_kept d (parsed.Kind k) = refl
version_kept d (parsed.Event e) = by (eqb (d.owed - 1) 0) refl
  where
    by : (t : Bool) → eqb (d.owed - 1) 0 ≡ t → (with_said d (parsed.Event e)).version ≡ d.version
    by true h = rw h refl
    by false h = rw h refl
version_kept d (parsed.Fall clock) = refl
version_kept d (parsed.Run r) = refl
version_kept d (parsed.Rest r) = refl
version_kept d (parsed.Entry e) = refl
version_kept d (parsed.Point p) = refl
version_kept d parsed.End = refl

-- what is answered of a version has its rules
pub version_rules : (version : Version) (result : Result Cert CertError) → IfOk result (IsOfVersion version)
    → IfOk result (λ c. c.head.version ≡ rules_of version)
version_rules version (Ok c) own = own.rules
version_rules version (Err e) own = tt

-- the lines, one after another

-- the next line of a text that is read to its end
record NextRead (d : Draft) (line : List ℕ) (rest : List (List ℕ)) (c : Cert) : Type 0 where
  says : ParsedLine
  is : line ≡ spelled d.version d.head says
  expected : IsExpected d (expected_as says)
  fits : SaidFits d says
  kept : Kept (draft_after d says)
  more : read_from (draft_after d says) rest ≡ told c

next_read : (l : LineSpelling) (d : Draft) (expected : ExpectedLine) (line : List ℕ) (rest : List (List ℕ)) (c : Cert) → Kept d → expected_line d ≡ Some expected
    → read_from d (line ∷ rest) ≡ told c → NextRead d line rest c
next_read l d expected line rest c k is e =
    let f = fault_ok (d.read + 1) (line_says d expected line (is_more rest)) (λ x. read_from x rest) c
    (sym (ap (λ o. read_by o d line rest (λ x. read_from x rest)) is) ∙ e) in
    let s = says_ok d f.0 expected line (is_more rest) f.1 in
    let o = l.only d expected (words_in line (is_more rest)) s.0 k is s.1 in
    record {
      says = s.0;
      is = joined line (is_more rest) (said_words d.version d.head s.0) o.0;
      expected = subst (IsExpected d) o.1 (is_expected d expected k.begun is);
      fits = o.2;
      kept = kept_after d s.0 k (is ∙ ap (λ x. Some x) o.1) o.2;
      more = ap (λ x. read_from x rest) (sym s.2) ∙ f.2;
    }

-- all lines: none has a line end, they are those of the certificate, and it is well formed

at_end : (d : Draft) (line : List ℕ) (rest : List (List ℕ)) (c : Cert) → Kept d → expected_line d ≡ None → cert_before d line rest ≡ told c
    → EachLacks 10 (line ∷ rest) × (so_far d ++ line ∷ rest ≡ later_lines d.version c) × FitsIn d.version c
unfolding cert_before
at_end d [] [] c k is e = by d.entry refl e
  where
    by : (o : Option Entry) → d.entry ≡ o → cert_with d o ≡ told c
        → EachLacks 10 ([] ∷ []) × (so_far d ++ [] ∷ [] ≡ later_lines d.version c) × FitsIn d.version c
    by None entry h = absurd cc
    by (Some x) entry h =
        let w = is_whole d k.begun is in
        let same = same_cert (cert_from d x) c h in (
          (lacks_nil 10, tt),
          whole_text d x k w.states.after.body w entry ∙ ap (later_lines d.version) same,
          subst (FitsIn d.version) same
              (whole_fits d x k is entry, record { rules = k.rules; lengths = k.schedule.1.own; points = k.states.2.own }),
        )
at_end d [] (piece ∷ rest) c k is e = absurd cc
at_end d (b ∷ bs) rest c k is e = absurd cc

lines_read : (l : LineSpelling) (d : Draft) (pieces : List (List ℕ)) (c : Cert) → Kept d → read_from d pieces ≡ told c
    → EachLacks 10 pieces × (so_far d ++ pieces ≡ later_lines d.version c) × FitsIn d.version c
lines_read l d [] c k h = absurd cc
lines_read l d (line ∷ rest) c k h = by (expected_line d) refl (λ m km g. lines_read l m rest c km g)
  where
    by : (o : Option ExpectedLine) → expected_line d ≡ o
        → ((m : Draft) → Kept m → read_from m rest ≡ told c
        → EachLacks 10 rest × (so_far m ++ rest ≡ later_lines m.version c) × FitsIn m.version c)
        → EachLacks 10 (line ∷ rest) × (so_far d ++ line ∷ rest ≡ later_lines d.version c) × FitsIn d.version c
    by None is later = at_end d line rest c k is (sym (ap (λ o. read_by o d line rest (λ x. read_from x rest)) is) ∙ h)
    by (Some expected) is later =
        let n = next_read l d expected line rest c k is h in
        let w = spelled d.version d.head n.says in
        let others = later (draft_after d n.says) n.kept n.more in (
          (subst (Lacks 10) (sym n.is) (no_line_end d.version d.head n.says), others.0),
          ap (λ t. so_far d ++ t ∷ rest) n.is
              ∙ sym (append_assoc (so_far d) (w ∷ []) rest)
              ∙ ap (λ t. t ++ rest) (sym (so_far_after d k n.says n.expected n.fits))
              ∙ others.1
              ∙ ap (λ v. later_lines v c) (version_kept d n.says),
          subst (λ v. FitsIn v c) (version_kept d n.says) others.2,
        )

pub lines_back : (l : LineSpelling) (v : Version) (pieces : List (List ℕ)) (c : Cert) → read_from (first_draft v) pieces ≡ told c
    → EachLacks 10 pieces × (pieces ≡ later_lines v c) × FitsIn v c
lines_back l v pieces c h = lines_read l (first_draft v) pieces c (first_kept v) h
