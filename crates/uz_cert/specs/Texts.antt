-- Which texts are a certificate's, and what the first fault of another is: a relation over all lines. Each line is read as
-- the one that is due after the lines before it, and the first that isn't as is due is the faulty one.
use Rattle.std.specs.Prelude.{◌≡◌, ◌≢◌, ◌⊎◌, ℕ, ◌+◌, true, List, [], ◌∷◌, ◌++◌, All, length, Option, Some, None}
use Rattle.uz_schedule.specs.declared.states.Entry.{Entry}
use Rattle.uz_schedule.specs.declared.certificate.Cert.{Cert}
use Rattle.uz_cert_lines.specs.FirstFault.{Allows, HasFirstFault}
use Rattle.uz_cert_lines.specs.Lines.{head_line, rules_of, text_version, IsLengthIn, IsPointIn}
use Rattle.uz_cert_lines.specs.declared.lines.ParsedLine.{ParsedLine}
use Rattle.uz_cert_lines.specs.declared.version.Version.{Version}
use Rattle.uz_cert_lines.specs.declared.why.CertWhy.{CertWhy}
use Rattle.uz_cert_lines.specs.declared.why.CertWhy.TheVariants as why
use Rattle.uz_cert_writer.specs.Spelling.{spelling}
use Rattle.uz_cert.specs.Drafts.{first_draft, expected_line, form_of, draft_after}
use Rattle.uz_cert.specs.Reading.{pieces_of, is_more, version_told, words_in, cert_from}
use Rattle.uz_cert.specs.declared.expected_line.ExpectedLine.{ExpectedLine}
use Rattle.uz_cert.specs.declared.draft.Draft.{Draft}

-- a line that is as is due after what was read, and what is read with it
pub record Adds (d : Draft) (line : List ℕ) (e : Draft) : Type 0 where
  pub expected : ExpectedLine
  pub is_expected : expected_line d ≡ Some expected
  pub said : ParsedLine
  pub allowed : Allows (form_of d expected) (words_in line true) said
  pub leads : e ≡ draft_after d said

-- lines that are as is due, each ended by LF, lead from one draft to another
abbrev pub Reaches : Draft → List (List ℕ) → Draft → Type 0
Reaches d [] e = e ≡ d
Reaches d (line ∷ lines) e = (next : Draft) × Adds d line next × Reaches next lines e

-- the head and lines that are as is due, up to `end` and its LF, and nothing after them
pub record SpellsCertificate (version : Version) (pieces : List (List ℕ)) (c : Cert) : Type 0 where
  pub lines : List (List ℕ)
  pub parts : pieces ≡ head_line version ∷ lines ++ [] ∷ []
  pub draft : Draft
  pub reaches : Reaches (first_draft version) lines draft
  pub whole : expected_line draft ≡ None
  pub entry : Entry
  pub has_entry : draft.entry ≡ Some entry
  pub is : c ≡ cert_from draft entry

-- what a version says: it tells the rules, and in version 1 each length is a scanline's, and nothing is said of the timer
pub record IsOfVersion (version : Version) (c : Cert) : Type 0 where
  pub rules : c.head.version ≡ rules_of version
  pub lengths : All (IsLengthIn version) c.schedule.lengths
  pub points : All (IsPointIn version) c.points

-- a text of a version is this certificate's
abbrev pub IsCertificateText : Version → List ℕ → Cert → Type 0
IsCertificateText version text c = SpellsCertificate version (pieces_of text) c

-- what is wrong with a first line: it isn't the head, or it is and doesn't end in LF
abbrev pub HeadFails : Version → List ℕ → List (List ℕ) → CertWhy → Type 0
HeadFails version line rest w =
    ((line ≢ head_line version) × (w ≡ why.Head)) ⊎ ((line ≡ head_line version) × (rest ≡ []) × (w ≡ why.NoEnd))

-- what is wrong with a later line: it has a first fault as the line that is due, or none is due any more
abbrev pub LineFails : Option ExpectedLine → Draft → List ℕ → List (List ℕ) → CertWhy → Type 0
LineFails None d line rest w = ((line ≢ []) ⊎ (rest ≢ [])) × (w ≡ why.NoEnd)
LineFails (Some expected) d line rest w = HasFirstFault (form_of d expected) (words_in line (is_more rest)) w

-- the first line has this fault
pub record FailsAtHead (version : Version) (pieces : List (List ℕ)) (n : ℕ) (w : CertWhy) : Type 0 where
  pub line : List ℕ
  pub rest : List (List ℕ)
  pub parts : pieces ≡ line ∷ rest
  pub number : n ≡ 1
  pub fails : HeadFails version line rest w

-- the head and the lines after it are as is due, and the next one has this fault
pub record FailsLater (version : Version) (pieces : List (List ℕ)) (n : ℕ) (w : CertWhy) : Type 0 where
  pub before : List (List ℕ)
  pub line : List ℕ
  pub rest : List (List ℕ)
  pub parts : pieces ≡ head_line version ∷ before ++ line ∷ rest
  pub draft : Draft
  pub reaches : Reaches (first_draft version) before draft
  pub number : n ≡ length before + 2
  pub fails : LineFails (expected_line draft) draft line rest w

-- the first fault of a text that is to be of a version, and the number of its line, counted from 1
abbrev pub IsFirstFault : Version → List ℕ → ℕ → CertWhy → Type 0
IsFirstFault version text n w = FailsAtHead version (pieces_of text) n w ⊎ FailsLater version (pieces_of text) n w

-- A text as it is read where no version is asked for: it is to be of the version that it tells

-- the text is this certificate's
abbrev pub IsToldText : List ℕ → Cert → Type 0
IsToldText text c = IsCertificateText (version_told text) text c

-- its first fault, and the number of its line
abbrev pub IsToldFault : List ℕ → ℕ → CertWhy → Type 0
IsToldFault text n w = IsFirstFault (version_told text) text n w

-- the text that is written of a certificate, which is of the version of its rules
abbrev pub own_text : Cert → List ℕ
own_text c = spelling (text_version c.head.version) c
