-- Reading a certificate's text as a function on lists: the plain, slow reader.
use Rattle.std.specs.Prelude.{◌≡◌, ◌⊎◌, ℕ, ◌+◌, ◌==◌, Bool, true, false, List, [], ◌∷◌, length, bytes_eq, Option, Some, None, Result}
use Rattle.std.specs.Prelude.{Ok, Err, if◌then◌else◌}
use Rattle.std.specs.Borrow.{Bor}
use Rattle.std.specs.List.{slice_split}
use Prim.Native.Char.{code}
use Rattle.uz_schedule.specs.declared.certificate.Cert.{Cert}
use Rattle.uz_schedule.specs.declared.states.Entry.{Entry}
use Rattle.uz_cert_lines.specs.Why.{◌>>=◌}
use Rattle.uz_cert_lines.specs.Grammar.{Words, words_of}
use Rattle.uz_cert_lines.specs.Forms.{reads}
use Rattle.uz_cert_lines.specs.Lines.{head_line}
use Rattle.uz_cert_lines.specs.declared.version.Version.{Version}
use Rattle.uz_cert_lines.specs.declared.version.Version.TheVariants.{Second, Third}
use Rattle.uz_cert_lines.specs.declared.why.CertWhy.{CertWhy}
use Rattle.uz_cert_lines.specs.declared.why.CertWhy.TheVariants as why
use Rattle.uz_cert.specs.Drafts.{first_draft, expected_line, form_of, draft_after}
use Rattle.uz_cert.specs.declared.expected_line.ExpectedLine.{ExpectedLine}
use Rattle.uz_cert.specs.declared.draft.Draft.{Draft}
use Rattle.uz_cert.specs.declared.errors.CertError.{CertError}

-- a line's number, counted from 1, and why it is refused
abbrev pub Fault : Type 0
Fault = ℕ × CertWhy

-- the pieces of a text between its LF bytes: its lines, and what follows the last LF
abbrev pub pieces_of : List ℕ → List (List ℕ)
pieces_of text = slice_split (λ b. b == code "\n") text

abbrev pub pieces_left : Option (Bor (List ℕ)) → List (List ℕ)
pieces_left None = []
pieces_left (Some text) = pieces_of text.now

-- how much of a text is left to be read
abbrev pub bytes_left : Option (Bor (List ℕ)) → ℕ
bytes_left None = 0
bytes_left (Some text) = length text.now + 1

-- a piece ends in LF where another follows
abbrev pub is_more : List (List ℕ) → Bool
is_more [] = false
is_more (line ∷ lines) = true

abbrev pub words_in : List ℕ → Bool → Words
words_in line ended = record { list = words_of line; ended = ended }

abbrev pub head_says : Version → List ℕ → Bool → Result Draft CertWhy
head_says version line ended =
    if bytes_eq line (head_line version) then (if ended then Ok (first_draft version) else Err why.NoEnd) else Err why.Head

-- what the lines say with one more
unfoldable pub line_says : Draft → ExpectedLine → List ℕ → Bool → Result Draft CertWhy
line_says d expected line ended = reads (form_of d expected) (words_in line ended) >>= (λ said. Ok (draft_after d said))

abbrev pub or_fault : ℕ → Result Draft CertWhy → (Draft → Result Cert Fault) → Result Cert Fault
or_fault n (Ok d) more = more d
or_fault n (Err w) more = Err (n, w)

-- the certificate of what the lines say
abbrev pub cert_from : Draft → Entry → Cert
cert_from d e = record {
  head = d.head;
  schedule = record { kinds = d.kinds; lengths = d.lengths; lines = d.lines; fall = d.fall };
  rests = d.rests;
  entry = e;
  points = d.points;
}

abbrev pub cert_with : Draft → Option Entry → Result Cert Fault
cert_with d None = Err (d.read, why.NoEnd)
cert_with d (Some e) = Ok (cert_from d e)

-- the certificate of the lines up to `end`, where nothing follows their last LF
unfoldable pub cert_before : Draft → List ℕ → List (List ℕ) → Result Cert Fault
cert_before d [] [] = cert_with d d.entry
cert_before d (b ∷ bs) lines = Err (d.read + 1, why.NoEnd)
cert_before d [] (line ∷ lines) = Err (d.read + 1, why.NoEnd)

abbrev pub read_by : Option ExpectedLine → Draft → List ℕ → List (List ℕ) → (Draft → Result Cert Fault) → Result Cert Fault
read_by None d line lines more = cert_before d line lines
read_by (Some expected) d line lines more = or_fault (d.read + 1) (line_says d expected line (is_more lines)) more

-- the certificate of these pieces after what was read
abbrev pub read_from : Draft → List (List ℕ) → Result Cert Fault
read_from d [] = Err (d.read, why.NoEnd)
read_from d (line ∷ lines) = read_by (expected_line d) d line lines (λ more. read_from more lines)

abbrev pub read_pieces : Version → List (List ℕ) → Result Cert Fault
read_pieces version [] = Err (1, why.Head)
read_pieces version (line ∷ lines) = or_fault 1 (head_says version line (is_more lines)) (λ d. read_from d lines)

-- the certificate of a text of a version, or the text's first fault
abbrev pub cert_of_text : Version → List ℕ → Result Cert Fault
cert_of_text version text = read_pieces version (pieces_of text)

-- the version that a text is to be of: 3 where its first line says so, and else 2

abbrev pub version_by : List (List ℕ) → Version
version_by [] = Second
version_by (line ∷ lines) = if bytes_eq line (head_line Third) then Third else Second

unfoldable pub version_told : List ℕ → Version
version_told text = version_by (pieces_of text)

-- the certificate of a text of the version that it tells, or the text's first fault
abbrev pub cert_told : List ℕ → Result Cert Fault
cert_told text = cert_of_text (version_told text) text

abbrev pub IsMemory : CertError → Type 0
IsMemory e = (e.line ≡ 0) × (e.why ≡ why.Memory)

-- what came is what reading gives, unless memory ran out
abbrev pub Gives : Result Cert CertError → Result Cert Fault → Type 0
Gives (Ok c) read = read ≡ Ok c
Gives (Err e) read = IsMemory e ⊎ (read ≡ Err (e.line, e.why))
