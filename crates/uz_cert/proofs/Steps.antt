-- One piece more is read.
use Rattle.uz_cert.proofs.Common.{◌≡◌, ℕ, ◌+◌, Bool, true, List, [], ◌∷◌, refl, sym, ◌∙◌, ap, Some, Result, Ok, Err, Cert, CertWhy}
use Rattle.uz_cert.proofs.Common.{expected_line, Fault, is_more, pieces_of, line_says, or_fault, cert_before, read_by, read_from}
use Rattle.uz_cert.proofs.Common.{ExpectedLine, Draft}
use Rattle.uz_cert.proofs.Pieces.{some_piece}
use Rattle.uz_cert_lines.specs.declared.why.CertWhy.TheVariants as why

read_due : (d : Draft) (expected : ExpectedLine) (line : List ℕ) (rest : List (List ℕ)) → expected_line d ≡ Some expected
    → read_from d (line ∷ rest) ≡ or_fault (d.read + 1) (line_says d expected line (is_more rest)) (λ more. read_from more rest)
read_due d expected line rest e = ap (λ o. read_by o d line rest (λ more. read_from more rest)) e

pub step_on : (d e : Draft) (expected : ExpectedLine) (line : List ℕ) (pieces rest : List (List ℕ)) (ended : Bool) → pieces ≡ line ∷ rest
    → expected_line d ≡ Some expected
    → ended ≡ is_more rest → line_says d expected line ended ≡ Ok e → read_from e rest ≡ read_from d pieces
step_on d e expected line pieces rest ended p is more says =
    sym (ap (read_from d) p ∙ (read_due d expected line rest is
    ∙ ap (λ r. or_fault (d.read + 1) r (λ m. read_from m rest)) (ap (line_says d expected line) (sym more) ∙ says)))

pub step_fault : (d : Draft) (expected : ExpectedLine) (line : List ℕ) (pieces rest : List (List ℕ)) (ended : Bool) (w : CertWhy) → pieces ≡ line ∷ rest
    → expected_line d ≡ Some expected → ended ≡ is_more rest → line_says d expected line ended ≡ Err w → read_from d pieces ≡ Err (d.read + 1, w)
step_fault d expected line pieces rest ended w p is more says =
    ap (read_from d) p ∙ (read_due d expected line rest is
    ∙ ap (λ r. or_fault (d.read + 1) r (λ m. read_from m rest)) (ap (line_says d expected line) (sym more) ∙ says))

abbrev late : Draft → Result Cert Fault
late d = Err (d.read + 1, why.NoEnd)

late_by : (d : Draft) (line : List ℕ) (rest : List (List ℕ)) → is_more rest ≡ true → cert_before d line rest ≡ late d
unfolding cert_before
late_by d [] [] h = absurd cc
late_by d [] (piece ∷ rest) h = refl
late_by d (b ∷ bs) rest h = refl

-- where more follows the last line, it is too late
pub late_piece : (d : Draft) (line text : List ℕ) → cert_before d line (pieces_of text) ≡ Err (d.read + 1, why.NoEnd)
late_piece d line text = late_by d line (pieces_of text) (some_piece text)
