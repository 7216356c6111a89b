-- The version that a text tells, and the one that a certificate's rules have.
use Rattle.uz_cert.proofs.Common.{and_true, ◌≡◌, ℕ, Bool, true, false, cond, ◌&&◌, List, [], ◌∷◌, ◌++◌, All, bytes_eq, refl, ◌∙◌, ap}
use Rattle.uz_cert.proofs.Common.{All-nil, All-cons, is_length, clocks_below, lengths_fit, WellFormed, Cert, RuleVersion, Two, Three}
use Rattle.uz_cert.proofs.Common.{Event, Point, head_line, rules_of, text_version, IsLengthIn, IsPointIn, Second, Third, pieces_of}
use Rattle.uz_cert.proofs.Common.{version_told, IsCertificateText, IsOfVersion}
use Rattle.uz_cert.specs.Reading.{version_by}

-- a text of version 2 or 3 tells it

head_tells : (rules : RuleVersion) (lines : List (List ℕ)) → version_by (head_line (text_version rules) ∷ lines) ≡ text_version rules
head_tells Two lines = refl
head_tells Three lines = refl

pub text_tells : (rules : RuleVersion) (text : List ℕ) (c : Cert) → IsCertificateText (text_version rules) text c
    → version_told text ≡ text_version rules
unfolding version_told
text_tells rules text c is = ap version_by is.parts ∙ head_tells rules (is.lines ++ [] ∷ [])

-- and what is told is version 2 or 3
told_by : (pieces : List (List ℕ)) → version_by pieces ≡ text_version (rules_of (version_by pieces))
told_by [] = refl
told_by (line ∷ lines) = by (bytes_eq line (head_line Third))
  where
    by : (t : Bool) → cond t Third Second ≡ text_version (rules_of (cond t Third Second))
    by true = refl
    by false = refl

pub told_version : (text : List ℕ) → version_told text ≡ text_version (rules_of (version_told text))
unfolding version_told
told_version text = told_by (pieces_of text)

-- a well formed certificate says what a text of its rules' version can say

rules_back : (rules : RuleVersion) → rules ≡ rules_of (text_version rules)
rules_back Two = refl
rules_back Three = refl

own_length : (rules : RuleVersion) (n : ℕ) → is_length n ≡ true → IsLengthIn (text_version rules) n
own_length Two n h = h
own_length Three n h = h

own_point : (rules : RuleVersion) (p : Point) → IsPointIn (text_version rules) p
own_point Two p = tt
own_point Three p = tt

own_lengths : (rules : RuleVersion) (kinds : List (List Event)) (lengths : List ℕ) → lengths_fit kinds lengths ≡ true
    → All (IsLengthIn (text_version rules)) lengths
own_lengths rules [] [] h = All-nil (IsLengthIn (text_version rules))
own_lengths rules [] (n ∷ lengths) h = absurd cc
own_lengths rules (es ∷ kinds) [] h = absurd cc
own_lengths rules (es ∷ kinds) (n ∷ lengths) h =
    let both = and_true (is_length n && clocks_below es n) (lengths_fit kinds lengths) h in
    let this = and_true (is_length n) (clocks_below es n) both.0 in
    All-cons (IsLengthIn (text_version rules)) n lengths (own_length rules n this.0) (own_lengths rules kinds lengths both.1)

own_points : (rules : RuleVersion) (points : List Point) → All (IsPointIn (text_version rules)) points
own_points rules [] = All-nil (IsPointIn (text_version rules))
own_points rules (p ∷ points) = All-cons (IsPointIn (text_version rules)) p points (own_point rules p) (own_points rules points)

pub own_version : (c : Cert) → WellFormed c → IsOfVersion (text_version c.head.version) c
own_version c w = record {
  rules = rules_back c.head.version;
  lengths = own_lengths c.head.version c.schedule.kinds c.schedule.lengths w.schedule.lengths;
  points = own_points c.head.version c.points;
}
