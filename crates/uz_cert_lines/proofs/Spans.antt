-- Reading one more range.
use Rattle.std.proofs.Common.{◌≡◌, List, [], ◌∷◌, ◌++◌, refl, ap, append_assoc}
use Rattle.std.specs.Prelude.{Result, Ok, Err}
use Rattle.uz_schedule.specs.Ends.{Ends}
use Rattle.uz_cert_lines.specs.{Grammar.Words, Forms.with_span, declared.why.CertWhy.CertWhy}

-- the same with these in front
abbrev pub spans_behind : List Ends → Result (List Ends × Words) CertWhy → Result (List Ends × Words) CertWhy
spans_behind front (Ok p) = Ok (front ++ p.0, p.1)
spans_behind front (Err w) = Err w

pub behind_more : (front : List Ends) (e : Ends) (later : Result (List Ends × Words) CertWhy)
    → spans_behind (front ++ e ∷ []) later ≡ spans_behind front (with_span e later)
behind_more front e (Ok p) = ap (λ es. Ok (es, p.1)) (append_assoc front (e ∷ []) p.0)
behind_more front e (Err w) = refl
