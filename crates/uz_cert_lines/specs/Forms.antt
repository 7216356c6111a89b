-- The form of a line: what is due at each place, from left to right, where a later place may depend on earlier ones.
use Rattle.std.specs.Prelude.{ℕ, ℤ, List, [], ◌∷◌, Result, Ok, if◌then◌else◌}
use Rattle.uz_schedule.specs.Ends.{Ends}
use Rattle.uz_schedule.specs.declared.header.Cell.{Cell}
use Rattle.uz_schedule.specs.declared.kinds.Kind.TheVariants.{Handler}
use Rattle.uz_cert_lines.specs.Why.{◌>>=◌}
use Rattle.uz_cert_lines.specs.Grammar.{Words, rest_of, next_as, fixed_of, number_of, choice_of, slope_of, end_of}
use Rattle.uz_cert_lines.specs.Values.{span_of}
use Rattle.uz_cert_lines.specs.Items.{read_items}
use Rattle.uz_schedule.specs.Tracked.{tracks}
use Rattle.uz_cert_lines.specs.declared.words.NumberBounds.{NumberBounds}
use Rattle.uz_cert_lines.specs.declared.items.Shape.{Shape}
use Rattle.uz_cert_lines.specs.declared.items.Facts.{Facts}
use Rattle.uz_cert_lines.specs.declared.lines.ParsedLine.{ParsedLine}
use Rattle.uz_cert_lines.specs.declared.why.CertWhy.{CertWhy}

-- a range for each cell of the handler

abbrev pub with_span : Ends → Result (List Ends × Words) CertWhy → Result (List Ends × Words) CertWhy
with_span e later = later >>= (λ p. Ok (e ∷ p.0, p.1))

abbrev pub spans_of : List Cell → Words → Result (List Ends × Words) CertWhy
spans_of [] words = Ok ([], words)
spans_of (c ∷ cs) words =
    if tracks Handler c.owner
    then next_as (span_of c.range) words >>= (λ e. with_span e (spans_of cs (rest_of words)))
    else spans_of cs words

pub data LineForm : Type 0 where
  fixed : List ℕ → LineForm → LineForm
  number : NumberBounds → (ℕ → LineForm) → LineForm
  choice : List (List ℕ) → (ℕ → LineForm) → LineForm
  slope : ℕ → (ℤ → LineForm) → LineForm
  spans : List Cell → (List Ends → LineForm) → LineForm
  items : Shape → List Cell → (Facts → ParsedLine) → LineForm
  finish : ParsedLine → LineForm

abbrev pub reads : LineForm → Words → Result ParsedLine CertWhy
reads (fixed wanted form) words = next_as (fixed_of wanted) words >>= (λ n. reads form (rest_of words))
reads (number a form) words = next_as (number_of a) words >>= (λ n. reads (form n) (rest_of words))
reads (choice wanted form) words = next_as (choice_of wanted) words >>= (λ n. reads (form n) (rest_of words))
reads (slope limit form) words = next_as (slope_of limit) words >>= (λ n. reads (form n) (rest_of words))
reads (spans cells form) words = spans_of cells words >>= (λ p. reads (form p.0) p.1)
reads (items shape cells say) words = read_items shape cells words >>= (λ facts. Ok (say facts))
reads (finish said) words = end_of words.ended words.list >>= (λ n. Ok said)
