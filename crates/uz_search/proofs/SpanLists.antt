-- Ranges that compare equal are one.
use Rattle.uz_search.proofs.Common.{◌≡◌, true, ◌&&◌, List, [], ◌∷◌, refl, subst, eq-eqb}
use lib.Pointwise.{pointwise}
use Rattle.uz_schedule.specs.declared.ranges.Span.{Span}
use Rattle.uz_schedule.specs.Exact.{exact_list, exact_span}
use Rattle.uz_schedule.specs.contracts.ranges.SpanPartialEq as spans

own_span : (a : Span) → (spans.TheImpl.eq-value).it a a ≡ true
own_span a = λ i. eq-eqb a.lo a.lo refl i && eq-eqb a.hi a.hi refl i

own_spans : (xs : List Span) → pointwise (spans.TheImpl.eq-value).it xs xs ≡ true
own_spans [] = refl
own_spans (x ∷ xs) = λ i. own_span x i && own_spans xs i

pub equal_spans : (xs ys : List Span) → pointwise (spans.TheImpl.eq-value).it xs ys ≡ true → xs ≡ ys
equal_spans xs ys h = exact_list (spans.TheImpl.eq-value).it exact_span xs ys h

pub spans_equal : (xs ys : List Span) → xs ≡ ys → pointwise (spans.TheImpl.eq-value).it xs ys ≡ true
spans_equal xs ys e = subst (λ l. pointwise (spans.TheImpl.eq-value).it xs l ≡ true) e (own_spans xs)
