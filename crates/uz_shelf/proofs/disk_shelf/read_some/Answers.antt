use Rattle.std.proofs.Common.{ℕ, List, length, take, ◌≡◌, ◌≤◌, ◌++◌, arith, ◌∙◌, ap}
use Rattle.std.proofs.lemmas.List.{take-append-le}
use Rattle.uz_shelf.proofs.disk_shelf.read_some.Goals as goal

-- what is taken of a list lies within its front, which is as long as it was
front : (new old was piece rest : List ℕ) (count : ℕ) → length piece ≡ length was → count ≤ length was →
    new ≡ old ++ take count (piece ++ rest) → new ≡ old ++ take count piece
front new old was piece rest count same within is =
    is ∙ ap (λ part. old ++ part) (take-append-le count piece rest (omega (arith, same, within)))

pub returns-clause-read : goal.returns-clause-read
returns-clause-read g c = (
  take c.in_ok-count.count c.read.new.buffer,
  front _ _ _ c.read.new.buffer _ c.in_ok-count.count c.read.auto.buffer c.in_ok-count.ensures.bound
      c.in_ok-extend_from_slice.ensures.items,
  c.in_ok-count.ensures.bytes.0,
)
