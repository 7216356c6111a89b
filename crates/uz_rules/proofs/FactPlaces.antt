-- What is known of a byte at a place, by the fact that stands there.
use Rattle.uz_rules.proofs.Common.{◌<◌, ◌≡◌, ℕ, List, length, map, slice_index_or, Fact, Range, val_of, cell_span, ends, value_at, span_at}
use Rattle.uz_rules.proofs.Common.{get_or-map}

pub value_of_fact : (l c : ℕ) (facts : List Fact) (i : ℕ) (d : Fact) → i < length facts
    → value_at (map (val_of l c) facts) i ≡ val_of l c (slice_index_or facts i d)
value_of_fact l c facts i d h = get_or-map (val_of l c) facts i d (Range (ends 0 255)) h

pub span_of_fact : (l c : ℕ) (facts : List Fact) (i : ℕ) (d : Fact) → i < length facts
    → span_at (map (cell_span l c) facts) i ≡ cell_span l c (slice_index_or facts i d)
span_of_fact l c facts i d h = get_or-map (cell_span l c) facts i d (ends 0 255) h
