-- Lines that hints say to have half a scanline's clocks: no two hints share one, and the fall is a clock of each line.
use Rattle.std.proofs.Common.{◌≡◌, sym, subst, refl, arith, ℕ, suc, ◌<◌, ◌≤◌, Bool, true, false, List, [], ◌∷◌}
use Rattle.std.proofs.Common.{true≢false}
use Rattle.std.specs.Prelude.{Option, Some, nat_le, ◌&&◌, ◌||◌, slice_get, if◌then◌else◌}
use Rattle.std.specs.Ordering.{nat_cmp}
use Rattle.std.specs.FinMap.{FinMap}
use Rattle.std.proofs.lemmas.Bool.Decides.{nat_tests}
use Rattle.std.proofs.lemmas.Option.{slice_get_within}
use Rattle.std.proofs.lemmas.Bool.{or_parts}
use Rattle.avr_asm.specs.declared.output.Hint.{Hint}
use Rattle.avr_asm.specs.declared.output.Hint.TheVariants.{Half}
use Rattle.uz_schedule.specs.Schedule.{scanline, half_line}
use Rattle.uz_schedule.specs.declared.kinds.Response.{Response}
use Rattle.uz_paths.specs.declared.words.FrameSize.{FrameSize}
use Rattle.uz_paths.specs.declared.reading.Reading.{Reading}
use Rattle.uz_paths.specs.Words.{halves, halves_some, is_half, has_half, length_by, first_lines}
use Rattle.uz_paths.specs.Faults.{HalfFine, HalvesFit}
use Rattle.uz_paths.specs.Reading.{IsReading, ReadingFits, LengthsFit}

both_false : (a b : Bool) → a ≡ false → b ≡ false → (a || b) ≡ false
both_false true b h k = absurd (true≢false h)
both_false false b h k = k

-- Sharing a line

one_halved : (from to : ℕ) (h : Hint) → halves_some from to h ≡ false → (line : ℕ) → from ≤ line → line ≤ to → halves line h ≡ false
one_halved from to (Half first last) none line low high = grind (arith, nat_tests)
one_halved from to other none line low high = refl

-- where some line from one to another is named, it is the first or the hint's own first
one_shared : (from to : ℕ) (h : Hint) → ((line : ℕ) → from ≤ line → line ≤ to → halves line h ≡ false) → halves_some from to h ≡ false
one_shared from to (Half first last) none = by_tests (nat_le from to && nat_le from last && nat_le first to && nat_le first last)
    (nat_le first from) refl refl
  where
    by_tests : (some before : Bool) → (nat_le from to && nat_le from last && nat_le first to && nat_le first last) ≡ some
        → nat_le first from ≡ before → some ≡ false
    by_tests false before e f = refl
    by_tests true true e f =
        let no = none from (omega arith) (grind (arith, nat_tests, e)) in grind (arith, nat_tests, e, f, no)
    by_tests true false e f =
        let no = none first (grind (arith, nat_tests, f)) (grind (arith, nat_tests, e)) in grind (arith, nat_tests, e, f, no)
one_shared from to other none = refl

pub none_halved : (from to : ℕ) (hints : List Hint) → has_half from to hints ≡ false → (line : ℕ) → from ≤ line → line ≤ to
    → is_half line hints ≡ false
none_halved from to [] none line low high = refl
none_halved from to (h ∷ hints) none line low high =
    let no = or_parts (halves_some from to h) (has_half from to hints) none in
    both_false (halves line h) (is_half line hints) (one_halved from to h no.0 line low high)
    (none_halved from to hints no.1 line low high)

pub none_shared : (from to : ℕ) (hints : List Hint) → ((line : ℕ) → from ≤ line → line ≤ to → is_half line hints ≡ false)
    → has_half from to hints ≡ false
none_shared from to [] none = refl
none_shared from to (h ∷ hints) none = both_false (halves_some from to h) (has_half from to hints)
    (one_shared from to h (λ line low high. (or_parts (halves line h) (is_half line hints) (none line low high)).0))
    (none_shared from to hints (λ line low high. (or_parts (halves line h) (is_half line hints) (none line low high)).1))

-- Where hints aren't at fault

-- a hint that names the line
pub record Names (hints : List Hint) (line : ℕ) : Type 0 where
  pub place : ℕ
  pub from : ℕ
  pub to : ℕ
  pub there : slice_get hints place ≡ Some (Half from to)
  pub low : from ≤ line
  pub high : line ≤ to

later : (hints : List Hint) (h : Hint) (line : ℕ) → Names hints line → Names (h ∷ hints) line
later hints h line n =
    record { place = suc n.place; from = n.from; to = n.to; there = n.there; low = n.low; high = n.high }

names : (line : ℕ) (hints : List Hint) → is_half line hints ≡ true → Names hints line
names line [] e = absurd (true≢false (sym e))
names line (Half from to ∷ hints) e = by_test (names line hints) (nat_le from line && nat_le line to) refl e
  where
    by_test : (is_half line hints ≡ true → Names hints line) → (here : Bool) → (nat_le from line && nat_le line to) ≡ here
        → (here || is_half line hints) ≡ true → Names (Half from to ∷ hints) line
    by_test other true is h = record {
      place = 0;
      from = from;
      to = to;
      there = refl;
      low = grind (arith, nat_tests, is);
      high = grind (arith, nat_tests, is);
    }
    by_test other false is h = later hints (Half from to) line (other h)
names line (other ∷ hints) e = later hints other line (names line hints e)

fits_in : (to : ℕ) (o : Option FrameSize) (size : FrameSize) → o ≡ Some size → HalvesFit to o → (to < size.lines) × (size.fall < half_line)
fits_in to o size e h = subst (HalvesFit to) e h

pub lengths_fit : (image : FinMap nat_cmp ℕ) (irq : Response) (hints : List Hint) (r : Reading) → IsReading image irq hints r
    → ReadingFits r → LengthsFit hints r
lengths_fit image irq hints r is fits = record { below = λ line e. omega (arith, (half line e).0); fall = fall }
  where
    half : (line : ℕ) → is_half line hints ≡ true → (line < r.size.lines) × (r.size.fall < half_line)
    half line e =
        let n = names line hints e in
        let fine : HalfFine hints n.place n.from n.to =
        is.fine n.place (Half n.from n.to) (slice_get_within hints n.place (Half n.from n.to) n.there) n.there in
        let in_frame = fits_in n.to (first_lines hints) r.size is.size fine.fits in
        (let below = in_frame.0 in let high = n.high in omega (arith, below, high), in_frame.1)

    fall : (line : ℕ) → r.size.fall < length_by hints line
    fall line = by_test (is_half line hints) refl
      where
        by_test : (b : Bool) → is_half line hints ≡ b → r.size.fall < (if b then half_line else scanline)
        by_test true e = (half line e).1
        by_test false e = fits.fall_in_line
