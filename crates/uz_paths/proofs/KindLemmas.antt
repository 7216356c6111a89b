-- One more clock of a line, and one more line of a schedule.
use Rattle.std.proofs.Common.{◌≡◌, ◌∙◌, sym, ap, refl, arith, inl, inr, ⊎_elim, ℕ, suc, ◌+◌, ◌<◌, ◌≤◌, List, [], ◌∷◌, ◌++◌}
use Rattle.std.proofs.Common.{append_assoc, append-nil, length, length-append, subst, get_or, Fits, w16}
use Rattle.std.specs.Prelude.{Some, None, slice_get, ◌⊎◌}
use borrow.Author.Count.{below_more}
use Rattle.std.proofs.lemmas.Bool.{cases_lt}
use Rattle.std.proofs.lemmas.Option.{get_or_from_slice_get, slice_get_cases, slice_get_within}
use Rattle.uz_schedule.specs.Schedule.{length_of, length_of_kind, scanline}
use Rattle.uz_schedule.specs.declared.lines.Event.{Event}
use Rattle.uz_schedule.specs.declared.lines.Schedule.{Schedule}
use Rattle.uz_search.specs.declared.marks.Mark.{Mark}
use Rattle.uz_search.specs.Following.{line_start}
use Rattle.uz_paths.specs.Kinds.{noted, event_here, events_from, line_events, AddsKind, AreApart, IsKind, IsLines, IsScheduleOf}
use Rattle.uz_paths.proofs.NumberLemmas.{at_more, keeps, last_there}

events_step : (marks : List Mark) (start k n m : ℕ) → n ≡ suc m → events_from marks start k n ≡ event_here k
    (noted (slice_get marks (start + k))) ++ events_from marks start (k + 1) m
unfolding events_from
events_step marks start k n m e =
    let next : suc k ≡ k + 1 = omega arith in
    ap (events_from marks start k) e ∙ ap (λ j. event_here k (noted (slice_get marks (start + k))) ++ events_from marks start j m) next

pub clock_more : (marks : List Mark) (start k n m : ℕ) (events next : List Event) → n ≡ suc m → next ≡ events ++ event_here k
    (noted (slice_get marks (start + k)))
    → next ++ events_from marks start (k + 1) m ≡ events ++ events_from marks start k n
clock_more marks start k n m events next e is =
    ap (λ es. es ++ events_from marks start (k + 1) m) is
    ∙ (append_assoc events (event_here k (noted (slice_get marks (start + k)))) (events_from marks start (k + 1) m)
    ∙ ap (λ es. events ++ es) (sym (events_step marks start k n m e)))

pub none_from : (marks : List Mark) (start k : ℕ) → events_from marks start k 0 ≡ []
unfolding events_from
none_from marks start k = refl

pub begins : (marks : List Mark) (l clocks n : ℕ) (events : List Event) → events ≡ [] → n ≡ clocks
    → events ++ events_from marks (line_start l) 0 n ≡ line_events marks l clocks
unfolding line_events
begins marks l clocks n events e f = ap (λ es. es ++ events_from marks (line_start l) 0 n) e ∙ ap (events_from marks (line_start l) 0) f

pub ends : (marks : List Mark) (start k n : ℕ) (events all : List Event) → n ≡ 0 → events ++ events_from marks start k n ≡ all
    → events ≡ all
ends marks start k n events all e h =
    sym (ap (λ es. events ++ es) (ap (events_from marks start k) e ∙ none_from marks start k) ∙ append-nil events) ∙ h

-- One more kind

-- the number of a kind of few fits
pub number_fits : {A : Type 0} (xs ys : List A) (i : ℕ) (x : A) → xs ≡ ys → length ys < 65536 → slice_get xs i ≡ Some x → Fits w16 i
number_fits xs ys i x same few at =
    let within : i < length xs = slice_get_within xs i x at in
    let long = ap length same in
    record { fits = omega (arith, within, long, few) }

-- a kind that is there already
pub adds_old : (kinds : List (List Event)) (lengths : List ℕ) (events : List Event) (clocks n : ℕ) → length lengths ≡ length kinds
    → IsKind kinds lengths n events clocks → AddsKind kinds lengths events clocks kinds lengths n
adds_old kinds lengths events clocks n sizes is = record {
  there = is;
  sizes = sizes;
  few = omega arith;
  kept = λ i kind k at. at;
  shared = λ apart. apart;
  own = λ i kind k at. inl at;
}

-- a new one comes last
pub adds_new : (kinds kinds' : List (List Event)) (lengths lengths' : List ℕ) (events : List Event) (clocks n : ℕ)
    → length lengths ≡ length kinds
    → ((i : ℕ) → IsKind kinds lengths i events clocks → ⊥) → kinds' ≡ kinds ++ events ∷ [] → lengths' ≡ lengths ++ clocks ∷ []
    → n ≡ length kinds → AddsKind kinds lengths events clocks kinds' lengths' n
adds_new kinds kinds' lengths lengths' events clocks n sizes none e f last = record {
  there = (
    ap (λ ks. slice_get ks n) e ∙ (ap (slice_get (kinds ++ events ∷ [])) last ∙ last_there kinds events),
    ap (λ ns. slice_get ns n) f ∙ (ap (slice_get (lengths ++ clocks ∷ [])) (last ∙ sym sizes) ∙ last_there lengths clocks),
  );
  sizes = ap length f ∙ (length-append lengths (clocks ∷ []) ∙ (ap (λ k. k + 1) sizes ∙ sym (ap length e ∙ length-append kinds
      (events ∷ []))));
  few = (let more : length kinds' ≡ length kinds + 1 = ap length e ∙ length-append kinds (events ∷ []) in omega arith);
  kept = λ i kind k at. (
    ap (λ ks. slice_get ks i) e ∙ keeps kinds events kind i at.0,
    ap (λ ns. slice_get ns i) f ∙ keeps lengths clocks k i at.1,
  );
  shared = λ apart i j kind k at there. by_ends apart i j kind k (own i kind k at) (own j kind k there);
  own = λ i kind k at. ⊎_elim (λ old. inl old) (λ (new : (i ≡ length kinds) × ((events ≡ kind) × (clocks ≡ k))). inr new.1)
      (own i kind k at);
}
  where
    -- it was there, or is the new one
    own : (i : ℕ) (kind : List Event) (k : ℕ) → IsKind kinds' lengths' i kind k → IsKind kinds lengths i kind k
        ⊎ ((i ≡ length kinds) × ((events ≡ kind) × (clocks ≡ k)))
    own i kind k at = by (at_more kinds events kind i (ap (λ ks. slice_get ks i) (sym e) ∙ at.0))
        (at_more lengths clocks k i (ap (λ ns. slice_get ns i) (sym f) ∙ at.1))
      where
        by : (slice_get kinds i ≡ Some kind) ⊎ ((i ≡ length kinds) × (events ≡ kind)) → (slice_get lengths i ≡ Some k)
            ⊎ ((i ≡ length lengths) × (clocks ≡ k)) → IsKind kinds lengths i kind k
            ⊎ ((i ≡ length kinds) × ((events ≡ kind) × (clocks ≡ k)))
        by (inl a) (inl c) = inl (a, c)
        by (inl a) (inr c) = let within = slice_get_within kinds i kind a in let past = c.0 in absurd (omega arith)
        by (inr a) (inl c) = let within = slice_get_within lengths i k c in let past = a.0 in absurd (omega arith)
        by (inr a) (inr c) = inr (a.0, (a.1, c.1))

    by_ends : AreApart kinds lengths → (i j : ℕ) (kind : List Event) (k : ℕ) → IsKind kinds lengths i kind k
        ⊎ ((i ≡ length kinds) × ((events ≡ kind) × (clocks ≡ k)))
        → IsKind kinds lengths j kind k ⊎ ((j ≡ length kinds) × ((events ≡ kind) × (clocks ≡ k))) → i ≡ j
    by_ends apart i j kind k (inl a) (inl c) = apart i j kind k a c
    by_ends apart i j kind k (inl a) (inr c) = absurd (none i (a.0 ∙ ap Some (sym c.1.0), a.1 ∙ ap Some (sym c.1.1)))
    by_ends apart i j kind k (inr a) (inl c) = absurd (none j (c.0 ∙ ap Some (sym a.1.0), c.1 ∙ ap Some (sym a.1.1)))
    by_ends apart i j kind k (inr a) (inr c) = a.0 ∙ sym c.0

-- Lines

-- each of so many lines has its kind
abbrev pub HaveKinds : List Mark → Schedule → ℕ → List ℕ → List (List Event) → List ℕ → Type 0
HaveKinds marks frame n numbers kinds lengths = (j : ℕ) → j < n → (k : ℕ) × (slice_get numbers j ≡ Some k)
    × IsKind kinds lengths k (line_events marks j (length_of frame j)) (length_of frame j)

-- so many lines of a frame have their numbers among these kinds
pub record AreMade (marks : List Mark) (frame : Schedule) (n : ℕ) (numbers : List ℕ) (kinds : List (List Event))
    (lengths : List ℕ) : Type 0 where
  pub count : length numbers ≡ n
  pub few : length kinds ≤ n
  pub sizes : length lengths ≡ length kinds
  pub apart : AreApart kinds lengths
  pub used : (i : ℕ) (kind : List Event) (clocks : ℕ) → IsKind kinds lengths i kind clocks → IsLines marks frame n kind clocks
  pub kind : HaveKinds marks frame n numbers kinds lengths

pub made_none : (marks : List Mark) (frame : Schedule) → AreMade marks frame 0 [] [] []
made_none marks frame = record {
  count = refl;
  few = omega arith;
  sizes = refl;
  apart = λ i j kind clocks at there. absurd (cc (at.0));
  used = λ i kind clocks at. absurd (cc (at.0));
  kind = λ j less. absurd (omega arith);
}

pub made_more : (marks : List Mark) (frame : Schedule) (n k : ℕ) (numbers numbers' : List ℕ) (kinds kinds' : List (List Event))
    (lengths lengths' : List ℕ) (events : List Event) (clocks : ℕ) → AreMade marks frame n numbers kinds lengths
    → AddsKind kinds lengths events clocks kinds' lengths' k → numbers' ≡ numbers ++ k ∷ [] → clocks ≡ length_of frame n
    → events ≡ line_events marks n clocks → AreMade marks frame (n + 1) numbers' kinds' lengths'
made_more marks frame n k numbers numbers' kinds kinds' lengths lengths' events clocks made adds e long is = record {
  count = ap length e ∙ (length-append numbers (k ∷ []) ∙ ap (λ m. m + 1) made.count);
  few = (let less = made.few in let more = adds.few in omega arith);
  sizes = adds.sizes;
  apart = adds.shared made.apart;
  used = λ i kind m at. ⊎_elim (λ old. later (made.used i kind m old))
      (λ (new : (events ≡ kind) × (clocks ≡ m)). record {
        line = n;
        below = omega arith;
        long = sym new.1 ∙ long;
        is = sym new.0 ∙ (is ∙ ap (line_events marks n) new.1);
      })
      (adds.own i kind m at);
  kind = below_more (λ j. (i : ℕ) × (slice_get numbers' j ≡ Some i) × IsKind kinds' lengths' i (line_events marks j (length_of frame j))
      (length_of frame j)) n
      (λ j less. (
        (made.kind j less).0,
        ap (λ ns. slice_get ns j) e ∙ keeps numbers k (made.kind j less).0 j (made.kind j less).1,
        adds.kept (made.kind j less).0 (line_events marks j (length_of frame j)) (length_of frame j) (made.kind j less).2,
      )) (
        k,
        ap (λ ns. slice_get ns n) e ∙ (ap (slice_get (numbers ++ k ∷ [])) (sym made.count) ∙ last_there numbers k),
        (adds.there.0 ∙ ap Some (is ∙ ap (line_events marks n) long), adds.there.1 ∙ ap Some long),
      );
}
  where
    later : {kind : List Event} {m : ℕ} → IsLines marks frame n kind m → IsLines marks frame (n + 1) kind m
    later l = record { line = l.line; below = (let less = l.below in omega arith); long = l.long; is = l.is }

-- past the last line both frames have lines of one length
past_line : (s : Schedule) (l : ℕ) → length s.lines ≤ l → length_of s l ≡ scanline
past_line s l past = by (slice_get_cases s.lines l).1
  where
    by : ((x : ℕ) × (l < length s.lines) × (slice_get s.lines l ≡ Some x) × (get_or s.lines l x ≡ x)) ⊎ ((length s.lines ≤ l)
        × (slice_get s.lines l ≡ None))
        → length_of s l ≡ scanline
    by (inl h) = let less = h.1 in absurd (omega arith)
    by (inr h) = ap (length_of_kind s.lengths) h.1

schedule_is : (marks : List Mark) (frame : Schedule) (n : ℕ) (s : Schedule) → n ≡ length frame.lines → s.fall ≡ frame.fall
    → AreMade marks frame n s.lines s.kinds s.lengths → IsScheduleOf marks frame s
schedule_is marks frame n s all falls made = record {
  count = made.count ∙ all;
  falls = falls;
  lengths = λ l. ⊎_elim
      (λ (below : l < length frame.lines). let k = made.kind l (omega arith) in ap (length_of_kind s.lengths) k.1
      ∙ get_or_from_slice_get s.lengths k.0 (length_of frame l) scanline k.2.1)
      (λ (past : length frame.lines ≤ l). past_line s l (let count = made.count in omega arith) ∙ sym (past_line frame l past))
      (cases_lt l (length frame.lines));
  events = λ l less. (let k = made.kind l (omega arith) in ap (slice_get s.kinds) (get_or_from_slice_get s.lines l k.0 0 k.1) ∙ k.2.0);
  sizes = made.sizes;
  shared = made.apart;
  few = (let few = made.few in omega arith);
  used = λ i kind clocks at. subst (λ m. IsLines marks frame m kind clocks) all (made.used i kind clocks at);
}

pub schedule_made : (marks : List Mark) (frame : Schedule) (n : ℕ) (numbers : List ℕ) (kinds : List (List Event))
    (lengths : List ℕ) (s : Schedule) → s.lines ≡ numbers → s.kinds ≡ kinds → s.lengths ≡ lengths → n ≡ length frame.lines
    → s.fall ≡ frame.fall → AreMade marks frame n numbers kinds lengths → IsScheduleOf marks frame s
schedule_made marks frame n numbers kinds lengths s e f g all falls made =
    schedule_is marks frame n s all falls
    (subst (λ ns. AreMade marks frame n ns s.kinds s.lengths) (sym e)
    (subst (λ ks. AreMade marks frame n numbers ks s.lengths) (sym f) (subst (AreMade marks frame n numbers kinds) (sym g) made)))
