-- The events and the level of sync of lines of one kind.
use Rattle.uz_check.proofs.Common.{◌≡◌, inl, inr, ℕ, zero, suc, ◌+◌, ◌-◌, ◌%◌, ◌<◌, ◌≤◌, Option, Some, None, refl, sym, ◌∙◌, ap, subst}
use Rattle.uz_check.proofs.Common.{length, arith, slice_get, eqb_tells, leb_tells, slice_get-get_or, ScheduleFits, length_within, Schedule}
use Rattle.uz_check.proofs.Common.{length_of, start_of, frame_of, next_line, At, event_in_kind, events_of, event_at, sync_of, or_else}
use Rattle.uz_check.proofs.Common.{level_at, kind_of, line_before}
use Rattle.uz_schedule.specs.Schedule.{length_of_kind, sync_at}

-- what the public laws of a schedule say
pub record ScheduleLaws : Type 0 where
  pub by_line : (s : Schedule) (l k : ℕ) → l < length s.lines → k < length_of s l → event_at s (start_of s l + k) ≡ event_in_kind
      (events_of s l) k
  pub events_round : (s : Schedule) (p q : ℕ) → p % frame_of s ≡ q % frame_of s → event_at s p ≡ event_at s q
  pub levels_round : (s : Schedule) (p q : ℕ) → p % frame_of s ≡ q % frame_of s → level_at s p ≡ level_at s q
  pub next : (s : Schedule) (p l k : ℕ) → At s p l (length_of s l + k) → At s p (next_line s l) k
  pub inside : (s : Schedule) (l k : ℕ) → l < length s.lines → k < length_of s l → start_of s l + k < frame_of s
  pub goes_on : (s : Schedule) (p : ℕ) → 0 < frame_of s → level_at s (suc p) ≡ or_else (sync_at s (suc p)) (level_at s p)

-- Lengths

-- lines of one kind have one length
pub same_length : (s : Schedule) (l m : ℕ) → l < length s.lines → m < length s.lines → kind_of s l ≡ kind_of s m
    → length_of s l ≡ length_of s m
same_length s l m h g e =
    ap (length_of_kind s.lengths) (slice_get-get_or s.lines l 0 h ∙ (ap (λ k. Some k) e ∙ sym (slice_get-get_or s.lines m 0 g)))

-- an instruction's clocks fit in a line
pub long_lines : (s : Schedule) → ScheduleFits s → (l : ℕ) → 4 < length_of s l
long_lines s fits l = omega (arith, (length_within s fits l).0)

-- Lines about a line

pub next_inside : (s : Schedule) (l : ℕ) → l < length s.lines → next_line s l < length s.lines
next_inside s l h =
    elim (eqb_tells (suc l) (length s.lines)) [
      | inl t ↦ rw t.0 (omega (arith, h))
      | inr t ↦ rw t.0 (omega (arith, h, t.1))
    ]

-- a line follows the one before it
pub next_before : (s : Schedule) (l : ℕ) → l < length s.lines → next_line s (line_before s l) ≡ l
next_before s zero h =
    elim (eqb_tells (suc (length s.lines - 1)) (length s.lines)) [
      | inl t ↦ rw t.0 refl
      | inr t ↦ absurd (t.1 (omega (arith, h)))
    ]
next_before s (suc l) h =
    elim (eqb_tells (suc l) (length s.lines)) [
      | inl t ↦ absurd (omega (arith, h, t.1))
      | inr t ↦ rw t.0 refl
    ]

pub before_inside : (s : Schedule) (l : ℕ) → l < length s.lines → line_before s l < length s.lines
before_inside s zero h = omega (arith, h)
before_inside s (suc l) h = omega (arith, h)

-- Events

-- clock k of two lines of one kind
same_line : ScheduleLaws → (s : Schedule) (l m k : ℕ) → l < length s.lines → m < length s.lines → kind_of s l ≡ kind_of s m → k < length_of
    s l → event_at s (start_of s l + k) ≡ event_at s (start_of s m + k)
same_line laws s l m k h g e b =
    laws.by_line s l k h b ∙ (ap (λ q. event_in_kind (slice_get s.kinds q) k) e
    ∙ sym (laws.by_line s m k g (subst (λ n. k < n) (same_length s l m h g e) b)))

-- past a line's end the next one goes on
past_end : ScheduleLaws → (s : Schedule) (l k : ℕ) → event_at s (start_of s l + (length_of s l + k)) ≡ event_at s
    (start_of s (next_line s l) + k)
past_end laws s l k =
    laws.events_round s (start_of s l + (length_of s l + k)) (start_of s (next_line s l) + k)
    (laws.next s (start_of s l + (length_of s l + k)) l k refl)

-- clock j of a line and of the next one, where the two and the one that follows have one kind; j may lie past the line's end
pub same_two : ScheduleLaws → (s : Schedule) (l j : ℕ) → l < length s.lines → kind_of s l ≡ kind_of s (next_line s l)
    → kind_of s (next_line s l) ≡ kind_of s (next_line s (next_line s l))
    → j < length_of s l + length_of s (next_line s l) → event_at s (start_of s l + j) ≡ event_at s (start_of s (next_line s l) + j)
same_two laws s l j h e f b =
    let m = next_line s l in
    let inside : m < length s.lines = next_inside s l h in
    elim (leb_tells (suc j) (length_of s l)) [
      | inl t ↦ same_line laws s l m j h inside e t.1
      | inr t ↦
          let k = j - length_of s l in
          let over : j ≡ length_of s l + k = omega (arith, t.1) in
          let over_next : j ≡ length_of s m + k = over ∙ ap (λ n. n + k) (same_length s l m h inside e) in
          ap (λ i. event_at s (start_of s l + i)) over
          ∙ (past_end laws s l k
          ∙ (same_line laws s m (next_line s m) k inside (next_inside s m inside) f (omega (arith, b, t.1))
          ∙ (sym (past_end laws s m k) ∙ sym (ap (λ i. event_at s (start_of s m + i)) over_next))))
    ]

-- Levels

or_else_assoc : (a b c : Option ℕ) → or_else a (or_else b c) ≡ or_else (or_else a b) c
or_else_assoc None b c = refl
or_else_assoc (Some v) b c = refl

or_else_again : (a b : Option ℕ) → or_else a (or_else a b) ≡ or_else a b
or_else_again None b = refl
or_else_again (Some v) b = refl

-- the level that the n positions after p set last
abbrev set_in : (ℕ → Option ℕ) → ℕ → ℕ → Option ℕ
set_in set p zero = None
set_in set p (suc n) = or_else (set (p + suc n)) (set_in set p n)

set_alike : (set : ℕ → Option ℕ) (p q n : ℕ) → ((i : ℕ) → i ≤ n → set (p + i) ≡ set (q + i)) → set_in set p n ≡ set_in set q n
set_alike set p q zero same = refl
set_alike set p q (suc n) same = λ i. or_else (same (suc n) (omega arith) i) (set_alike set p q n (λ j h. same j (omega (arith, h))) i)

level_after : ScheduleLaws → (s : Schedule) (p n : ℕ) → 0 < frame_of s → level_at s (p + n) ≡ or_else (set_in (sync_at s) p n)
    (level_at s p)
level_after laws s p zero some = ap (level_at s) (omega arith)
level_after laws s p (suc n) some =
    let on : p + suc n ≡ suc (p + n) = omega arith in
    ap (level_at s) on
    ∙ (laws.goes_on s (p + n) some
    ∙ (ap (λ v. or_else (sync_at s (suc (p + n))) v) (level_after laws s p n some)
    ∙ (or_else_assoc (sync_at s (suc (p + n))) (set_in (sync_at s) p n) (level_at s p)
    ∙ ap (λ i. or_else (or_else (sync_at s i) (set_in (sync_at s) p n)) (level_at s p)) (sym on))))

-- the level at a clock of the next line is what the line's length of positions before it sets, and else the level at that clock of this
-- line
level_next : ScheduleLaws → (s : Schedule) (l k : ℕ) → 0 < frame_of s
    → level_at s (start_of s (next_line s l) + k) ≡ or_else (set_in (sync_at s) (start_of s l + k) (length_of s l))
    (level_at s (start_of s l + k))
level_next laws s l k some =
    let order : start_of s l + (length_of s l + k) ≡ start_of s l + k + length_of s l = omega arith in
    laws.levels_round s (start_of s (next_line s l) + k) (start_of s l + (length_of s l + k))
    (sym (laws.next s (start_of s l + (length_of s l + k)) l k refl))
    ∙ (ap (level_at s) order ∙ level_after laws s (start_of s l + k) (length_of s l) some)

-- Two lines have one level at each clock, where they and the line before them have one kind: a whole line of that kind went before each of
-- the
-- two clocks, and what it sets, it sets again
pub same_level : ScheduleLaws → (s : Schedule) → ScheduleFits s → (l k : ℕ) → l < length s.lines → kind_of s l ≡ kind_of s (next_line s l)
    → kind_of s (next_line s l) ≡ kind_of s (next_line s (next_line s l))
    → k < length_of s (next_line s l) → level_at s (start_of s (next_line s l) + k) ≡ level_at s
    (start_of s (next_line s (next_line s l)) + k)
same_level laws s fits l k h e f b =
    let m = next_line s l in
    let low = long_lines s fits l in
    let begin = laws.inside s l 0 h (omega (arith, low)) in
    let some : 0 < frame_of s = omega (arith, begin) in
    let long = same_length s l m h (next_inside s l h) e in
    let set = set_in (sync_at s) (start_of s l + k) (length_of s l) in
    let here = level_at s (start_of s l + k) in
    let again : set_in (sync_at s) (start_of s m + k) (length_of s m) ≡ set =
    ap (set_in (sync_at s) (start_of s m + k)) (sym long)
    ∙ set_alike (sync_at s) (start_of s m + k) (start_of s l + k) (length_of s l)
    (λ i g. ap (sync_at s) (omega arith) ∙ (sym (ap sync_of (same_two laws s l (k + i) h e f (omega (arith, b, g, long)))) ∙ ap (sync_at s)
    (omega arith))) in
    let first : level_at s (start_of s m + k) ≡ or_else set here = level_next laws s l k some in
    let second : level_at s (start_of s (next_line s m) + k) ≡ or_else set (level_at s (start_of s m + k)) =
    level_next laws s m k some ∙ ap (λ v. or_else v (level_at s (start_of s m + k))) again in
    first ∙ sym (second ∙ (ap (or_else set) first ∙ or_else_again set here))
