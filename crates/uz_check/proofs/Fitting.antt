-- What the limits of a certificate give.
use Rattle.uz_check.proofs.Common.{response_clocks, Four, Five, Response, and_parts, ◌≡◌, inl, inr, ℕ, zero, suc, ◌+◌, ◌<◌, ◌≤◌, Bool, true}
use Rattle.uz_check.proofs.Common.{false, cond, leb, ltb, List, [], ◌∷◌, length, refl, sym, ◌∙◌, ap, subst, arith, Option, Some, None, ◌&&◌}
use Rattle.uz_check.proofs.Common.{nat_eq, nat_le, slice_index, slice_get, ℤ, pos, negsuc, ◌+ℤ◌, ◌*ℤ◌, leb-true, eqb-true, length-map}
use Rattle.uz_check.proofs.Common.{All-get_or, get_or_from_slice_get, slice_get_within, ScheduleFits, Main, Head, Schedule, Point, Instance}
use Rattle.uz_check.proofs.Common.{Cert, length_within, length_of, start_of, level_at, depth_limit, CellsHold, depth_of, val_of}
use Rattle.uz_check.proofs.Common.{clock_below, clock_at, is_in_box, instance_of, instance_at_clock, instance_in, instance_at, Core}
use Rattle.uz_check.proofs.Common.{register, IsByte, IsCore, ends, IsWithin, span_at, all_below, cells_inside, AllByRecursion, eqb_tells}
use Rattle.uz_check.proofs.Common.{Ends, Kind}
use Rattle.std.proofs.lemmas.Bool.{cases_lt, ltb-true}
use Rattle.std.specs.Option.{option_and_then}
use Rattle.uz_check.proofs.Fits.{HeadLimits, IsPlaced, PointLimits, Limits}
use Rattle.uz_transfer.specs.Refusals.{range_inside}

-- a line is longer than an entry and the latest latency
pub line_long : (s : Schedule) (l : ℕ) → ScheduleFits s → l < length s.lines → 9 ≤ length_of s l
line_long s l fits h = omega (arith, (length_within s fits l).0)

pub line_short : (s : Schedule) (l : ℕ) → ScheduleFits s → l < length s.lines → length_of s l < 65536
line_short s l fits h = omega (arith, (length_within s fits l).1)

pub response_few : (r : Response) → response_clocks r ≤ 5
response_few Four = omega arith
response_few Five = omega arith

pub room_below : (head : Head) → HeadLimits head → head.lo + head.main + 2 ≤ suc head.hi
room_below head h = omega (arith, h.order, h.room)

pub opened : {A B : Type 0} (f : A → Option B) (o : Option A) (b : B) → option_and_then f o ≡ Some b → (a : A) × (o ≡ Some a)
    × (f a ≡ Some b)
opened f None b e = absurd cc
opened f (Some a) b e = (a, refl, e)

pub tested : {A : Type 0} (t : Bool) (o : Option A) (a : A) → cond t o None ≡ Some a → (t ≡ true) × (o ≡ Some a)
tested true o a e = (refl, e)
tested false o a e = absurd cc

in_line : (length : ℕ) (z : ℤ) (k : ℕ) → clock_below length z ≡ Some k → k < length
in_line length (pos n) k e =
    let short = tested (ltb n length) (Some n) k e in
    let same : n ≡ k = cc short.1 in
    subst (λ m. m < length) same (ltb-true n length short.0)
in_line length (negsuc n) k e = absurd cc

-- what an instance of a point is
pub record OfPoint (cert : Cert) (p : Point) (l c : ℕ) (inst : Instance) : Type 0 where
  pub box : is_in_box p l c ≡ true
  pub clock : ℕ
  pub level : ℕ
  pub in_line : clock < length_of cert.schedule l
  pub level_is : level_at cert.schedule (start_of cert.schedule l + clock) ≡ Some level
  pub is : instance_of p l c clock level ≡ inst

pub of_point : (cert : Cert) (p : Point) (l c : ℕ) (inst : Instance) → instance_in cert.schedule p l c ≡ Some inst → OfPoint cert p l c inst
of_point cert p l c inst e =
    let s = cert.schedule in
    let box = tested (is_in_box p l c) (option_and_then (instance_at_clock s p l c) (clock_at s p l c)) inst e in
    let clock = opened (instance_at_clock s p l c) (clock_at s p l c) inst box.1 in
    let level = opened (λ v. Some (instance_of p l c clock.0 v)) (level_at s (start_of s l + clock.0)) inst clock.2 in
    record {
      box = box.0;
      clock = clock.0;
      level = level.0;
      in_line = in_line (length_of s l) (pos p.clock +ℤ p.slope *ℤ pos c) clock.0 clock.1;
      level_is = level.1;
      is = let same : Some (instance_of p l c clock.0 level.0) ≡ Some inst = level.2 in cc;
    }

in_point : (cert : Cert) (p : Point) (l c : ℕ) (inst : Instance) → PointLimits cert p → instance_in cert.schedule p l c ≡ Some inst
    → IsPlaced cert inst
in_point cert p l c inst h e =
    let of = of_point cert p l c inst e in
    let lines = and_parts (leb p.l0 l && leb l p.l1) (leb p.c0 c && leb c p.c1) of.box in
    let below : l ≤ p.l1 = leb-true l p.l1 (and_parts (leb p.l0 l) (leb l p.l1) lines.0).1 in
    subst (IsPlaced cert) of.is (record {
      pc = h.pc;
      line = omega (arith, below, h.lines);
      clock = of.in_line;
      flags = h.flags;
      old = h.old;
      slots = omega (arith, length-map p.stack.items (val_of l c), h.slots);
      level = of.level_is;
    })

pub is_placed : (cert : Cert) → Limits cert → (id l c : ℕ) (inst : Instance) → instance_at cert id l c ≡ Some inst → IsPlaced cert inst
is_placed cert limits id l c inst e =
    let point = opened (λ p. instance_in cert.schedule p l c) (slice_get cert.points id) inst e in
    let p = point.0 in
    let fits : PointLimits cert p = subst (PointLimits cert) (get_or_from_slice_get cert.points id p p point.1)
    (All-get_or (PointLimits cert) cert.points id p (slice_get_within cert.points id p point.1) limits.points) in
    in_point cert p l c inst fits point.2

pub main_slots : (cert : Cert) (inst : Instance) → IsPlaced cert inst → inst.kind ≡ Main → depth_of inst ≤ cert.head.main
main_slots cert inst h kind = subst (λ k. depth_of inst ≤ depth_limit cert.head k) kind h.slots

-- Tests that hold

pub below_tells : (n : ℕ) (test : ℕ → Bool) → all_below n test ≡ true → (k : ℕ) → k < n → test k ≡ true
unfolding all_below
below_tells zero test e k h = absurd (omega (arith, h))
below_tells (suc n) test e k h =
    let both = and_parts (all_below n test) (test n) e in
    elim (eqb_tells k n) [
      | inl t ↦ ap test t.1 ∙ both.1
      | inr t ↦ below_tells n test both.0 k (omega (arith, t.1, h))
    ]

pub within_tells : (a b : Ends) (x : ℕ) → range_inside a b ≡ true → IsWithin x a → IsWithin x b
within_tells a b x e h =
    let both = and_parts (nat_le b.lo a.lo) (nat_le a.hi b.hi) e in
    let low : b.lo ≤ a.lo = leb-true b.lo a.lo both.0 in
    let high : a.hi ≤ b.hi = leb-true a.hi b.hi both.1 in
    record { above = omega (arith, low, h.above); below = omega (arith, high, h.below) }

past_end : (spans : List Ends) (j : ℕ) → length spans ≤ j → span_at spans j ≡ ends 0 255
past_end [] j h = refl
past_end (x ∷ spans) zero h = absurd (omega (arith, h))
past_end (x ∷ spans) (suc j) h = past_end spans j (omega (arith, h))

pub byte_at : (bytes : List ℕ) (at : ℕ) → AllByRecursion IsByte bytes → slice_index bytes at < 256
byte_at [] at h = omega arith
byte_at (b ∷ bytes) zero h = h.0
byte_at (b ∷ bytes) (suc at) h = byte_at bytes at h.1

-- cells in ranges that lie in others are in those
pub cells_widen : (head : Head) (kind : Kind) (a b : List Ends) (bytes : List ℕ) → AllByRecursion IsByte bytes → cells_inside a b ≡ true
    → CellsHold head kind a bytes → CellsHold head kind b bytes
cells_widen head kind a b bytes fine e h at j is =
    let both = and_parts (nat_eq (length a) (length b)) _ e in
    let same : length a ≡ length b = eqb-true (length a) (length b) both.0 in
    elim (cases_lt j (length b)) [
      | inl low ↦ within_tells (span_at a j) (span_at b j) (slice_index bytes at)
          (below_tells (length a) (λ j. range_inside (span_at a j) (span_at b j)) both.1 j (omega (arith, low, same))) (h at j is)
      | inr past ↦ subst (IsWithin (slice_index bytes at)) (sym (past_end b j past))
          (record { above = omega arith; below = omega (arith, byte_at bytes at fine) })
    ]

pub register_byte : (c : Core) (r : ℕ) → IsCore c → register c r < 256
register_byte c r h = byte_at c.registers r h.registers
