-- The limits of a certificate's points give those of its instances.
use Rattle.std.proofs.Common.{◌≡◌, All, ℕ, suc, ◌+◌, ◌*◌, ◌%◌, ◌<◌, ◌≤◌, Bool, true, false, ◌&&◌, cond, leb, ltb, IsTrue, List, [], ◌∷◌, length}
use Rattle.std.proofs.Common.{map, refl, sym, ◌∙◌, subst, lit≤, arith}
use Rattle.std.specs.Prelude.{Option, Some, None, option_and_then, slice_get, ℤ, pos, negsuc, ◌+ℤ◌, ◌*ℤ◌}
use Rattle.std.proofs.Math.Nat.{mod-lt}
use Rattle.std.proofs.lemmas.Bool.{leb-true}
use Rattle.std.proofs.lemmas.List.{length-map}
use Rattle.std.proofs.lemmas.List.Elements.{All-nil, All-cons, All-tail, All-get_or}
use Rattle.std.proofs.lemmas.Option.{get_or_from_slice_get, slice_get_within}
use Rattle.uz_schedule.specs.Ends.{whole_byte}
use Rattle.uz_schedule.specs.Limits.{is_top}
use Rattle.uz_schedule.specs.WellFormed.{RangeFits, FactFits, PointFits, PointKindFits, WellFormed}
use Rattle.uz_schedule.specs.InstanceLimits.{ValFits, InstanceFits}
use Rattle.uz_schedule.specs.Instances.{val_of, cell_span, clock_below, clock_at, is_in_box, instance_of, instance_at_clock, instance_in}
use Rattle.uz_schedule.specs.Instances.{instance_at}
use Rattle.uz_schedule.specs.Schedule.{length_of, start_of, level_at}
use Rattle.uz_schedule.specs.declared.kinds.Kind.{Kind}
use Rattle.uz_schedule.specs.declared.kinds.Kind.TheVariants.{Main, Handler, Alone}
use Rattle.uz_schedule.specs.declared.facts.Fact.{Fact}
use Rattle.uz_schedule.specs.declared.facts.Fact.TheVariants.{Any, Between, Line, Loop, Old, OldFlags}
use Rattle.uz_schedule.specs.declared.states.Point.{Point}
use Rattle.uz_schedule.specs.declared.states.Instance.{Instance}
use Rattle.uz_schedule.specs.declared.certificate.Cert.{Cert}

opened : {A B : Type 0} (f : A → Option B) (o : Option A) (b : B) → option_and_then f o ≡ Some b → (a : A) × (o ≡ Some a) × (f a ≡ Some b)
opened f None b e = absurd cc
opened f (Some a) b e = (a, refl, e)

tested : {A : Type 0} (t : Bool) (o : Option A) (a : A) → cond t o None ≡ Some a → (t ≡ true) × (o ≡ Some a)
tested true o a e = (refl, e)
tested false o a e = absurd cc

both : (a b : Bool) → (a && b) ≡ true → (a ≡ true) × (b ≡ true)
both true b e = (refl, e)
both false b e = absurd cc

below_is : (length k : ℕ) (clock : ℤ) → clock_below length clock ≡ Some k → k < length
below_is length k (pos n) e =
    let t = tested (ltb n length) (Some n) k e in
    let is : n ≡ k = (let s : Some n ≡ Some k = t.1 in cc) in
    subst (λ i. i < length) is (leb-true (suc n) length t.0)
below_is length k (negsuc n) e = absurd cc

one_byte : (n : ℕ) → RangeFits 255 (record { lo = n % 256; hi = n % 256 })
one_byte n =
    let small : n % 256 < 256 = mod-lt n (lit≤ tt) in
    record { order = omega arith; high = omega (arith, small) }

val_fits : (kind : Kind) (l c : ℕ) (f : Fact) → FactFits kind f → ValFits kind (val_of l c f)
val_fits kind l c Any h = record { order = lit≤ tt; high = lit≤ tt }
val_fits kind l c (Between e) h = h.range
val_fits kind l c (Line a b) h = one_byte (a * l + b)
val_fits kind l c (Loop a b) h = one_byte (a * c + b)
val_fits kind l c (Old r) h = h
val_fits kind l c OldFlags h = h

vals_fit : (kind : Kind) (l c : ℕ) (facts : List Fact) → All (FactFits kind) facts → All (ValFits kind) (map (val_of l c) facts)
vals_fit kind l c [] h = All-nil (ValFits kind)
vals_fit kind l c (f ∷ facts) h = All-cons (ValFits kind) (val_of l c f) (map (val_of l c) facts)
    (val_fits kind l c f (h 0 f (omega arith))) (vals_fit kind l c facts (All-tail (FactFits kind) f facts h))

whole_fits : RangeFits 255 whole_byte
whole_fits = record { order = lit≤ tt; high = lit≤ tt }

-- OCR1A and TEMP, in each kind
timer_fits : (kind : Kind) (p : Point) → PointKindFits kind p → IsTrue (is_top p.top) × RangeFits 255 p.temp
timer_fits Main p h = (subst (λ n. IsTrue (is_top n)) (sym h.1.top) refl, subst (RangeFits 255) (sym h.1.temp) whole_fits)
timer_fits Handler p h = (h.top, h.temp)
timer_fits Alone p h = (subst (λ n. IsTrue (is_top n)) (sym h.1.top) refl, subst (RangeFits 255) (sym h.1.temp) whole_fits)

in_point : (cert : Cert) (p : Point) (l c : ℕ) (inst : Instance) → PointFits cert.head (length cert.schedule.lines) (length cert.points) p
    → instance_in cert.schedule p l c ≡ Some inst → InstanceFits cert inst
in_point cert p l c inst h e =
    let s = cert.schedule in
    let box = tested (is_in_box p l c) (option_and_then (instance_at_clock s p l c) (clock_at s p l c)) inst e in
    let clock = opened (instance_at_clock s p l c) (clock_at s p l c) inst box.1 in
    let k = clock.0 in
    let level = opened (λ level. Some (instance_of p l c k level)) (level_at s (start_of s l + k)) inst clock.2 in
    let v = level.0 in
    let is : instance_of p l c k v ≡ inst = (let same : Some (instance_of p l c k v) ≡ Some inst = level.2 in cc) in
    let lines = both (leb p.l0 l && leb l p.l1) (leb p.c0 c && leb c p.c1) box.0 in
    let below : l ≤ p.l1 = leb-true l p.l1 (both (leb p.l0 l) (leb l p.l1) lines.0).1 in
    subst (InstanceFits cert) is (record {
      pc = h.pc;
      line = omega (arith, below, h.box.line);
      clock = below_is (length_of s l) k (pos p.clock +ℤ p.slope *ℤ pos c) clock.1;
      level = level.1;
      top = (timer_fits p.kind p h.kind).0;
      temp = (timer_fits p.kind p h.kind).1;
      register_count = length-map p.regs (val_of l c) ∙ h.core.register_count;
      registers = vals_fit p.kind l c p.regs h.core.registers;
      pairs = refl;
      flag_count = h.core.flag_count;
      flags = h.core.flags;
      slots = omega (arith, length-map p.stack.items (val_of l c), h.memory.slots);
      stack = vals_fit p.kind l c p.stack.items h.memory.stack;
      cells = length-map p.cells.items (cell_span l c) ∙ h.memory.cell_count;
    })

pub instance_fits : (cert : Cert) (id l c : ℕ) (inst : Instance) → WellFormed cert → instance_at cert id l c ≡ Some inst → InstanceFits cert
    inst
instance_fits cert id l c inst h e =
    let point = opened (λ p. instance_in cert.schedule p l c) (slice_get cert.points id) inst e in
    let p = point.0 in
    let Fits : Point → Type 0 = PointFits cert.head (length cert.schedule.lines) (length cert.points) in
    let fits : Fits p = subst Fits (get_or_from_slice_get cert.points id p p point.1)
    (All-get_or Fits cert.points id p (slice_get_within cert.points id p point.1) h.points.each) in
    in_point cert p l c inst fits point.2
