-- Values that compare equal by the derived `==` are one.
use Rattle.std.proofs.Common.{◌≡◌, true, false, Bool, refl, sym, ap, ◌&&◌, List, [], ◌∷◌, nat_eq, true≢false, rules}
use Rattle.std.proofs.lemmas.Bool.{eqb-true}
use Rattle.std.specs.Bool.{beq}
use lib.Pointwise.{pointwise}
use Rattle.uz_schedule.specs.declared.kinds.Kind.{Kind}
use Rattle.uz_schedule.specs.declared.facts.Bit.{Bit}
use Rattle.uz_schedule.specs.declared.facts.Val.{Val}
use Rattle.uz_schedule.specs.declared.facts.Val.TheVariants.{Range, Old, OldFlags}
use Rattle.uz_schedule.specs.declared.facts.Against.{Against}
use Rattle.uz_schedule.specs.declared.facts.Against.TheVariants.{Register, Constant}
use Rattle.uz_schedule.specs.declared.facts.Compared.{Compared}
use Rattle.uz_schedule.specs.declared.facts.Compared.TheVariants.{Nothing, Byte, Pair, Result, PairResult, Value}
use Rattle.uz_schedule.specs.contracts.facts.AgainstPartialEq as operands
use Rattle.uz_schedule.specs.contracts.facts.ComparedPartialEq as comparisons
use Rattle.uz_schedule.specs.Ends.{Ends}
use Rattle.uz_schedule.specs.declared.ranges.Span.{Span}
use Rattle.uz_schedule.specs.declared.ranges.Wide.{Wide}
use Rattle.uz_schedule.specs.declared.states.Instance.{Instance}
use Rattle.uz_schedule.specs.contracts.kinds.Kind.{the_type as kind_type}
use Rattle.uz_schedule.specs.contracts.facts.Bit.{the_type as bit_type}
use Rattle.uz_schedule.specs.contracts.facts.ValPartialEq as vals
use Rattle.uz_schedule.specs.contracts.facts.BitPartialEq as bits
use Rattle.uz_schedule.specs.contracts.kinds.KindPartialEq as kinds
use Rattle.uz_schedule.specs.contracts.ranges.SpanPartialEq as spans
use Rattle.uz_schedule.specs.contracts.ranges.WidePartialEq as wides
use Rattle.uz_schedule.specs.contracts.states.InstancePartialEq as instances
use denote.Enum.Bare.{same_true}

pub left : (a b : Bool) → (a && b) ≡ true → a ≡ true
left true b h = refl
left false b h = h

pub right : (a b : Bool) → (a && b) ≡ true → b ≡ true
right true b h = h
right false b h = absurd (true≢false (sym h))

pub beq_true : (a b : Bool) → beq a b ≡ true → a ≡ b
beq_true true true h = refl
beq_true false false h = refl
beq_true true false h = absurd (true≢false (sym h))
beq_true false true h = absurd (true≢false (sym h))

module _ {K : Type 0} (E : K → K → Bool) (exact : (x y : K) → E x y ≡ true → x ≡ y) where
  pub exact_list : (xs ys : List K) → pointwise E xs ys ≡ true → xs ≡ ys
  exact_list [] [] h = refl
  exact_list [] (y ∷ ys) h = absurd (true≢false (sym h))
  exact_list (x ∷ xs) [] h = absurd (true≢false (sym h))
  exact_list (x ∷ xs) (y ∷ ys) h = λ i. exact x y (left (E x y) (pointwise E xs ys) h) i ∷ exact_list xs ys
      (right (E x y) (pointwise E xs ys) h) i

pub exact_ends : (a b : Ends) → (nat_eq a.lo b.lo && nat_eq a.hi b.hi) ≡ true → a ≡ b
exact_ends a b h =
    let lo : a.lo ≡ b.lo = eqb-true a.lo b.lo (left (nat_eq a.lo b.lo) (nat_eq a.hi b.hi) h) in
    let hi : a.hi ≡ b.hi = eqb-true a.hi b.hi (right (nat_eq a.lo b.lo) (nat_eq a.hi b.hi) h) in
    λ i. record { lo = lo i; hi = hi i }

pub exact_span : (a b : Span) → (spans.TheImpl.eq-value).it a b ≡ true → a ≡ b
exact_span a b h = exact_ends a b h

pub exact_wide : (a b : Wide) → (wides.TheImpl.eq-value).it a b ≡ true → a ≡ b
exact_wide a b h = exact_ends a b h

pub exact_bit : (a b : Bit) → (bits.TheImpl.eq-value).it a b ≡ true → a ≡ b
exact_bit a b h = same_true bit_type (search rules) a b h

pub exact_kind : (a b : Kind) → (kinds.TheImpl.eq-value).it a b ≡ true → a ≡ b
exact_kind a b h = same_true kind_type (search rules) a b h

pub exact_val : (a b : Val) → (vals.TheImpl.eq-value).it a b ≡ true → a ≡ b
exact_val (Range a) (Range b) h = ap Range (exact_span a b h)
exact_val (Old a) (Old b) h = ap Old (eqb-true a b h)
exact_val OldFlags OldFlags h = refl
exact_val (Range a) (Old b) h = absurd (true≢false (sym h))
exact_val (Range a) OldFlags h = absurd (true≢false (sym h))
exact_val (Old a) (Range b) h = absurd (true≢false (sym h))
exact_val (Old a) OldFlags h = absurd (true≢false (sym h))
exact_val OldFlags (Range b) h = absurd (true≢false (sym h))
exact_val OldFlags (Old b) h = absurd (true≢false (sym h))

pub exact_against : (a b : Against) → (operands.TheImpl.eq-value).it a b ≡ true → a ≡ b
exact_against (Register a) (Register b) h = ap Register (eqb-true a b h)
exact_against (Constant a) (Constant b) h = ap Constant (eqb-true a b h)
exact_against (Register a) (Constant b) h = absurd (true≢false (sym h))
exact_against (Constant a) (Register b) h = absurd (true≢false (sym h))

pub exact_compared : (a b : Compared) → (comparisons.TheImpl.eq-value).it a b ≡ true → a ≡ b
exact_compared Nothing Nothing h = refl
exact_compared (Byte a b) (Byte a' b') h =
    let d : a ≡ a' = eqb-true a a' (left _ _ h) in let e : b ≡ b' = exact_against b b' (right _ _ h) in λ i. Byte (d i) (e i)
exact_compared (Pair a b c) (Pair a' b' c') h =
    let r = right _ _ h in let d : a ≡ a' = eqb-true a a' (left _ _ h) in let e : b ≡ b' = exact_against b b' (left _ _ r) in
    let f : c ≡ c' = eqb-true c c' (right _ _ r) in λ i. Pair (d i) (e i) (f i)
exact_compared (Result a b c) (Result a' b' c') h =
    let r = right _ _ h in let d : a ≡ a' = eqb-true a a' (left _ _ h) in let e : b ≡ b' = eqb-true b b' (left _ _ r) in
    let f : c ≡ c' = exact_span c c' (right _ _ r) in λ i. Result (d i) (e i) (f i)
exact_compared (PairResult a b c) (PairResult a' b' c') h =
    let r = right _ _ h in let d : a ≡ a' = eqb-true a a' (left _ _ h) in let e : b ≡ b' = eqb-true b b' (left _ _ r) in
    let f : c ≡ c' = exact_wide c c' (right _ _ r) in λ i. PairResult (d i) (e i) (f i)
exact_compared (Value a) (Value b) h = ap Value (eqb-true a b h)
exact_compared Nothing (Byte a' b') h = absurd (true≢false (sym h))
exact_compared Nothing (Pair a' b' c') h = absurd (true≢false (sym h))
exact_compared Nothing (Result a' b' c') h = absurd (true≢false (sym h))
exact_compared Nothing (PairResult a' b' c') h = absurd (true≢false (sym h))
exact_compared Nothing (Value a') h = absurd (true≢false (sym h))
exact_compared (Byte a b) Nothing h = absurd (true≢false (sym h))
exact_compared (Byte a b) (Pair a' b' c') h = absurd (true≢false (sym h))
exact_compared (Byte a b) (Result a' b' c') h = absurd (true≢false (sym h))
exact_compared (Byte a b) (PairResult a' b' c') h = absurd (true≢false (sym h))
exact_compared (Byte a b) (Value a') h = absurd (true≢false (sym h))
exact_compared (Pair a b c) Nothing h = absurd (true≢false (sym h))
exact_compared (Pair a b c) (Byte a' b') h = absurd (true≢false (sym h))
exact_compared (Pair a b c) (Result a' b' c') h = absurd (true≢false (sym h))
exact_compared (Pair a b c) (PairResult a' b' c') h = absurd (true≢false (sym h))
exact_compared (Pair a b c) (Value a') h = absurd (true≢false (sym h))
exact_compared (Result a b c) Nothing h = absurd (true≢false (sym h))
exact_compared (Result a b c) (Byte a' b') h = absurd (true≢false (sym h))
exact_compared (Result a b c) (Pair a' b' c') h = absurd (true≢false (sym h))
exact_compared (Result a b c) (PairResult a' b' c') h = absurd (true≢false (sym h))
exact_compared (Result a b c) (Value a') h = absurd (true≢false (sym h))
exact_compared (PairResult a b c) Nothing h = absurd (true≢false (sym h))
exact_compared (PairResult a b c) (Byte a' b') h = absurd (true≢false (sym h))
exact_compared (PairResult a b c) (Pair a' b' c') h = absurd (true≢false (sym h))
exact_compared (PairResult a b c) (Result a' b' c') h = absurd (true≢false (sym h))
exact_compared (PairResult a b c) (Value a') h = absurd (true≢false (sym h))
exact_compared (Value a) Nothing h = absurd (true≢false (sym h))
exact_compared (Value a) (Byte a' b') h = absurd (true≢false (sym h))
exact_compared (Value a) (Pair a' b' c') h = absurd (true≢false (sym h))
exact_compared (Value a) (Result a' b' c') h = absurd (true≢false (sym h))
exact_compared (Value a) (PairResult a' b' c') h = absurd (true≢false (sym h))

-- Instances, by where they stand and what is known there

-- they stand at one place
pub record SamePlace (a b : Instance) : Type 0 where
  pub kind : a.kind ≡ b.kind
  pub pc : a.pc ≡ b.pc
  pub line : a.line ≡ b.line
  pub clock : a.clock ≡ b.clock
  pub level : a.level ≡ b.level
  pub pending : a.pending ≡ b.pending
  pub top : a.top ≡ b.top
  pub temp : a.temp ≡ b.temp

-- the same is known there
pub record SameKnown (a b : Instance) : Type 0 where
  pub regs : a.regs ≡ b.regs
  pub pairs : a.pairs ≡ b.pairs
  pub flags : a.flags ≡ b.flags
  pub compared : a.compared ≡ b.compared
  pub stack : a.stack.items ≡ b.stack.items
  pub cells : a.cells.items ≡ b.cells.items

pub same_instance : (a b : Instance) → SamePlace a b → SameKnown a b → a ≡ b
same_instance a b place known = λ i. record {
  kind = place.kind i;
  pc = place.pc i;
  line = place.line i;
  clock = place.clock i;
  level = place.level i;
  pending = place.pending i;
  top = place.top i;
  temp = place.temp i;
  regs = known.regs i;
  pairs = known.pairs i;
  flags = known.flags i;
  compared = known.compared i;
  stack = record { items = known.stack i };
  cells = record { items = known.cells i };
}

pub exact_instance : (a b : Instance) → (instances.TheImpl.ghosts).eq a b ≡ true → a ≡ b
exact_instance a b h0 =
    let h1 = right _ _ h0 in
    let h2 = right _ _ h1 in
    let h3 = right _ _ h2 in
    let h4 = right _ _ h3 in
    let h5 = right _ _ h4 in
    let h6 = right _ _ h5 in
    let h7 = right _ _ h6 in
    let h8 = right _ _ h7 in
    let h9 = right _ _ h8 in
    let h10 = right _ _ h9 in
    let h11 = right _ _ h10 in
    let h12 = right _ _ h11 in
    let h13 = right _ _ h12 in
    same_instance a b (record {
      kind = exact_kind a.kind b.kind (left _ _ h0);
      pc = eqb-true a.pc b.pc (left _ _ h2);
      line = eqb-true a.line b.line (left _ _ h3);
      clock = eqb-true a.clock b.clock (left _ _ h4);
      level = eqb-true a.level b.level (left _ _ h5);
      pending = beq_true a.pending b.pending (left _ _ h6);
      top = eqb-true a.top b.top (left _ _ h7);
      temp = exact_span a.temp b.temp (left _ _ h8);
    }) (record {
      regs = exact_list _ exact_val a.regs b.regs (left _ _ h9);
      pairs = exact_list _ exact_wide a.pairs b.pairs (left _ _ h10);
      flags = exact_list _ exact_bit a.flags b.flags (left _ _ h1);
      compared = exact_compared a.compared b.compared (left _ _ h11);
      stack = exact_list _ exact_val a.stack.items b.stack.items (left _ _ h12);
      cells = exact_list _ exact_span a.cells.items b.cells.items h13;
    })
