-- What is known of an instance, within a kind's limits, and how writing keeps it so.
use Rattle.uz_search.proofs.Common.{◌≡◌, ◌≢◌, ℕ, zero, suc, ◌<◌, ◌≤◌, ◌+◌, ◌*◌, ◌⊎◌, List, [], ◌∷◌, ◌++◌, Some, Bool, true, false, ◌||◌}
use Rattle.uz_search.proofs.Common.{nat_eq, nat_le, refl, sym, ap, ◌∙◌, subst, inl, inr, ⊎_elim, length, slice_get, slice_set}
use Rattle.uz_search.proofs.Common.{slice_index_or, take, if◌then◌else◌, true≢false, arith, cases_eq, nat_tests, Ends, hull, whole_pair}
use Rattle.uz_search.proofs.Common.{tracked, depth_of, BitFits, spans_fit, Bit, Zero, One, Free, OldBit, Val, Range, Head, Kind, Instance}
use Rattle.uz_search.proofs.Common.{ends, is_old, with_slots, span_of, value_at, flag_at, pair_at, byte_hull, is_pointer, pair_number}
use Rattle.uz_search.proofs.Common.{pair_range, with_value, with_pair_value, with_flag_list, merged_flags, Each, IsOpen, OldFits, same_Some}
use Rattle.uz_search.proofs.Common.{slice_get-get_or, length-set, get_or-set_other, get_or-set_same}
use Rattle.uz_transfer.specs.Values.{each_flag, pairs_after_byte, with_pair_range}
use Rattle.uz_range.specs.Rules.{low_answer, high_answer}
use Rattle.uz_search.proofs.NewFlags.{AreNew, new_at}
use Rattle.std.proofs.lemmas.List.{length-take}
use Rattle.uz_search.proofs.Lists.{choose}
use Rattle.uz_search.proofs.MarkingLemmas.{get_set_same, get_set_other}

-- Lists

module _ {A : Type 0} where
  pub each_set : (P : A → Type 0) (xs : List A) (i : ℕ) (a : A) → Each P xs → P a → Each P (slice_set xs i a)
  each_set P [] i a each h k x at = each k x at
  each_set P (y ∷ ys) zero a each h zero x at = subst P (same_Some a x at) h
  each_set P (y ∷ ys) zero a each h (suc k) x at = each (suc k) x at
  each_set P (y ∷ ys) (suc i) a each h zero x at = each 0 x at
  each_set P (y ∷ ys) (suc i) a each h (suc k) x at = each_set P ys i a (λ j z here. each (suc j) z here) h k x at

  pub index_each : (P : A → Type 0) (xs : List A) (i : ℕ) (d : A) → Each P xs → P d → P (slice_index_or xs i d)
  index_each P [] i d each h = h
  index_each P (x ∷ xs) zero d each h = each 0 x refl
  index_each P (x ∷ xs) (suc i) d each h = index_each P xs i d (λ j z here. each (suc j) z here) h

  pub each_append : (P : A → Type 0) (xs ys : List A) → Each P xs → Each P ys → Each P (xs ++ ys)
  each_append P [] ys h k i x at = k i x at
  each_append P (y ∷ xs) ys h k zero x at = h 0 x at
  each_append P (y ∷ xs) ys h k (suc i) x at = each_append P xs ys (λ j z here. h (suc j) z here) k i x at

  pub each_take : (P : A → Type 0) (n : ℕ) (xs : List A) → Each P xs → Each P (take n xs)
  each_take P zero xs h i x at = cc
  each_take P (suc n) [] h i x at = cc
  each_take P (suc n) (y ∷ ys) h zero x at = h 0 x at
  each_take P (suc n) (y ∷ ys) h (suc i) x at = each_take P n ys (λ j z here. h (suc j) z here) i x at

-- What is known

-- of an instance of this kind
pub record Known (head : Head) (kind : Kind) (x : Instance) : Type 0 where
  pub register_count : length x.regs ≡ 32
  pub registers : Each (OldFits kind) x.regs
  pub pair_count : length x.pairs ≡ 3
  pub hulls : (k : ℕ) → k < 3 → slice_get x.pairs k ≡ Some whole_pair → IsOpen (byte_hull x.regs (26 + 2 * k))
  pub flag_count : length x.flags ≡ 7
  pub flags : Each (BitFits kind) x.flags
  pub slots : length x.stack.items ≤ depth_of head kind
  pub stack : Each (OldFits kind) x.stack.items
  pub cells : spans_fit (tracked head kind) x.cells.items ≡ true

whole_open : IsOpen whole_pair
whole_open = (refl, omega arith)

-- X, Y and Z are the pairs from 26, 28 and 30 on

pub pointer_cases : (d : ℕ) → is_pointer d ≡ true → (d ≡ 26) ⊎ ((d ≡ 28) ⊎ (d ≡ 30))
pointer_cases d is = by (nat_eq d 26) (nat_eq d 28) refl refl is
  where
    by : (a b : Bool) → nat_eq d 26 ≡ a → nat_eq d 28 ≡ b → ((a || b) || nat_eq d 30) ≡ true → (d ≡ 26) ⊎ ((d ≡ 28) ⊎ (d ≡ 30))
    by true b e f h = inl (grind (arith, nat_tests))
    by false true e f h = inr (inl (grind (arith, nat_tests)))
    by false false e f h = inr (inr (grind (arith, nat_tests)))

pub pointer_place : (d : ℕ) → is_pointer d ≡ true → (26 + 2 * pair_number d ≡ d) × (pair_number d < 3)
pointer_place d is = ⊎_elim (λ e. place 26 e refl (omega arith)) (λ r. ⊎_elim (λ e. place 28 e refl (omega arith))
    (λ e. place 30 e refl (omega arith)) r) (pointer_cases d is)
  where
    place : (n : ℕ) → d ≡ n → 26 + 2 * pair_number n ≡ n → pair_number n < 3 → (26 + 2 * pair_number d ≡ d) × (pair_number d < 3)
    place n e h k = subst (λ (m : ℕ). (26 + 2 * pair_number m ≡ m) × (pair_number m < 3)) (sym e) (h, k)

module _ (head : Head) (kind : Kind) where
  -- a new flag fits
  new_fits : (b : Bit) → is_old b ≡ false → BitFits kind b
  new_fits Zero h = tt
  new_fits One h = tt
  new_fits Free h = tt
  new_fits OldBit h = absurd (true≢false h)

  -- what is known of a register
  pub value_fits : (x : Instance) (r : ℕ) → Known head kind x → OldFits kind (value_at x.regs r)
  value_fits x r h = index_each (OldFits kind) x.regs r (Range (ends 0 255)) h.registers tt

  pub slot_fits : (x : Instance) (i : ℕ) → Known head kind x → OldFits kind (value_at x.stack.items i)
  slot_fits x i h = index_each (OldFits kind) x.stack.items i (Range (ends 0 255)) h.stack tt

  -- seven flags

  seven : (f : ℕ → Bit) → ((k : ℕ) → BitFits kind (f k)) → Each (BitFits kind) (each_flag f)
  seven f h zero b at = subst (BitFits kind) (same_Some (f 0) b at) (h 0)
  seven f h (suc zero) b at = subst (BitFits kind) (same_Some (f 1) b at) (h 1)
  seven f h (suc (suc zero)) b at = subst (BitFits kind) (same_Some (f 2) b at) (h 2)
  seven f h (suc (suc (suc zero))) b at = subst (BitFits kind) (same_Some (f 3) b at) (h 3)
  seven f h (suc (suc (suc (suc zero)))) b at = subst (BitFits kind) (same_Some (f 4) b at) (h 4)
  seven f h (suc (suc (suc (suc (suc zero))))) b at = subst (BitFits kind) (same_Some (f 5) b at) (h 5)
  seven f h (suc (suc (suc (suc (suc (suc zero)))))) b at = subst (BitFits kind) (same_Some (f 6) b at) (h 6)
  seven f h (suc (suc (suc (suc (suc (suc (suc k))))))) b at = cc

  pub with_flags : (flags : List Bit) (x : Instance) → Known head kind x → length flags ≡ 7 → Each (BitFits kind) flags → Known head kind
      (with_flag_list flags x)
  with_flags flags x h count each = record {
    register_count = h.register_count;
    registers = h.registers;
    pair_count = h.pair_count;
    hulls = h.hulls;
    flag_count = count;
    flags = each;
    slots = h.slots;
    stack = h.stack;
    cells = h.cells;
  }

  pub with_new : (f : ℕ → Bit) (x : Instance) → Known head kind x → ((k : ℕ) → BitFits kind (f k)) → Known head kind
      (with_flag_list (each_flag f) x)
  with_new f x h fits = with_flags (each_flag f) x h refl (seven f fits)

  pub with_merged : (keeps : ℕ → Bool) (new : List Bit) (x : Instance) → Known head kind x → AreNew new → Known head kind
      (with_flag_list (merged_flags keeps new x.flags) x)
  with_merged keeps new x h are = with_new (λ k. if keeps k then flag_at x.flags k else flag_at new k) x h
      (λ k. choose (BitFits kind) (keeps k) (flag_at x.flags k) (flag_at new k)
      (index_each (BitFits kind) x.flags k Free h.flags tt) (new_fits (flag_at new k) (new_at new k are)))

  pub with_one_flag : (k : ℕ) (b : Bit) (x : Instance) → Known head kind x → is_old b ≡ false → Known head kind
      (with_flag_list (slice_set x.flags k b) x)
  with_one_flag k b x h new = with_flags (slice_set x.flags k b) x h (length-set x.flags k b ∙ h.flag_count)
      (each_set (BitFits kind) x.flags k b h.flags (new_fits b new))

  -- Registers and pairs

  -- where the register isn't a byte of the pair the hull of its bytes stays
  hull_other : (regs : List Val) (d j : ℕ) (v : Val) → (j ≡ d → ⊥) → (j + 1 ≡ d → ⊥) → byte_hull (slice_set regs d v) j ≡ byte_hull regs j
  hull_other regs d j v low high =
      ap (λ a. hull (span_of a) (span_of (value_at (slice_set regs d v) (j + 1)))) (get_or-set_other regs d j v (Range (ends 0 255)) low)
      ∙ ap (λ b. hull (span_of (value_at regs j)) (span_of b)) (get_or-set_other regs d (j + 1) v (Range (ends 0 255)) high)

  pub hulls_after : (x : Instance) (d : ℕ) (v : Val) → Known head kind x → (k : ℕ) → k < 3
      → slice_get (pairs_after_byte d (slice_set x.regs d v) x.pairs) k ≡ Some whole_pair
      → IsOpen (byte_hull (slice_set x.regs d v) (26 + 2 * k))
  hulls_after x d v h k few = by (nat_le 26 d) refl
    where
      n : ℕ
      n = pair_number d

      fresh : Ends
      fresh = byte_hull (slice_set x.regs d v) (26 + 2 * n)

      by : (b : Bool) → nat_le 26 d ≡ b → slice_get (if b then slice_set x.pairs n fresh else x.pairs) k ≡ Some whole_pair
          → IsOpen (byte_hull (slice_set x.regs d v) (26 + 2 * k))
      by true is at = ⊎_elim
          (λ (same : k ≡ n).
          let len = h.pair_count in
          let here : Some fresh ≡ Some whole_pair = sym (get_set_same x.pairs n fresh (omega (arith, len, same, few)))
          ∙ ap (slice_get (slice_set x.pairs n fresh)) (sym same) ∙ at in
          subst IsOpen (sym (ap (λ m. byte_hull (slice_set x.regs d v) (26 + 2 * m)) same ∙ same_Some fresh whole_pair here)) whole_open)
          (λ (other : k ≢ n).
          let ge : 26 ≤ d = grind (arith, nat_tests) in
          let low : (26 + 2 * k ≡ d → ⊥) = λ e. other (omega (arith, e)) in
          let high : (26 + 2 * k + 1 ≡ d → ⊥) = λ e. other (omega (arith, e)) in
          subst IsOpen (sym (hull_other x.regs d (26 + 2 * k) v low high))
          (h.hulls k few (sym (get_set_other x.pairs n k fresh other) ∙ at)))
          (cases_eq k n)
      by false is at =
          let lt : d < 26 = grind (arith, nat_tests) in
          subst IsOpen (sym (hull_other x.regs d (26 + 2 * k) v (λ e. omega (arith, e, lt)) (λ e. omega (arith, e, lt)))) (h.hulls k few at)

  pairs_length : (x : Instance) (d : ℕ) (regs : List Val) → Known head kind x → length (pairs_after_byte d regs x.pairs) ≡ 3
  pairs_length x d regs h = by (nat_le 26 d)
    where
      by : (b : Bool) → length (if b then slice_set x.pairs (pair_number d) (byte_hull regs (26 + 2 * pair_number d)) else x.pairs) ≡ 3
      by true = length-set x.pairs (pair_number d) (byte_hull regs (26 + 2 * pair_number d)) ∙ h.pair_count
      by false = h.pair_count

  pub with_byte : (d : ℕ) (v : Val) (x : Instance) → Known head kind x → OldFits kind v → Known head kind (with_value d v x)
  with_byte d v x h fits = record {
    register_count = length-set x.regs d v ∙ h.register_count;
    registers = each_set (OldFits kind) x.regs d v h.registers fits;
    pair_count = pairs_length x d (slice_set x.regs d v) h;
    hulls = hulls_after x d v h;
    flag_count = h.flag_count;
    flags = h.flags;
    slots = h.slots;
    stack = h.stack;
    cells = h.cells;
  }

  -- a pair takes a range; where it is whole its bytes are
  pub with_pair : (d : ℕ) (e : Ends) (x : Instance) → Known head kind x
      → (is_pointer d ≡ true → e ≡ whole_pair → IsOpen (byte_hull x.regs d)) → Known head kind (with_pair_range d e x)
  with_pair d e x h whole = record {
    register_count = h.register_count;
    registers = h.registers;
    pair_count = count (is_pointer d);
    hulls = λ k few. hulls (is_pointer d) refl k few;
    flag_count = h.flag_count;
    flags = h.flags;
    slots = h.slots;
    stack = h.stack;
    cells = h.cells;
  }
    where
      n : ℕ
      n = pair_number d

      count : (b : Bool) → length (if b then slice_set x.pairs n e else x.pairs) ≡ 3
      count true = length-set x.pairs n e ∙ h.pair_count
      count false = h.pair_count

      hulls : (b : Bool) → is_pointer d ≡ b → (k : ℕ) → k < 3 → slice_get (if b then slice_set x.pairs n e else x.pairs) k ≡ Some whole_pair
          → IsOpen (byte_hull x.regs (26 + 2 * k))
      hulls true is k few at = ⊎_elim
          (λ (same : k ≡ n).
          let len = h.pair_count in
          let here : Some e ≡ Some whole_pair = sym (get_set_same x.pairs n e (omega (arith, len, same, few)))
          ∙ ap (slice_get (slice_set x.pairs n e)) (sym same) ∙ at in
          let low : 26 + 2 * k ≡ d = let p = (pointer_place d is).0 in omega (arith, p, same) in
          subst (λ m. IsOpen (byte_hull x.regs m)) (sym low) (whole is (same_Some e whole_pair here)))
          (λ (other : k ≢ n). h.hulls k few (sym (get_set_other x.pairs n k e other) ∙ at))
          (cases_eq k n)
      hulls false is k few at = h.hulls k few at

  -- a pair that is whole has whole bytes
  pub whole_bytes : (x : Instance) (r : ℕ) → Known head kind x → pair_range x r ≡ whole_pair → IsOpen (byte_hull x.regs r)
  whole_bytes x r h = by (is_pointer r) refl
    where
      by : (b : Bool) → is_pointer r ≡ b → (if b then pair_at x.pairs (pair_number r) else byte_hull x.regs r) ≡ whole_pair
          → IsOpen (byte_hull x.regs r)
      by true is e =
          let p = pointer_place r is in
          let len = h.pair_count in
          let few = p.1 in
          subst (λ m. IsOpen (byte_hull x.regs m)) p.0
          (h.hulls (pair_number r) p.1 (slice_get-get_or x.pairs (pair_number r) (ends 0 65535) (omega (arith, len, few)) ∙ ap Some e))
      by false is e = subst IsOpen (sym e) whole_open

  -- a pair takes the range of a copy or of a result

  pub with_copied : (d : ℕ) (a b : Val) (e : Ends) (x : Instance) → Known head kind x → OldFits kind a → OldFits kind b
      → (e ≡ whole_pair → IsOpen (hull (span_of a) (span_of b)))
      → Known head kind (with_pair_range d e (with_value (d + 1) b (with_value d a x)))
  with_copied d a b e x h fits_a fits_b whole =
      with_pair d e (with_value (d + 1) b (with_value d a x)) (with_byte (d + 1) b (with_value d a x) (with_byte d a x h fits_a) fits_b)
      (λ is same. subst IsOpen (sym (bytes is)) (whole same))
    where
      bytes : is_pointer d ≡ true → byte_hull (slice_set (slice_set x.regs d a) (d + 1) b) d ≡ hull (span_of a) (span_of b)
      bytes is =
          let place = pointer_cases d is in
          let few : d < 31 = ⊎_elim (λ e. omega (arith, e)) (λ r. ⊎_elim (λ e. omega (arith, e)) (λ e. omega (arith, e)) r) place in
          let len = h.register_count in
          let len' = length-set x.regs d a in
          let low : value_at (slice_set (slice_set x.regs d a) (d + 1) b) d ≡ a =
          get_or-set_other (slice_set x.regs d a) (d + 1) d b (Range (ends 0 255)) (λ e. omega (arith, e)) ∙ get_or-set_same x.regs d a
          (Range (ends 0 255)) (omega (arith, len, few)) in
          let high : value_at (slice_set (slice_set x.regs d a) (d + 1) b) (d + 1) ≡ b =
          get_or-set_same (slice_set x.regs d a) (d + 1) b (Range (ends 0 255)) (omega (arith, len, len', few)) in
          ap (λ v. hull (span_of v) (span_of (value_at (slice_set (slice_set x.regs d a) (d + 1) b) (d + 1)))) low
          ∙ ap (λ v. hull (span_of a) (span_of v)) high

  pub with_result : (d : ℕ) (e : Ends) (x : Instance) → Known head kind x → Known head kind (with_pair_value d e x)
  with_result d e x h = with_copied d (Range (low_answer e)) (Range (high_answer e)) e x h tt tt
      (λ same. subst (λ (p : Ends). IsOpen (hull (low_answer p) (high_answer p))) (sym same) whole_open)

  -- The stack

  pub with_stack : (slots : List Val) (x : Instance) → Known head kind x → length slots ≤ depth_of head kind → Each (OldFits kind) slots
      → Known head kind (with_slots slots x)
  with_stack slots x h few each = record {
    register_count = h.register_count;
    registers = h.registers;
    pair_count = h.pair_count;
    hulls = h.hulls;
    flag_count = h.flag_count;
    flags = h.flags;
    slots = few;
    stack = each;
    cells = h.cells;
  }

  pub without : (n : ℕ) (x : Instance) → Known head kind x → Known head kind (with_slots (take n x.stack.items) x)
  without n x h = with_stack (take n x.stack.items) x h (let b = h.slots in omega (arith, length-take n x.stack.items, b))
      (each_take (OldFits kind) n x.stack.items h.stack)
