-- Steps of a core that meets an instance: flags, pairs, pointers and SREG.
use Rattle.uz_rules.proofs.Common.{◌≡◌, inl, inr, ℕ, zero, suc, ◌+◌, ◌-◌, ◌*◌, ◌/◌, ◌%◌, ◌^◌, ◌<◌, ◌≤◌, Bool, true, false, if◌then◌else◌}
use Rattle.uz_rules.proofs.Common.{nat_eq, nat_lt, Option, Some, None, List, [], ◌∷◌, length, is_none, refl, sym, ◌∙◌, ap, subst, arith}
use Rattle.uz_rules.proofs.Common.{slice_index_or, slice_set, bit_at, eqb_tells, nat_tests, bit_at_lowest, same_from_bits_below}
use Rattle.uz_rules.proofs.Common.{bit_at_above, AddressMode, Direct, Displacement, PostIncrement, PreDecrement, AluResult, bit_value}
use Rattle.uz_rules.proofs.Common.{bit_is_set, Core, register, pair, with_register, with_pair, with_flags, effective_address}
use Rattle.uz_rules.proofs.Common.{with_pointer_after, IsCore, AddressModeFits, Ends, Bit, Zero, One, Free, OldBit, Val, Range, Old}
use Rattle.uz_rules.proofs.Common.{OldFlags, Instance, ends, is_single, is_known, is_one, IsWithin, MayBe, Admits, AdmitsAll, low_answer}
use Rattle.uz_rules.proofs.Common.{high_answer, bst_answer, pair_add_answer, low_covers, high_covers, bst_covers, pair_add_covers}
use Rattle.uz_rules.proofs.Common.{pair_sub_covers, exact_pair, byte_hull, flag_at, pair_range, with_value, with_pair_value, with_flag_list}
use Rattle.uz_rules.proofs.Common.{merged_flags, known_byte, ValueHolds, FlagHolds, CoreMeets, address_range, with_pointer_range, all_flags}
use Rattle.uz_rules.proofs.Common.{is_old, flags_number, sreg_value, flags_from, is_main, or_kept, bit_of_merged, and_parts}
use Rattle.uz_rules.proofs.Common.{pair_sub_answer, each_flag, bit_at-suc, bit_at-lt, bit_at_cat_low, bit_at_cat_high}
use Rattle.uz_rules.proofs.CoreKeeps.{hull_holds, set_same, set_other, whole, pair_word, pair_holds, val_meets, range_meets, core_with}

-- registers, pairs and flags of two instances, and of two cores, may be the same
pub core_same : (a b : Instance) (o c d : Core) → a.regs ≡ b.regs → a.pairs ≡ b.pairs → a.flags ≡ b.flags → c.registers ≡ d.registers
    → c.sreg ≡ d.sreg → CoreMeets a o c → CoreMeets b o d
core_same a b o c d r p f x s h = record {
  regs = λ k w. rw (← r, ← x) (h.regs k w);
  pairs = λ k w. rw (← p, ← x) (h.pairs k w);
  flags = λ k w. rw (← f, ← s) (h.flags k w);
}

pub seven_at : {A : Type 0} (f : ℕ → A) (d : A) (k : ℕ) → k < 7 → slice_index_or (each_flag f) k d ≡ f k
seven_at f d (suc (suc (suc (suc (suc (suc (suc k))))))) h = absurd (omega arith)
seven_at f d k h = refl

-- Flags

pub may_be : (f : Bit) (before b : Bool) → FlagHolds f before b → MayBe f b
may_be Zero before b h = h
may_be One before b h = h
may_be f before b h = tt

pub told : (n : Bit) (before c : Bool) → Admits n (Some c) → FlagHolds n before c
told Zero before c h = cc
told One before c h = cc
told Free before c h = tt
told OldBit before c h = absurd h

merge_one : (n f : Bit) (o : Option Bool) (before b : Bool) → Admits n o → FlagHolds f before b → FlagHolds (if is_none o then f else n)
    before (or_kept o b)
merge_one n f None before b h m = m
merge_one n f (Some c) before b h m = told n before c h

admits_at : (bs : List Bit) (os : List (Option Bool)) (k : ℕ) → AdmitsAll bs os → Admits (flag_at bs k) (slice_index_or os k None)
admits_at [] [] k h = tt
admits_at [] (o ∷ os) k h = absurd h
admits_at (b ∷ bs) [] k h = absurd h
admits_at (b ∷ bs) (o ∷ os) zero h = h.0
admits_at (b ∷ bs) (o ∷ os) (suc k) h = admits_at bs os k h.1

-- which flags an operation keeps
abbrev pub KeepsAt : (ℕ → Bool) → List (Option Bool) → Type 0
KeepsAt keeps os = each_flag (λ k. is_none (slice_index_or os k None)) ≡ each_flag keeps

keeps_at : (keeps : ℕ → Bool) (os : List (Option Bool)) → KeepsAt keeps os → (k : ℕ) → k < 7 → is_none (slice_index_or os k None) ≡ keeps k
keeps_at keeps os e k h = sym (seven_at (λ k. is_none (slice_index_or os k None)) false k h) ∙ ap (λ l. slice_index_or l k false) e
    ∙ seven_at keeps false k h

pub flags_meet : (inst : Instance) (o core : Core) (keeps : ℕ → Bool) (new : List Bit) (r : AluResult) → KeepsAt keeps r.flags
    → AdmitsAll new r.flags → CoreMeets inst o core
    → CoreMeets (with_flag_list (merged_flags keeps new inst.flags) inst) o (with_flags r core)
flags_meet inst o core keeps new r e all h = record {
  regs = h.regs;
  pairs = h.pairs;
  flags = λ k w.
      rw (
        seven_at (λ k. if keeps k then flag_at inst.flags k else flag_at new k) Free k w,
        bit_of_merged r.flags core.sreg k,
        ← keeps_at keeps r.flags e k w,
      )
      (merge_one (flag_at new k) (flag_at inst.flags k) (slice_index_or r.flags k None) (bit_is_set o.sreg k) (bit_is_set core.sreg k)
      (admits_at new r.flags k all) (h.flags k w));
}

-- Pairs

pub pair_val_meets : (inst : Instance) (o core : Core) (d x : ℕ) (e : Ends) → IsCore core → d < 31 → x < 65536 → IsWithin x e
    → CoreMeets inst o core → CoreMeets (with_pair_value d e inst) o (with_pair d x core)
pair_val_meets inst o core d x e c b bx he h =
    let one = core_with d (x % 256) core (omega arith) c in
    let two = core_with (d + 1) (x / 256) (with_register d (x % 256) core) (omega arith) one in
    let low = val_meets inst o core d (x % 256) (Range (low_answer e)) c (omega arith) (omega arith) (low_covers e x he) h in
    let both = val_meets (with_value d (Range (low_answer e)) inst) o (with_register d (x % 256) core) (d + 1) (x / 256)
    (Range (high_answer e)) one (omega arith) (omega arith) (high_covers e x he) low in
    let first : register (with_pair d x core) d ≡ x % 256 =
    set_other (slice_set core.registers d (x % 256)) (d + 1) d (x / 256) (λ q. omega (arith, q)) ∙ set_same core.registers d (x % 256)
    (omega (arith, c.count, b)) in
    let second : register (with_pair d x core) (d + 1) ≡ x / 256 = set_same (slice_set core.registers d (x % 256)) (d + 1) (x / 256)
    (omega (arith, one.count, b)) in
    let is : x ≡ pair (with_pair d x core) d = rw (first, second) (omega arith) in
    range_meets (with_value (d + 1) (Range (high_answer e)) (with_value d (Range (low_answer e)) inst)) o (with_pair d x core) d e two b
    (subst (λ n. IsWithin n e) is he) both

pub core_with_pair : (d x : ℕ) (core : Core) → x < 65536 → IsCore core → IsCore (with_pair d x core)
core_with_pair d x core b c = core_with (d + 1) (x / 256) (with_register d (x % 256) core) (omega arith)
    (core_with d (x % 256) core (omega arith) c)

-- Pointers

pub exact_holds : (inst : Instance) (o core : Core) (d : ℕ) → IsCore core → CoreMeets inst o core → d < 31 → IsWithin (pair core d)
    (exact_pair inst d)
exact_holds inst o core d c h b = by_case (is_single (byte_hull inst.regs d))
  where
    by_case : (t : Bool) → IsWithin (pair core d) (if t then byte_hull inst.regs d else pair_range inst d)
    by_case true = hull_holds inst.regs o core d c h.regs b
    by_case false = pair_holds inst o core d c h b

pub stepped_up : (p : Ends) (x : ℕ) → x < 65536 → IsWithin x p → IsWithin ((x + 1) % 65536) (pair_add_answer p 1).span
stepped_up p x b h = (pair_add_covers p 1 x b (omega arith) h).value

pub stepped_down : (p : Ends) (x : ℕ) → x < 65536 → IsWithin x p → IsWithin ((x + 65535) % 65536) (pair_sub_answer p 1).span
stepped_down p x b h = let e : x + 65536 - 1 ≡ x + 65535 = omega arith in subst (λ n. IsWithin (n % 65536) (pair_sub_answer p 1).span) e
    (pair_sub_covers p 1 x b (omega arith) h).value

displaced : (p : Ends) (x q : ℕ) → IsWithin x p → IsWithin ((x + q) % 65536) (if nat_lt (p.hi + q) 65536 then ends (p.lo + q) (p.hi + q)
    else ends 0 65535)
displaced p x q h = by_case (nat_lt (p.hi + q) 65536) refl
  where
    by_case : (t : Bool) → nat_lt (p.hi + q) 65536 ≡ t → IsWithin ((x + q) % 65536) (if t then ends (p.lo + q) (p.hi + q) else ends 0 65535)
    by_case true e = let u : p.hi + q < 65536 = grind (arith, nat_tests) in let m : (x + q) % 65536 ≡ x + q = omega (arith, h.below) in
        rw m (record { above = omega (arith, h.above); below = omega (arith, h.below) })
    by_case false e = record { above = omega arith; below = omega arith }

pub address_holds : (mode : AddressMode) (inst : Instance) (o core : Core) → IsCore core → AddressModeFits mode → CoreMeets inst o core
    → IsWithin (effective_address mode core) (address_range mode inst)
address_holds (Direct k) inst o core c fits h = record { above = omega arith; below = omega arith }
address_holds (Displacement p q) inst o core c fits h = displaced (pair_range inst p) (pair core p) q
    (pair_holds inst o core p c h fits.0.1.0)
address_holds (PostIncrement p) inst o core c fits h = pair_holds inst o core p c h fits.1.0
address_holds (PreDecrement p) inst o core c fits h = stepped_down (exact_pair inst p) (pair core p) (pair_word core p c)
    (exact_holds inst o core p c h fits.1.0)

-- `old` and `core` are before the instruction; a store may have changed what `now` and `new` have of flags
pub pointer_meets : (mode : AddressMode) (old now : Instance) (o core new : Core) → IsCore core → IsCore new → AddressModeFits mode
    → CoreMeets old o core → CoreMeets now o new
    → CoreMeets (with_pointer_range mode old now) o (with_pointer_after mode (effective_address mode core) new)
pointer_meets (Direct k) old now o core new c n fits h g = g
pointer_meets (Displacement p q) old now o core new c n fits h g = g
pointer_meets (PostIncrement p) old now o core new c n fits h g =
    pair_val_meets now o new p ((pair core p + 1) % 65536) (pair_add_answer (exact_pair old p) 1).span n fits.1.0 (omega arith)
    (stepped_up (exact_pair old p) (pair core p) (pair_word core p c) (exact_holds old o core p c h fits.1.0)) g
pointer_meets (PreDecrement p) old now o core new c n fits h g =
    pair_val_meets now o new p ((pair core p + 65535) % 65536) (pair_sub_answer (exact_pair old p) 1).span n fits.1.0 (omega arith)
    (stepped_down (exact_pair old p) (pair core p) (pair_word core p c) (exact_holds old o core p c h fits.1.0)) g

pub core_with_pointer : (mode : AddressMode) (at : ℕ) (core : Core) → at < 65536 → IsCore core → IsCore (with_pointer_after mode at core)
core_with_pointer (PostIncrement p) at core b c = core_with_pair p ((at + 1) % 65536) core (omega arith) c
core_with_pointer (PreDecrement p) at core b c = core_with_pair p at core b c
core_with_pointer mode at core b c = c

-- SREG

pub low_seven : (n k : ℕ) → k < 7 → bit_at (n % 128) k ≡ bit_at n k
low_seven n k h = let e : n ≡ n / 128 * 2 ^ 7 + n % 128 = omega arith in
    sym (ap (λ x. bit_at x k) e ∙ bit_at_cat_low (n / 128) 7 (n % 128) k h)

-- a value that is stored to SREG
pub stored_flags : (v : Val) (o : Core) (x : ℕ) → ValueHolds v o x → (k : ℕ) → k < 7 → FlagHolds (flag_at (flags_from v) k)
    (bit_is_set o.sreg k) (bit_is_set x k)
stored_flags (Range e) o x h k w = rw (seven_at (λ k. bst_answer e k) Free k w) (told _ _ _ (bst_covers e k x h))
stored_flags (Old r) o x h k w = rw (seven_at (λ k. Free) Free k w) tt
stored_flags OldFlags o x h k w = rw (seven_at (λ k. OldBit) Free k w, h, low_seven o.sreg k w) refl

record Counted (fs : List Bit) (n : ℕ) : Type 0 where
  rest : ℕ
  is : n ≡ rest * 2 ^ length fs + flags_number fs

known_bit : (b : Bit) (before : Bool) (n : ℕ) → is_known b ≡ true → FlagHolds b before (bit_is_set n 0) → n % 2 ≡ bit_value (is_one b)
known_bit Zero before n e h = let l = bit_at_lowest n in let f = bit_at-lt n 0 in grind (arith, nat_tests)
known_bit One before n e h = let l = bit_at_lowest n in grind (arith, nat_tests)
known_bit b before n e h = absurd cc

pow-suc : (k : ℕ) → 2 ^ suc k ≡ 2 * 2 ^ k
pow-suc k = omega arith

counted : (fs : List Bit) (before : ℕ → Bool) (n : ℕ) → all_flags is_known fs ≡ true
    → ((k : ℕ) → k < length fs → FlagHolds (flag_at fs k) (before k) (bit_is_set n k)) → Counted fs n
counted [] before n e h = record { rest = n; is = omega arith }
counted (f ∷ fs) before n e h =
    let both = and_parts (is_known f) (all_flags is_known fs) e in
    let low = known_bit f (before 0) n both.0 (h 0 (omega arith)) in
    let more = counted fs (λ k. before (suc k)) (n / 2) both.1 (λ k w. rw (← bit_at-suc n k) (h (suc k) (omega arith))) in
    let p = pow-suc (length fs) in
    record {
      rest = more.rest;
      is = let q : more.rest * 2 ^ suc (length fs) ≡ 2 * (more.rest * 2 ^ length fs) = rw p (omega arith) in
          omega (arith, more.is, low, q);
    }

flags_below : (fs : List Bit) → flags_number fs < 2 ^ length fs
flags_below [] = omega arith
flags_below (f ∷ fs) = let i = flags_below fs in let p = pow-suc (length fs) in let b = bit_low (is_one f) in omega arith
  where
    bit_low : (b : Bool) → bit_value b ≤ 1
    bit_low true = omega arith
    bit_low false = omega arith

all_old : (fs : List Bit) (k : ℕ) → all_flags is_old fs ≡ true → k < length fs → flag_at fs k ≡ OldBit
all_old [] k e w = absurd (omega arith)
all_old (OldBit ∷ fs) zero e w = refl
all_old (OldBit ∷ fs) (suc k) e w = all_old fs k e (omega arith)
all_old (f ∷ fs) k e w = absurd cc

pub same_bit : (a b k : ℕ) → bit_is_set a k ≡ bit_is_set b k → bit_at a k ≡ bit_at b k
same_bit a b k e = let p = bit_at-lt a k in let q = bit_at-lt b k in by_case (bit_is_set a k) (bit_is_set b k) refl refl e
  where
    by_case : (t u : Bool) → nat_eq (bit_at a k) 1 ≡ t → nat_eq (bit_at b k) 1 ≡ u → t ≡ u → bit_at a k ≡ bit_at b k
    by_case true true p q e = grind (arith, nat_tests)
    by_case false false p q e = let i = bit_at-lt a k in let j = bit_at-lt b k in grind (arith, nat_tests)
    by_case t u p q e = absurd cc

-- what is known of SREG
pub sreg_holds : (inst : Instance) (o core : Core) → length inst.flags ≡ 7
    → (all_flags is_old inst.flags ≡ true → is_main inst.kind ≡ false) → IsCore core → CoreMeets inst o core → bit_is_set core.sreg
    7 ≡ is_main inst.kind → ValueHolds (sreg_value inst) o core.sreg
sreg_holds inst o core len old c h enabled = by_old (all_flags is_old inst.flags) (is_main inst.kind) refl old enabled
  where
    by_known : (t main : Bool) → all_flags is_known inst.flags ≡ t → bit_is_set core.sreg 7 ≡ main
        → ValueHolds (if t then known_byte (flags_number inst.flags + 128 * bit_value main) else Range (ends 0 255)) o core.sreg
    by_known true main e enabled =
        let n = counted inst.flags (bit_is_set o.sreg) core.sreg e (λ k w. h.flags k (omega (arith, w, len))) in
        let f : flags_number inst.flags < 2 ^ 7 = subst (λ k. flags_number inst.flags < 2 ^ k) len (flags_below inst.flags) in
        let is : core.sreg ≡ n.rest * 2 ^ 7 + flags_number inst.flags = subst (λ k. core.sreg ≡ n.rest * 2 ^ k + flags_number inst.flags)
        len n.is in
        let top : bit_at core.sreg 7 ≡ n.rest % 2 = ap (λ x. bit_at x 7) is ∙ bit_at_cat_high n.rest 7 (flags_number inst.flags) 7 f
        (omega arith) ∙ bit_at_lowest n.rest in
        let few : n.rest < 2 = omega (arith, is, c.sreg) in
        let rest : n.rest ≡ bit_value main = by_main main enabled top few in
        record { above = omega (arith, is, rest); below = omega (arith, is, rest) }
      where
        by_main : (main : Bool) → bit_is_set core.sreg 7 ≡ main → {r : ℕ} → bit_at core.sreg 7 ≡ r % 2 → r < 2 → r ≡ bit_value main
        by_main true e t f = grind (arith, nat_tests)
        by_main false e t f = grind (arith, nat_tests)
    by_known false main e enabled = whole core.sreg c.sreg

    by_old : (t main : Bool) → all_flags is_old inst.flags ≡ t → (t ≡ true → main ≡ false) → bit_is_set core.sreg 7 ≡ main
        → ValueHolds (if t then OldFlags else if all_flags is_known inst.flags then known_byte
        (flags_number inst.flags + 128 * bit_value main) else Range (ends 0 255)) o core.sreg
    by_old true false e old enabled =
        same_from_bits_below 8 core.sreg (o.sreg % 128) c.sreg (omega arith) (λ k w.
        elim (eqb_tells k 7) [
          | inl t ↦
              let z : bit_at (o.sreg % 128) 7 ≡ 0 = bit_at_above (o.sreg % 128) 7 7 (omega arith) (omega arith) in
              let f = bit_at-lt core.sreg 7 in
              let y : bit_at core.sreg 7 ≡ 0 = grind (arith, nat_tests) in
              subst (λ j. bit_at core.sreg j ≡ bit_at (o.sreg % 128) j) (sym t.1) (y ∙ sym z)
          | inr t ↦
              let k' : k < 7 = omega (arith, t.1, w) in
              let flag : FlagHolds OldBit (bit_is_set o.sreg k) (bit_is_set core.sreg k) =
              subst (λ f. FlagHolds f (bit_is_set o.sreg k) (bit_is_set core.sreg k)) (all_old inst.flags k e (omega (arith, len, k')))
              (h.flags k k') in
              same_bit core.sreg o.sreg k flag ∙ sym (low_seven o.sreg k k')
        ])
    by_old true true e old enabled = let never : true ≡ false = old refl in absurd cc
    by_old false main e old enabled = by_known (all_flags is_known inst.flags) main refl enabled

-- a pair that is written
pub pair_is : (core : Core) (d x : ℕ) → IsCore core → d < 31 → x < 65536 → pair (with_pair d x core) d ≡ x
pair_is core d x c b bx =
    let one = core_with d (x % 256) core (omega arith) c in
    let first : register (with_pair d x core) d ≡ x % 256 =
    set_other (slice_set core.registers d (x % 256)) (d + 1) d (x / 256) (λ q. omega (arith, q)) ∙ set_same core.registers d (x % 256)
    (omega (arith, c.count, b)) in
    let second : register (with_pair d x core) (d + 1) ≡ x / 256 = set_same (slice_set core.registers d (x % 256)) (d + 1) (x / 256)
    (omega (arith, one.count, b)) in
    rw (first, second) (omega arith)
