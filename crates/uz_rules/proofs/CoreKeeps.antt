-- What changes of registers, pairs and flags keep of a core that meets an instance.
use Rattle.uz_rules.proofs.Common.{get_or-set_same, get_or-set_other, ◌≡◌, ◌≢◌, ℕ, zero, suc, ◌+◌, ◌-◌, ◌*◌, ◌/◌, ◌<◌, ◌≤◌, Bool, true}
use Rattle.uz_rules.proofs.Common.{false, if◌then◌else◌, nat_le, List, [], ◌∷◌, length, refl, sym, ◌∙◌, subst, inl, inr, arith, slice_index}
use Rattle.uz_rules.proofs.Common.{slice_index_or, slice_set, length-set, eqb_tells, nat_tests, Core, register, pair, with_register, IsByte}
use Rattle.uz_rules.proofs.Common.{IsCore, Ends, Val, Range, Old, OldFlags, Instance, IsWithin, ends, span_of, value_at, pair_at, byte_hull}
use Rattle.uz_rules.proofs.Common.{pair_range, with_value, with_pair_range, ValueHolds, CoreMeets, is_pointer, pair_number}
use Rattle.uz_core.proofs.ByteLists.{byte_at, bytes_set}

-- Lists

pub set_same : (xs : List ℕ) (d x : ℕ) → d < length xs → slice_index (slice_set xs d x) d ≡ x
set_same xs d x h = get_or-set_same xs d x 0 h

pub set_other : (xs : List ℕ) (d q x : ℕ) → q ≢ d → slice_index (slice_set xs d x) q ≡ slice_index xs q
set_other xs d q x h = get_or-set_other xs d q x 0 h

-- what holds of the element that is set and of the default
pub or_same : {A : Type 0} (P : A → Type 0) (xs : List A) (d : ℕ) (x e : A) → P x → P e → P (slice_index_or (slice_set xs d x) d e)
or_same P [] d x e p q = q
or_same P (y ∷ xs) zero x e p q = p
or_same P (y ∷ xs) (suc d) x e p q = or_same P xs d x e p q

-- Ranges

pub whole : (v : ℕ) → v < 256 → IsWithin v (ends 0 255)
whole v h = record { above = omega arith; below = omega arith }

pub whole_pair : (v : ℕ) → v < 65536 → IsWithin v (ends 0 65535)
whole_pair v h = record { above = omega arith; below = omega arith }

-- a byte lies in the range of what is known of it
pub in_span : (v : Val) (o : Core) (x : ℕ) → x < 256 → ValueHolds v o x → IsWithin x (span_of v)
in_span (Range e) o x b h = h
in_span (Old r) o x b h = whole x b
in_span OldFlags o x b h = whole x b

pub register_byte : (s : Core) (n : ℕ) → IsCore s → register s n < 256
register_byte s n h = byte_at s.registers n h.registers

pub pair_word : (s : Core) (n : ℕ) → IsCore s → pair s n < 65536
pair_word s n h = omega (arith, register_byte s n h, register_byte s (n + 1) h)

-- and so does a register
pub within_span : (inst : Instance) (o s : Core) (d : ℕ) → IsCore s → d < 32 → CoreMeets inst o s
    → IsWithin (register s d) (span_of (value_at inst.regs d))
within_span inst o s d c hd meets = in_span (value_at inst.regs d) o (register s d) (register_byte s d c) (meets.regs d hd)

abbrev pub RegsHold : List Val → Core → Core → Type 0
RegsHold regs o core = (r : ℕ) → r < 32 → ValueHolds (value_at regs r) o (register core r)

-- a pair lies in the hull of its bytes
pub hull_holds : (regs : List Val) (o core : Core) (d : ℕ) → IsCore core → RegsHold regs o core → d < 31 → IsWithin (pair core d)
    (byte_hull regs d)
hull_holds regs o core d c h b =
    let low = in_span (value_at regs d) o (register core d) (register_byte core d c) (h d (omega arith)) in
    let high = in_span (value_at regs (d + 1)) o (register core (d + 1)) (register_byte core (d + 1) c) (h (d + 1) (omega arith)) in
    record { above = omega (arith, low.above, high.above); below = omega (arith, low.below, high.below) }

pub core_with : (n v : ℕ) (s : Core) → IsByte v → IsCore s → IsCore (with_register n v s)
core_with n v s b h = record {
  count = length-set s.registers n v ∙ h.count;
  registers = bytes_set s.registers n v b h.registers;
  sreg = h.sreg;
  sp = h.sp;
  pc = h.pc;
}

regs_set : (inst : Instance) (o core : Core) (d x : ℕ) (v : Val) → IsCore core → d < 32 → x < 256 → ValueHolds v o x → RegsHold inst.regs o
    core → RegsHold (slice_set inst.regs d v) o (with_register d x core)
regs_set inst o core d x v c b bx hv h r k =
    elim (eqb_tells r d) [
      | inl t ↦
          subst (λ q. ValueHolds (value_at (slice_set inst.regs d v) q) o (slice_index (slice_set core.registers d x) q)) (sym t.1)
          (rw (set_same core.registers d x (omega (arith, c.count, b))) (or_same (λ w. ValueHolds w o x) inst.regs d v (Range (ends 0 255))
          hv (whole x bx)))
      | inr t ↦ rw (get_or-set_other inst.regs d r v (Range (ends 0 255)) t.1, set_other core.registers d r x t.1) (h r k)
    ]

-- a pair of which no byte is written
pair_other : (core : Core) (d x n : ℕ) → n ≢ d → n + 1 ≢ d → pair (with_register d x core) n ≡ pair core n
pair_other core d x n p q = rw (set_other core.registers d n x p, set_other core.registers d (n + 1) x q) refl

pairs_rehulled : (regs : List Val) (pairs : List Ends) (o core : Core) (d x : ℕ) → IsCore (with_register d x core) → d < 32 → RegsHold regs
    o (with_register d x core)
    → ((k : ℕ) → k < 3 → IsWithin (pair core (26 + 2 * k)) (pair_at pairs k))
    → (t : Bool) → nat_le 26 d ≡ t → (k : ℕ) → k < 3 → IsWithin (pair (with_register d x core) (26 + 2 * k))
    (pair_at (if t then slice_set pairs (pair_number d) (byte_hull regs (26 + 2 * pair_number d)) else pairs) k)
pairs_rehulled regs pairs o core d x c b h old true e k w =
    let low : 26 ≤ d = grind (arith, nat_tests) in
    elim (eqb_tells k ((d - 26) / 2)) [
      | inl t ↦
          let P : ℕ → Type 0 = λ j. IsWithin (pair (with_register d x core) (26 + 2 * j))
          (pair_at (slice_set pairs (pair_number d) (byte_hull regs (26 + 2 * pair_number d))) j) in
          subst P (sym t.1)
          (or_same (λ q. IsWithin (pair (with_register d x core) (26 + 2 * pair_number d)) q) pairs (pair_number d)
          (byte_hull regs (26 + 2 * pair_number d)) (ends 0 65535)
          (hull_holds regs o (with_register d x core) (26 + 2 * pair_number d) c h (omega (arith, b)))
          (whole_pair _ (pair_word (with_register d x core) (26 + 2 * pair_number d) c)))
      | inr t ↦
          rw (
            get_or-set_other pairs (pair_number d) k (byte_hull regs (26 + 2 * pair_number d)) (ends 0 65535) t.1,
            pair_other core d x
                (26 + 2 * k) (λ q. t.1 (omega (arith, q))) (λ q. t.1 (omega (arith, q))),
          ) (old k w)
    ]
pairs_rehulled regs pairs o core d x c b h old false e k w =
    let low : d < 26 = grind (arith, nat_tests) in
    rw (pair_other core d x (26 + 2 * k) (λ q. absurd (omega (arith, q, low))) (λ q. absurd (omega (arith, q, low)))) (old k w)

-- a register takes a value
pub val_meets : (inst : Instance) (o core : Core) (d x : ℕ) (v : Val) → IsCore core → d < 32 → x < 256 → ValueHolds v o x → CoreMeets inst o
    core → CoreMeets (with_value d v inst) o (with_register d x core)
val_meets inst o core d x v c b bx hv h =
    let regs = regs_set inst o core d x v c b bx hv h.regs in
    record {
      regs = regs;
      pairs = pairs_rehulled (slice_set inst.regs d v) inst.pairs o core d x (core_with d x core bx c) b regs h.pairs (nat_le 26 d) refl;
      flags = h.flags;
    }

-- what is known of a pair holds of it
pointer_is : (d : ℕ) → d < 31 → is_pointer d ≡ true → (d ≡ 26 + 2 * pair_number d) × (pair_number d < 3)
pointer_is d b e = grind (arith, nat_tests)

pub pair_holds : (inst : Instance) (o core : Core) (d : ℕ) → IsCore core → CoreMeets inst o core → d < 31 → IsWithin (pair core d)
    (pair_range inst d)
pair_holds inst o core d c h b = by_case (is_pointer d) refl
  where
    by_case : (t : Bool) → is_pointer d ≡ t → IsWithin (pair core d) (if t then pair_at inst.pairs (pair_number d) else byte_hull inst.regs
        d)
    by_case true e =
        let p = pointer_is d b e in
        subst (λ n. IsWithin (pair core n) (pair_at inst.pairs (pair_number d))) (sym p.0) (h.pairs (pair_number d) p.1)
    by_case false e = hull_holds inst.regs o core d c h.regs b

-- what is learnt of a pair
pub range_meets : (inst : Instance) (o core : Core) (d : ℕ) (e : Ends) → IsCore core → d < 31 → IsWithin (pair core d) e → CoreMeets inst o
    core → CoreMeets (with_pair_range d e inst) o core
range_meets inst o core d e c b he h = by_case (is_pointer d) refl
  where
    by_case : (t : Bool) → is_pointer d ≡ t
        → CoreMeets (record inst { pairs = if t then slice_set inst.pairs (pair_number d) e else inst.pairs }) o core
    by_case true i =
        let p = pointer_is d b i in
        record {
          regs = h.regs;
          pairs = λ k w.
              elim (eqb_tells k (pair_number d)) [
                | inl t ↦
                    subst (λ j. IsWithin (pair core (26 + 2 * j)) (pair_at (slice_set inst.pairs (pair_number d) e) j)) (sym t.1)
                    (or_same (λ q. IsWithin (pair core (26 + 2 * pair_number d)) q) inst.pairs (pair_number d) e (ends 0 65535)
                    (subst (λ n. IsWithin (pair core n) e) p.0 he)
                    (whole_pair _ (pair_word core (26 + 2 * pair_number d) c)))
                | inr t ↦ rw (get_or-set_other inst.pairs (pair_number d) k e (ends 0 65535) t.1) (h.pairs k w)
              ];
          flags = h.flags;
        }
    by_case false i = record { regs = h.regs; pairs = h.pairs; flags = h.flags }
