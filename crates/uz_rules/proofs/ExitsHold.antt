-- An instruction goes where one of the abstract step's exits leads, in that exit's clocks.
use Rattle.uz_rules.proofs.Common.{◌≡◌, ◌≢◌, inl, inr, ℕ, zero, suc, ◌+◌, ◌-◌, ◌*◌, ◌%◌, ◌<◌, ◌≤◌, Bool, true, false, not, if◌then◌else◌}
use Rattle.uz_rules.proofs.Common.{nat_eq, nat_lt, nat_le, Option, Some, None, List, [], ◌∷◌, ◌++◌, map, Contains, length, refl, sym, ◌∙◌}
use Rattle.uz_rules.proofs.Common.{ap, subst, arith, slice_index, slice_index_or, ◌&&◌, ◌||◌, nat_cmp, FinMap, eqb_tells, nat_tests}
use Rattle.uz_rules.proofs.Common.{Outcome, Next, Taken, Equal, RegisterBit, IoBit, Effect, Branch, SkipIf, Jump, Return, bit_is_set, Core}
use Rattle.uz_rules.proofs.Common.{register, pair, following_pc, load_addresses, loaded_bytes, bit_equals, test_holds, outcome_of, next_pc}
use Rattle.uz_rules.proofs.Common.{skipped_words, IsCore, SkipTestFits, EffectFits, PadWiring, Space, plain_byte, space_loads, Ends, Bit}
use Rattle.uz_rules.proofs.Common.{Zero, One, Free, OldBit, Val, Range, Old, OldFlags, Head, Instance, is_single, IsWithin, bst_answer}
use Rattle.uz_rules.proofs.Common.{only, bst_covers, span_of, value_at, pair_range, ValueHolds, FlagHolds, CoreMeets, is_main, depth_of}
use Rattle.uz_rules.proofs.Common.{slot_value, bit_of_bool, target_fails, is_known_slot, fail_of, exits_of, returns_from_interrupt}
use Rattle.uz_rules.proofs.Common.{and_parts, not-false, Contains-append_left, Contains-append_right}
use Rattle.uz_rules.proofs.RegisterClasses.{bool_holds}
use Rattle.uz_rules.proofs.CoreKeeps.{within_span, pair_holds}
use Rattle.uz_core.specs.declared.machine.SkipTest.{SkipTest}
use Rattle.uz_core.specs.declared.machine.JumpTarget.TheVariants.{Absolute, Relative, Indirect}
use Rattle.uz_transfer.specs.Exits.{decided, flag_of_kind, are_equal, test_decides, choices, skip_outcome, outcomes, numbers_from, skipped}
use Rattle.uz_transfer.specs.Exits.{targets}
use Rattle.uz_rules.proofs.CoreSteps.{told}
use Rattle.uz_rules.proofs.LoadClasses.{ram_loaded, slot_holds}
use Rattle.uz_rules.proofs.Classes.{Before, low_room, unless_none}

-- Elements

pub here : {A : Type 0} (x : A) (xs : List A) → Contains (x ∷ xs) x
here x xs = (0, omega arith, refl)

pub there : {A : Type 0} (x y : A) (xs : List A) → Contains xs x → Contains (y ∷ xs) x
there x y xs h = (suc h.0, omega (arith, h.1), h.2)

mapped : {A B : Type 0} (f : A → B) (xs : List A) (x : A) (k : ℕ) → k < length xs → slice_index_or xs k x ≡ x → Contains (map f xs) (f x)
mapped f [] x k h e = absurd (omega arith)
mapped f (y ∷ xs) x zero h e = (0, omega arith, ap f e)
mapped f (y ∷ xs) x (suc k) h e = there (f x) (f y) (map f xs) (mapped f xs x k (omega arith) e)

-- from an outcome and its pc to an exit
exit_of : (e : Effect) (clocks : Outcome → ℕ) (following : ℕ) (inst : Instance) (os : List Outcome) (o : Outcome) (pc k : ℕ) → k < length os
    → slice_index_or os k o ≡ o → Contains (targets e o following inst) pc
    → Contains (exits_of e clocks following inst os) (record { pc = pc; clocks = clocks o })
exit_of e clocks following inst [] o pc k h i c = absurd (omega arith)
exit_of e clocks following inst (x ∷ os) o pc zero h i c =
    subst (λ y. Contains (map (λ pc. record { pc = pc; clocks = clocks y }) (targets e y following inst) ++ exits_of e clocks following inst
    os) (record { pc = pc; clocks = clocks o })) (sym i)
    (Contains-append_left (map (λ pc. record { pc = pc; clocks = clocks o }) (targets e o following inst))
    (exits_of e clocks following inst os) (record { pc = pc; clocks = clocks o }) (mapped (λ pc. record { pc = pc; clocks = clocks o })
    (targets e o following inst) pc c.0 c.1 c.2))
exit_of e clocks following inst (x ∷ os) o pc (suc k) h i c =
    Contains-append_right (map (λ pc. record { pc = pc; clocks = clocks x }) (targets e x following inst))
    (exits_of e clocks following inst os) (record { pc = pc; clocks = clocks o })
    (exit_of e clocks following inst os o pc k (omega arith) i c)

-- Choices

abbrev pub equals : Bool → Bool → Bool
equals t true = t
equals t false = not t

pub is_equals : (n k : ℕ) (set : Bool) → bit_equals n k set ≡ equals (bit_is_set n k) set
is_equals n k true = refl
is_equals n k false = refl

decides_tells : (b : Bit) (before t set u : Bool) → FlagHolds b before t → decided b set ≡ Some u → equals t set ≡ u
decides_tells Zero before t true u h e = cc
decides_tells Zero before t false u h e = let q : not t ≡ true = ap not h in let p : true ≡ u = cc in q ∙ p
decides_tells One before t true u h e = cc
decides_tells One before t false u h e = let q : not t ≡ false = ap not h in let p : false ≡ u = cc in q ∙ p
decides_tells Free before t set u h e = absurd cc
decides_tells OldBit before t set u h e = absurd cc

chosen : (decision : Option Bool) (test : Bool) (other : Outcome) → ((u : Bool) → decision ≡ Some u → test ≡ u)
    → Contains (choices decision other) (if test then other else Next)
chosen (Some true) test other h = let e : test ≡ true = h true refl in rw e (here other [])
chosen (Some false) test other h = let e : test ≡ false = h false refl in rw e (here Next [])
chosen None true other h = there other Next (other ∷ []) (here other [])
chosen None false other h = here Next (other ∷ [])

-- a flag that a branch asks, I among them
kind_flag : (inst : Instance) (o core : Core) (flag : ℕ) → flag < 8 → CoreMeets inst o core → bit_is_set core.sreg 7 ≡ is_main inst.kind
    → FlagHolds (flag_of_kind inst flag) (bit_is_set o.sreg flag) (bit_is_set core.sreg flag)
kind_flag inst o core flag h m enabled =
    elim (eqb_tells flag 7) [
      | inl t ↦ rw t.0 (subst (λ k. FlagHolds (bit_of_bool (is_main inst.kind)) (bit_is_set o.sreg k) (bit_is_set core.sreg k)) (sym t.1)
          (rw enabled (bool_holds (is_main inst.kind) _)))
      | inr t ↦ rw t.0 (m.flags flag (omega (arith, t.1)))
    ]

equal_tells : (a b : Ends) (x y : ℕ) (u : Bool) → IsWithin x a → IsWithin y b → are_equal a b ≡ Some u → nat_eq x y ≡ u
equal_tells a b x y u hx hy e = by_case (is_single a && is_single b && nat_eq a.lo b.lo) (nat_lt a.hi b.lo || nat_lt b.hi a.lo) refl refl e
  where
    by_case : (t v : Bool) → (is_single a && is_single b && nat_eq a.lo b.lo) ≡ t → (nat_lt a.hi b.lo || nat_lt b.hi a.lo) ≡ v
        → (if t then Some true else if v then Some false else None) ≡ Some u → nat_eq x y ≡ u
    by_case true v p q e = let z : true ≡ u = cc in let s : x ≡ y = (let i = hx.above in let j = hx.below in let k = hy.above in
        let l = hy.below in grind (arith, nat_tests)) in (let n : nat_eq x y ≡ true = grind (arith, nat_tests) in n) ∙ z
    by_case false true p q e = let z : false ≡ u = cc in let s : x ≢ y = (λ r. let i = hx.above in let j = hx.below in let k = hy.above in
        let l = hy.below in grind (arith, nat_tests)) in (let n : nat_eq x y ≡ false = grind (arith, nat_tests) in n) ∙ z
    by_case false false p q e = absurd cc

test_tells : (test : SkipTest) (inst : Instance) (o core : Core) (loaded : List ℕ) (u : Bool) → SkipTestFits test → IsCore core
    → CoreMeets inst o core → test_decides test inst ≡ Some u → test_holds test loaded core ≡ u
test_tells (Equal d r) inst o core loaded u fits c m e = by_case (nat_eq d r) refl e
  where
    by_case : (t : Bool) → nat_eq d r ≡ t → (if t then Some true else are_equal (span_of (value_at inst.regs d))
        (span_of (value_at inst.regs r))) ≡ Some u → nat_eq (register core d) (register core r) ≡ u
    by_case true p e = let z : true ≡ u = cc in let s : d ≡ r = grind (arith, nat_tests) in let t : register core d ≡ register core r =
        ap (register core) s in (let n : nat_eq (register core d) (register core r) ≡ true = grind (arith, nat_tests) in n) ∙ z
    by_case false p e = equal_tells _ _ _ _ u (within_span inst o core d c fits.0 m) (within_span inst o core r c fits.1 m) e
test_tells (RegisterBit r b set) inst o core loaded u fits c m e =
    is_equals (register core r) b set
    ∙ decides_tells (bst_answer (span_of (value_at inst.regs r)) b) false (bit_is_set (register core r) b) set u
    (told _ false _ (bst_covers (span_of (value_at inst.regs r)) b (register core r) (within_span inst o core r c fits.0 m))) e
test_tells (IoBit at b set) inst o core loaded u fits c m e = absurd cc

pub outcome_holds : (e : Effect) (image : FinMap nat_cmp ℕ) (words following : ℕ) (loaded : List ℕ) (inst : Instance) (o core : Core)
    → EffectFits e → IsCore core → CoreMeets inst o core → bit_is_set core.sreg 7 ≡ is_main inst.kind → following ≡ following_pc words core
    → Contains (outcomes image following e inst) (outcome_of e image words loaded core)
outcome_holds (Branch flag set offset) image words following loaded inst o core fits c m enabled f =
    chosen (decided (flag_of_kind inst flag) set) (bit_equals core.sreg flag set) Taken (λ u e. is_equals core.sreg flag set ∙ decides_tells
    (flag_of_kind inst flag) (bit_is_set o.sreg flag) (bit_is_set core.sreg flag) set u (kind_flag inst o core flag fits.0 m enabled) e)
outcome_holds (SkipIf test) image words following loaded inst o core fits c m enabled f =
    subst (λ n. Contains (choices (test_decides test inst) (skip_outcome image n)) (outcome_of (SkipIf test) image words loaded core))
    (sym f)
    (chosen (test_decides test inst) (test_holds test loaded core) (skip_outcome image (following_pc words core))
    (λ u e. test_tells test inst o core loaded u fits c m e))
outcome_holds e image words following loaded inst o core fits c m enabled f = here Next []

-- Program counters

number_in : (a n x : ℕ) → a ≤ x → x < a + n → Contains (numbers_from a n) x
number_in a zero x h k = absurd (omega arith)
number_in a (suc n) x h k =
    elim (eqb_tells x a) [
      | inl t ↦ subst (λ y. Contains (a ∷ numbers_from (suc a) n) y) (sym t.1) (here a (numbers_from (suc a) n))
      | inr t ↦ there x a (numbers_from (suc a) n) (number_in (suc a) n x (omega (arith, t.1)) (omega arith))
    ]

skipped_same : (o : Outcome) → skipped o ≡ skipped_words o
skipped_same Next = refl
skipped_same o = refl

-- a value that is known
slot_known : (v : Val) (o : Core) (x : ℕ) → is_known_slot v ≡ true → ValueHolds v o x → (span_of v).lo ≡ x
slot_known (Range e) o x k h = only e x k h
slot_known (Old r) o x k h = absurd cc
slot_known OldFlags o x k h = absurd cc

-- where a return goes
return_pc : {P : Type 0} (w : PadWiring P) (head : Head) (late d : ℕ) (inst : Instance) (o core : Core) (s : Space P) → Before head inst o d
    core s → fail_of head (Return false) inst ≡ None
    → ((span_of (slot_value 2 inst)).lo + 256 * (span_of (slot_value 1 inst)).lo) % 32768
    ≡ (slice_index (loaded_bytes (space_loads w) core late s (load_addresses (Return false) core)) 1 + 256 * slice_index
    (loaded_bytes (space_loads w) core late s (load_addresses (Return false) core)) 0) % 32768
return_pc w head late d inst o core s b fail =
    let all = and_parts (nat_le 2 (depth_of inst)) _ (not-false _ (unless_none _ _ _ fail).0) in
    let known = and_parts (is_known_slot (slot_value 1 inst)) (is_known_slot (slot_value 2 inst)) all.1 in
    let deep : 2 ≤ depth_of inst = (let e = all.0 in grind (arith, nat_tests)) in
    let low = low_room head inst o d core s b in
    let one : (core.sp + 1) % 65536 ≡ core.sp + 1 = omega (arith, b.memory.depth, b.fits.high, deep) in
    let two : (core.sp + 2) % 65536 ≡ core.sp + 2 = omega (arith, b.memory.depth, b.fits.high, deep) in
    let first = slot_known (slot_value 1 inst) o (plain_byte s (core.sp + 1)) known.0 (slot_holds inst o core.sp 1 s.bytes b.memory.slots
    (omega arith) (omega (arith, deep))) in
    let second = slot_known (slot_value 2 inst) o (plain_byte s (core.sp + 2)) known.1 (slot_holds inst o core.sp 2 s.bytes b.memory.slots
    (omega arith) deep) in
    let loaded : loaded_bytes (space_loads w) core late s (load_addresses (Return false) core)
    ≡ (plain_byte s (core.sp + 1) ∷ (plain_byte s (core.sp + 2) ∷ [])) =
    ap (λ ats. loaded_bytes (space_loads w) core late s ats)
    (let ats : load_addresses (Return false) core ≡ ((core.sp + 1) ∷ ((core.sp + 2) ∷ [])) = rw (one, two) refl in ats)
    ∙ (ram_loaded w core late s (core.sp + 1) ((core.sp + 2) ∷ []) (omega (arith, b.fits.low, low))
    (omega (arith, b.memory.depth, b.fits.high, deep))
    ∙ ap (λ more. plain_byte s (core.sp + 1) ∷ more) (ram_loaded w core late ((space_loads w).content_after s (core.sp + 1) late)
    (core.sp + 2) [] (omega (arith, b.fits.low, low)) (omega (arith, b.memory.depth, b.fits.high, deep)))) in
    ap (λ n. (n + 256 * (span_of (slot_value 1 inst)).lo) % 32768) second ∙ ap (λ n. (plain_byte s (core.sp + 2) + 256 * n) % 32768) first
    ∙ sym (ap (λ l. (slice_index l 1 + 256 * slice_index l 0) % 32768) loaded)

-- the one pc of a list
one_pc : (a b : ℕ) → a ≡ b → Contains (a ∷ []) b
one_pc a b e = subst (λ n. Contains (a ∷ []) n) e (here a [])

pub pc_holds : {P : Type 0} (w : PadWiring P) (e : Effect) (out : Outcome) (head : Head) (words following late d : ℕ) (inst : Instance)
    (o core : Core) (s : Space P) → EffectFits e → Before head inst o d core s → following ≡ following_pc words core
    → returns_from_interrupt e ≡ false → fail_of head e inst ≡ None
    → Contains (targets e out following inst) (next_pc e out words (loaded_bytes (space_loads w) core late s (load_addresses e core)) core)
pc_holds w (Branch flag set offset) Taken head words following late d inst o core s fits b f back fail =
    one_pc _ _ (ap (λ n. (n + offset) % 32768) f)
pc_holds w (SkipIf test) out head words following late d inst o core s fits b f back fail =
    one_pc _ _ (ap (λ n. (n + skipped out) % 32768) f ∙ ap (λ n. (following_pc words core + n) % 32768) (skipped_same out))
pc_holds w (Jump (Absolute k) call) out head words following late d inst o core s fits b f back fail = here k []
pc_holds w (Jump (Relative k) call) out head words following late d inst o core s fits b f back fail =
    one_pc _ _ (ap (λ n. (n + k) % 32768) f)
pc_holds w (Jump Indirect call) out head words following late d inst o core s fits b f back fail =
    let z : IsWithin (pair core 30) (pair_range inst 30) = pair_holds inst o core 30 b.is_core b.meets (omega arith) in
    let e : target_fails Indirect inst ≡ false = (unless_none _ _ _ (unless_none _ _ _ fail).1).0 in
    let low : (pair_range inst 30).hi ≤ 0x7FFF = indirect_low (pair_range inst 30) e in
    let same : pair core 30 % 32768 ≡ pair core 30 = omega (arith, low, z.below) in
    rw same (number_in (pair_range inst 30).lo (suc (pair_range inst 30).hi - (pair_range inst 30).lo) (pair core 30) z.above
    (omega (arith, z.above, z.below)))
  where
    indirect_low : (p : Ends) → (nat_le (16 + p.lo) p.hi || nat_lt 0x7FFF p.hi) ≡ false → p.hi ≤ 0x7FFF
    indirect_low p e = grind (arith, nat_tests)
pc_holds w (Return true) out head words following late d inst o core s fits b f back fail = absurd cc
pc_holds w (Return false) out head words following late d inst o core s fits b f back fail =
    subst (λ n. Contains (((span_of (slot_value 2 inst)).lo + 256 * (span_of (slot_value 1 inst)).lo) % 32768 ∷ []) n)
    (return_pc w head late d inst o core s b fail) (here _ [])
pc_holds w e out head words following late d inst o core s fits b f back fail = one_pc following (following_pc words core) f

-- an exit of the step
pub exit_holds : {P : Type 0} (w : PadWiring P) (e : Effect) (head : Head) (image : FinMap nat_cmp ℕ) (clocks : Outcome → ℕ)
    (words following late d : ℕ) (inst : Instance) (o core : Core) (s : Space P) → EffectFits e → Before head inst o d core s
    → following ≡ following_pc words core → returns_from_interrupt e ≡ false → fail_of head e inst ≡ None
    → (out : Outcome) → out ≡ outcome_of e image words (loaded_bytes (space_loads w) core late s (load_addresses e core)) core
    → Contains (exits_of e clocks following inst (outcomes image following e inst))
    (record { pc = next_pc e out words (loaded_bytes (space_loads w) core late s (load_addresses e core)) core; clocks = clocks out })
exit_holds w e head image clocks words following late d inst o core s fits b f back fail out is =
    let c : Contains (outcomes image following e inst) out = subst (λ x. Contains (outcomes image following e inst) x) (sym is)
    (outcome_holds e image words following (loaded_bytes (space_loads w) core late s (load_addresses e core)) inst o core fits b.is_core
    b.meets b.enabled f) in
    exit_of e clocks following inst (outcomes image following e inst) out _ c.0 c.1 c.2 (pc_holds w e out head words following late d inst o
    core s fits b f back fail)
