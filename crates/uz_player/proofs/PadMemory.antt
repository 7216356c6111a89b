-- What pads remember of the past: PORTA's values from the last latch on, and the pair that it loaded.
use Rattle.std.proofs.Common.{◌≡◌, ℕ, zero, suc, ◌+◌, ◌-◌, ◌≤◌, Bool, true, false, if◌then◌else◌, List, [], ◌∷◌, length, min, nat_le, refl, sym, subst}
use Rattle.std.proofs.Common.{◌∙◌, ap, arith}
use Rattle.std.specs.Prelude.{count_by, slice_index_or, Option, Some, None}
use Rattle.std.proofs.lemmas.Bool.Decides.{nat_tests}
use Rattle.std.proofs.lemmas.List.Sums.{sum_by-cons}
use Rattle.uz_core.specs.PadLine.{PadHistory, changes_of, changes_since_latch, is_fall, is_rise, latches, moves}
use Rattle.uz_pads.specs.declared.pads.Pad.{Pad}
use Rattle.uz_pads.specs.declared.pads.PadState.{PadState}
use Rattle.uz_pads.specs.Pads.{IsBegun, StateStandsFor, latest, latched_pad, no_pad}
use Rattle.uz_player.specs.declared.state.PadsState.{PadsState}
use Rattle.uz_player.specs.States.{PadsStandFor, flag, levels_since_latch, older_since_latch, pad_in, pad_state_in, pads_in, remembered}

-- The values since the last latch have the changes since it

by_fall : (b : Bool) (c : ℕ × ℕ) (old : ℕ) (more older : List ℕ)
    → changes_since_latch (changes_of (old ∷ more)) ≡ changes_since_latch (changes_of (old ∷ older)) →
    (if b then c ∷ [] else c ∷ changes_since_latch (changes_of (old ∷ (if b then [] else more)))) ≡
    (if b then c ∷ [] else c ∷ changes_since_latch (changes_of (old ∷ older)))
by_fall true c old more older h = refl
by_fall false c old more older h = ap (λ cs. c ∷ cs) h

same_changes : (new : ℕ) (older : List ℕ) →
    changes_since_latch (changes_of (new ∷ older_since_latch new older)) ≡ changes_since_latch (changes_of (new ∷ older))
same_changes new [] = refl
same_changes new (old ∷ older) =
    by_fall (is_fall 2 (old, new)) (old, new) old (older_since_latch old older) older (same_changes old older)

-- and one latch, where there was any

by_latch : (b : Bool) (old : ℕ) (more older : List ℕ) → latches (old ∷ more) ≡ min 1 (latches (old ∷ older)) →
    (if b then 1 else 0) + latches (old ∷ (if b then [] else more)) ≡ min 1 ((if b then 1 else 0) + latches (old ∷ older))
by_latch true old more older h = first_of (latches (old ∷ older))
  where
    first_of : (n : ℕ) → 1 ≡ min 1 (1 + n)
    first_of n = grind (arith, nat_tests)
by_latch false old more older h = none_of (latches (old ∷ more)) (latches (old ∷ older)) h
  where
    none_of : (x n : ℕ) → x ≡ min 1 n → 0 + x ≡ min 1 (0 + n)
    none_of x n e = grind (arith, nat_tests)

one_latch : (new : ℕ) (older : List ℕ) → latches (new ∷ older_since_latch new older) ≡ min 1 (latches (new ∷ older))
one_latch new [] = refl
one_latch new (old ∷ older) =
    let fall = is_fall 2 (old, new) in
    let more = older_since_latch old older in
    sum_by-cons (λ c. if is_fall 2 c then 1 else 0) (old, new) (changes_of (old ∷ (if fall then [] else more))) ∙
    (by_latch fall old more older (one_latch old older) ∙
    ap (min 1) (sym (sum_by-cons (λ c. if is_fall 2 c then 1 else 0) (old, new) (changes_of (old ∷ older)))))

pub latches_since : (levels : List ℕ) → latches (levels_since_latch levels) ≡ min 1 (latches levels)
latches_since [] = refl
latches_since (new ∷ older) = one_latch new older

moves_since : (levels : List ℕ) → moves (levels_since_latch levels) ≡ moves levels
moves_since [] = refl
moves_since (new ∷ older) = ap (λ cs. count_by (is_rise 3) cs) (same_changes new older)

latest_since : (levels : List ℕ) → latest (levels_since_latch levels) ≡ latest levels
latest_since [] = refl
latest_since (new ∷ older) = refl

pub begun_since : (levels : List ℕ) → IsBegun levels → IsBegun (levels_since_latch levels)
begun_since [] h = h
begun_since (new ∷ older) h = h

-- The pair of the last latch

some_latched : (n : ℕ) (list : List Pad) (pad : Pad) → Some pad ≡ latched_pad n list → 1 ≤ n
some_latched zero list pad e = absurd cc
some_latched (suc n) list pad e = omega arith

first_is : (n m : ℕ) → m ≡ min 1 n → 1 ≤ n → m ≡ 1
first_is n m e h = grind (arith, nat_tests)

no_place : (m : ℕ) → 0 ≡ min m 0
no_place m = grind (arith, nat_tests)

next_by : (b : Bool) (pad : Pad) (n m : ℕ) (list : List Pad) → m ≡ min 1 n → (if b then Some pad else None) ≡ latched_pad n list →
    length (if b then pad ∷ [] else []) ≡ min m (length (if b then pad ∷ [] else []))
next_by false pad n m list e c = no_place m
next_by true pad n m list e c = ap (λ k. min k 1) (sym (first_is n m e (some_latched n list pad c)))

none_by : (a b : Bool) (pad : Pad) → (a ≡ true → b ≡ false) → None ≡ (if a then (if b then Some pad else None) else None)
none_by false b pad h = refl
none_by true false pad h = refl
none_by true true pad h = absurd (cc (h refl))

past_none : (m : ℕ) → nat_le 1 m ≡ true → nat_le m 0 ≡ false
past_none m h = grind (arith, nat_tests)

current_by : (b : Bool) (pad : Pad) (n m : ℕ) (list : List Pad) → m ≡ min 1 n → (if b then Some pad else None) ≡ latched_pad n list →
    (if b then Some pad else None) ≡ latched_pad m (if b then pad ∷ [] else [])
current_by false pad n m list e c = none_by (nat_le 1 m) (nat_le m 0) (slice_index_or [] (m - 1) no_pad) (past_none m)
current_by true pad n m list e c = ap (λ k. latched_pad k (pad ∷ [])) (sym (first_is n m e (some_latched n list pad c)))

pub remembered_stands : (p : PadsState) (history : PadHistory) → PadsStandFor p history →
    StateStandsFor (pads_in p) (pad_state_in (length (pads_in p)) p) (remembered (pads_in p) history)
remembered_stands p history h =
    let pad : Pad = record { one = p.one; two = p.two } in
    let latched = latches_since history.levels in
    record {
      pairs = refl;
      begun = begun_since history.levels (h.stands).begun;
      level = (h.stands).level ∙ sym (latest_since history.levels);
      next = next_by (flag p.latched) pad (latches history.levels) (latches (levels_since_latch history.levels)) h.list latched
          (h.stands).current;
      current = current_by (flag p.latched) pad (latches history.levels) (latches (levels_since_latch history.levels)) h.list latched
          (h.stands).current;
      moves = (h.stands).moves ∙ ap (λ n. min n 12) (sym (moves_since history.levels));
    }

pub pads_stand : (p : PadsState) (list : List Pad) (next : ℕ) (current : Option Pad) (history : PadHistory) → list ≡ pads_in p
    → next ≡ length (pads_in p) → current ≡ pad_in p → PadsStandFor p history →
    StateStandsFor list (record { level = p.level; next = next; current = current; moves = p.moves }) (remembered (pads_in p) history)
pads_stand p list next current history l n c h =
    let state_by : ℕ → Option Pad → PadState = λ next current. record { level = p.level; next = next; current = current; moves = p.moves } in
    let t = remembered (pads_in p) history in
    subst (λ xs. StateStandsFor xs (state_by next current) t) (sym l)
    (subst (λ k. StateStandsFor (pads_in p) (state_by k current) t) (sym n)
    (subst (λ x. StateStandsFor (pads_in p) (state_by (length (pads_in p)) x) t) (sym c) (remembered_stands p history h)))
