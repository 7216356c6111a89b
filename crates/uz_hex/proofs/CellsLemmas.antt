-- What the map of the cells has at an address.
use Rattle.std.proofs.Common.{◌≡◌, ℕ, zero, suc, ◌+◌, ◌<◌, cond, List, [], ◌∷◌, length, get_or, set, get_or-set_same, get_or-set_other, ◌≢◌}
use Rattle.std.proofs.Common.{inl, inr, replicate, refl, sym, ◌∙◌, ap, subst, zero-add, arith}
use Rattle.std.proofs.Math.Nat.{add-suc, suc-add, add_comm}
use Rattle.std.proofs.lemmas.List.Recursion.{is_count_by}
use Rattle.std.proofs.lemmas.Bool.{cases_lt}
use Rattle.std.proofs.lemmas.List.{get_or_past}
use Rattle.std.specs.Prelude.{Option, Some, None, is_some, count_by, All}
use Rattle.std.specs.Ordering.{nat_cmp}
use Rattle.std.specs.Cmp.{nat_cmp_total}
use Rattle.std.specs.FinMap.{FinMap, empty, insert, get, get-empty, gets, same_map, len, len-empty, len-insert, nat_cmp-IsAntisymmetric}
use Rattle.std.proofs.lemmas.Bool.Decides.{nat_tests, eqb_tells}
use Rattle.uz_hex.specs.Cells.{present, HoldsByte, IsFlash}

pub get-insert_same : (m : FinMap nat_cmp ℕ) (k v q : ℕ) → q ≡ k → get (insert m k v) q ≡ Some v
get-insert_same m k v q h = grind (arith, gets, nat_tests)

pub get-insert_other : (m : FinMap nat_cmp ℕ) (k v q : ℕ) → q ≢ k → get (insert m k v) q ≡ get m q
get-insert_other m k v q h = grind (arith, gets, nat_tests)

pub get-present_below : (cells : List (Option ℕ)) (at q : ℕ) → q < at → get (present at cells) q ≡ None
get-present_below [] at q h = get-empty nat_cmp q
get-present_below (None ∷ cells) at q h = get-present_below cells (suc at) q (omega arith)
get-present_below (Some b ∷ cells) at q h = get-insert_other _ at b q (omega arith) ∙ get-present_below cells (suc at) q (omega arith)

pub get-present : (cells : List (Option ℕ)) (at k : ℕ) → get (present at cells) (at + k) ≡ get_or cells k None
get-present [] at k = get-empty nat_cmp (at + k)
get-present (None ∷ cells) at zero = get-present_below cells (suc at) (at + 0) (omega arith)
get-present (None ∷ cells) at (suc k) = rw (add-suc, ← suc-add) (get-present cells (suc at) k)
get-present (Some b ∷ cells) at zero = get-insert_same _ at b (at + 0) (omega arith)
get-present (Some b ∷ cells) at (suc k) = get-insert_other _ at b (at + suc k) (omega arith) ∙ rw (add-suc, ← suc-add)
    (get-present cells (suc at) k)

-- from the first address on
pub get-present_0 : (cells : List (Option ℕ)) (k : ℕ) → get (present 0 cells) k ≡ get_or cells k None
get-present_0 cells k = subst (λ q. get (present 0 cells) q ≡ get_or cells k None) (zero-add k) (get-present cells 0 k)

pub present-replicate : (n at : ℕ) → present at (replicate n None) ≡ empty
present-replicate zero at = refl
present-replicate (suc n) at = present-replicate n (suc at)

pub present-set : (cells : List (Option ℕ)) (k v : ℕ) → k < length cells → present 0 (set cells k (Some v)) ≡ insert (present 0 cells) k v
present-set cells k v h =
    same_map nat_cmp_total nat_cmp-IsAntisymmetric _ _ (λ q. elim (eqb_tells q k) [ inl t ↦ at_it q t.1 | inr t ↦ elsewhere q t.1 ])
  where
    at_it : (q : ℕ) → q ≡ k → get (present 0 (set cells k (Some v))) q ≡ get (insert (present 0 cells) k v) q
    at_it q e = get-present_0 _ q ∙ (ap (λ i. get_or (set cells k (Some v)) i None) e
        ∙ (get_or-set_same cells k (Some v) None h ∙ sym (get-insert_same _ k v q e)))

    elsewhere : (q : ℕ) → q ≢ k → get (present 0 (set cells k (Some v))) q ≡ get (insert (present 0 cells) k v) q
    elsewhere q ne = get-present_0 _ q ∙ (get_or-set_other cells k q (Some v) None ne
        ∙ sym (get-insert_other _ k v q ne ∙ get-present_0 cells q))

-- one more byte at an address that holds none
len-insert_new : (m : FinMap nat_cmp ℕ) (k v : ℕ) → get m k ≡ None → len (insert m k v) ≡ 1 + len m
len-insert_new m k v new =
    len-insert nat_cmp_total m k v ∙ (ap (λ o. cond (is_some o) (len m) (len m + 1)) new ∙ add_comm (len m) 1)

len-present_on : (cells : List (Option ℕ)) (at : ℕ) → len (present at cells) ≡ len (present 0 cells)
len-present_on [] at = refl
len-present_on (None ∷ cells) at = len-present_on cells (suc at) ∙ sym (len-present_on cells (suc 0))
len-present_on (Some b ∷ cells) at =
    let left = len-insert_new (present (suc at) cells) at b (get-present_below cells (suc at) at (omega arith)) in
    let right = len-insert_new (present (suc 0) cells) 0 b (get-present_below cells (suc 0) 0 (omega arith)) in
    left ∙ (ap (λ n. 1 + n) (len-present_on cells (suc at) ∙ sym (len-present_on cells (suc 0))) ∙ sym right)

-- each cell that holds a byte adds one
pub len-present : (cells : List (Option ℕ)) → len (present 0 cells) ≡ count_by is_some cells
len-present cells = is_count_by (λ cs. len (present 0 cs)) is_some (len-empty nat_cmp ℕ) step cells
  where
    step : (cell : Option ℕ) (cs : List (Option ℕ)) → len (present 0 (cell ∷ cs)) ≡ cond (is_some cell) (1 + len (present 0 cs))
        (len (present 0 cs))
    step None cs = len-present_on cs (suc 0)
    step (Some b) cs = len-insert_new (present (suc 0) cs) 0 b (get-present_below cs (suc 0) 0 (omega arith)) ∙ ap (λ n. 1 + n)
        (len-present_on cs (suc 0))

-- where every cell holds a byte or nothing, the map is that of a flash
pub IsFlash-present : (cells : List (Option ℕ)) → length cells ≡ 65536 → All HoldsByte cells → IsFlash (present 0 cells)
IsFlash-present cells len bytes at byte is =
    let here : get_or cells at None ≡ Some byte = sym (get-present_0 cells at) ∙ is in
    elim (cases_lt at 65536) [
      | inl below ↦ (below, subst HoldsByte here (bytes at None (omega arith)))
      | inr past ↦ cc (sym (get_or_past cells at None (omega arith)) ∙ here)
    ]

pub ruleset cells = (get-present_0, present-replicate, present-set, len-present, IsFlash-present)
