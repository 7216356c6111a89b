-- What is known of the facts of one place: how a range goes over them, and one more before them.
use Rattle.uz_search.proofs.Common.{◌≡◌, ℕ, zero, suc, ◌-◌, ◌<◌, ◌≤◌, List, [], ◌∷◌, ◌++◌, length, Some, slice_get, true, false, ◌&&◌, ◌||◌}
use Rattle.uz_search.proofs.Common.{nat_le, nat_lt, if◌then◌else◌, refl, sym, ap, ◌∙◌, subst, arith, ◌⊎◌, inl, inr, ⊎_elim, nat_tests, Ends}
use Rattle.uz_search.proofs.Common.{is_within, Node, folded, IsChain, IsNode, ranges_below}
use Rattle.uz_search.specs.Chains.{is_passed, with_node}

-- Lists

front_there : {A : Type 0} (xs : List A) (z : A) (k : ℕ) → k < length xs → slice_get (xs ++ z ∷ []) k ≡ slice_get xs k
front_there [] z k h = absurd (omega arith)
front_there (x ∷ xs) z zero h = refl
front_there (x ∷ xs) z (suc k) h = front_there xs z k (omega arith)

last_there : {A : Type 0} (xs : List A) (z : A) → slice_get (xs ++ z ∷ []) (length xs) ≡ Some z
last_there [] z = refl
last_there (x ∷ xs) z = last_there xs z

length_more : {A : Type 0} (xs : List A) (z : A) → length (xs ++ z ∷ []) ≡ suc (length xs)
length_more [] z = refl
length_more (x ∷ xs) z = ap suc (length_more xs z)

first_or_last : {A : Type 0} (xs : List A) (z x : A) (k : ℕ) → slice_get (xs ++ z ∷ []) k ≡ Some x
    → ((k < length xs) × (slice_get xs k ≡ Some x)) ⊎ ((k ≡ length xs) × (z ≡ x))
first_or_last [] z x zero h = inr (refl, cc)
first_or_last [] z x (suc k) h = cc
first_or_last (y ∷ xs) z x zero h = inl (omega arith, h)
first_or_last (y ∷ xs) z x (suc k) h = ⊎_elim (λ a. inl (omega (arith, a.0), a.1)) (λ b. inr (ap suc b.0, b.1))
    (first_or_last xs z x k h)

-- Tests of ends

pub not_within : (a b c d : ℕ) → (nat_lt a c || (nat_lt d b || nat_lt (d - c) (b - a))) ≡ true → (nat_le c a && nat_le b d) ≡ false
not_within a b c d h = grind (arith, nat_tests)

-- a wider block is passed over by fewer ranges
wider_passes : (a b w c d l c' d' l' : ℕ) → c' ≤ c → d ≤ d' → l ≤ l' → (nat_lt a c' || (nat_lt d' b || nat_lt l' w)) ≡ true
    → (nat_lt a c || (nat_lt d b || nat_lt l w)) ≡ true
wider_passes a b w c d l c' d' l' x y z h = grind (arith, nat_tests)

-- How a range goes over facts

pub fold_past : (facts : List Ends) (fact e : Ends) → is_within e fact ≡ false → folded (fact ∷ facts) e ≡ folded facts e
fold_past facts fact e h = ap (λ b. folded facts (if b then fact else e)) h

pub fold_within : (facts : List Ends) (fact e : Ends) → is_within e fact ≡ true → folded (fact ∷ facts) e ≡ folded facts fact
fold_within facts fact e h = ap (λ b. folded facts (if b then fact else e)) h

-- the fact at a place, and those after it
pub ranges_at : (nodes : List Node) (n k : ℕ) (node : Node) → n ≡ suc k → slice_get nodes k ≡ Some node
    → ranges_below n nodes ≡ node.range ∷ ranges_below k nodes
ranges_at nodes n k node e is = ap (λ m. ranges_below m nodes) e ∙ ap (λ o. with_node o (ranges_below k nodes)) is

module _ (nodes : List Node) (n k : ℕ) (node : Node) (e : Ends) (next : n ≡ suc k) (is : slice_get nodes k ≡ Some node)
    (chain : IsChain nodes) where
  pub goes_past : is_within e node.range ≡ false → folded (ranges_below n nodes) e ≡ folded (ranges_below k nodes) e
  goes_past h = ap (λ l. folded l e) (ranges_at nodes n k node next is) ∙ fold_past (ranges_below k nodes) node.range e h

  pub goes_over : is_passed node e ≡ true → folded (ranges_below n nodes) e ≡ folded (ranges_below node.rest nodes) e
  goes_over h = ap (λ l. folded l e) (ranges_at nodes n k node next is) ∙ (chain k node is).passed e h

  pub goes_in : is_within e node.range ≡ true → folded (ranges_below n nodes) e ≡ node.end
  goes_in h = ap (λ l. folded l e) (ranges_at nodes n k node next is)
      ∙ (fold_within (ranges_below k nodes) node.range e h ∙ sym (chain k node is).end)

-- Blocks

pub is_alone : (nodes : List Node) (n : ℕ) (node : Node) → node.rest ≡ n → node.end ≡ folded (ranges_below n nodes) node.range
    → node.least ≡ node.range.lo → node.greatest ≡ node.range.hi → node.longest ≡ node.range.hi - node.range.lo → IsNode nodes n node
is_alone nodes n node rest end low high long = record {
  rest = omega (arith, rest);
  end = end;
  passed = λ e p.
      let q : (nat_lt e.lo node.range.lo || (nat_lt node.range.hi e.hi || nat_lt (node.range.hi - node.range.lo) (e.hi - e.lo))) ≡ true =
      ap (λ a. nat_lt e.lo a || (nat_lt node.range.hi e.hi || nat_lt (node.range.hi - node.range.lo) (e.hi - e.lo))) (sym low)
      ∙ (ap (λ b. nat_lt e.lo node.least || (nat_lt b e.hi || nat_lt (node.range.hi - node.range.lo) (e.hi - e.lo))) (sym high)
      ∙ (ap (λ l. nat_lt e.lo node.least || (nat_lt node.greatest e.hi || nat_lt l (e.hi - e.lo))) (sym long) ∙ p)) in
      fold_past (ranges_below n nodes) node.range e (not_within e.lo e.hi node.range.lo node.range.hi q)
      ∙ ap (λ m. folded (ranges_below m nodes) e) (sym rest);
}

pub record IsJoined (node next both : Node) : Type 0 where
  pub range : both.range ≡ node.range
  pub end : both.end ≡ node.end
  pub rest : both.rest ≡ next.rest
  pub least : (both.least ≤ node.least) × (both.least ≤ next.least)
  pub greatest : (node.greatest ≤ both.greatest) × (next.greatest ≤ both.greatest)
  pub longest : (node.longest ≤ both.longest) × (next.longest ≤ both.longest)

pub is_joined : (nodes : List Node) (n k : ℕ) (node next both : Node) → IsChain nodes → IsNode nodes n node → node.rest ≡ suc k
    → slice_get nodes k ≡ Some next → IsJoined node next both → IsNode nodes n both
is_joined nodes n k node next both chain h more is j = record {
  rest = let below = (chain k next is).rest in omega (arith, below, h.rest, more, j.rest);
  end = j.end ∙ (h.end ∙ ap (folded (ranges_below n nodes)) (sym j.range));
  passed = λ e p.
      ap (λ r. folded (r ∷ ranges_below n nodes) e) j.range
      ∙ (h.passed e (wider_passes e.lo e.hi (e.hi - e.lo) node.least node.greatest node.longest both.least both.greatest both.longest
      j.least.0 j.greatest.0 j.longest.0 p)
      ∙ (goes_over nodes node.rest k next e more is chain (wider_passes e.lo e.hi (e.hi - e.lo) next.least next.greatest next.longest
      both.least both.greatest both.longest j.least.1 j.greatest.1 j.longest.1 p)
      ∙ ap (λ m. folded (ranges_below m nodes) e) (sym j.rest)));
}

-- One more

same_below : (n : ℕ) (nodes : List Node) (node : Node) → n ≤ length nodes → ranges_below n (nodes ++ node ∷ []) ≡ ranges_below n nodes
same_below zero nodes node h = refl
same_below (suc n) nodes node h = λ i. with_node (front_there nodes node n (omega arith) i) (same_below n nodes node (omega arith) i)

node_still : (nodes : List Node) (last : Node) (n : ℕ) (node : Node) → n ≤ length nodes → IsNode nodes n node
    → IsNode (nodes ++ last ∷ []) n node
node_still nodes last n node few h = record {
  rest = h.rest;
  end = h.end ∙ ap (λ l. folded l node.range) (sym (same_below n nodes last few));
  passed = λ e p. ap (λ l. folded (node.range ∷ l) e) (same_below n nodes last few)
      ∙ (h.passed e p ∙ ap (λ l. folded l e) (sym (same_below node.rest nodes last (omega (arith, h.rest)))));
}

pub chain_more : (nodes : List Node) (last : Node) → IsChain nodes → IsNode nodes (length nodes) last → IsChain (nodes ++ last ∷ [])
chain_more nodes last chain h = λ n node is. ⊎_elim
    (λ a. node_still nodes last n node (omega (arith, a.0)) (chain n node a.1))
    (λ b. subst (λ m. IsNode (nodes ++ last ∷ []) m node) (sym b.0) (subst (λ v. IsNode (nodes ++ last ∷ []) (length nodes) v) b.1
    (node_still nodes last (length nodes) last (omega arith) h)))
    (first_or_last nodes last node n is)

pub view_more : (nodes : List Node) (last : Node)
    → ranges_below (length (nodes ++ last ∷ [])) (nodes ++ last ∷ []) ≡ last.range ∷ ranges_below (length nodes) nodes
view_more nodes last = ap (λ n. ranges_below n (nodes ++ last ∷ [])) (length_more nodes last)
    ∙ (λ i. with_node (last_there nodes last i) (same_below (length nodes) nodes last (omega arith) i))
