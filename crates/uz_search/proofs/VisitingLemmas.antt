-- What is kept where instances are added.
use Rattle.uz_search.proofs.Common.{◌≡◌, ℕ, zero, suc, ◌<◌, ◌+◌, ◌⊎◌, ◌∷◌, [], ◌++◌, List, Option, Some, None, refl, sym, ap, ◌∙◌, subst}
use Rattle.uz_search.proofs.Common.{length, slice_get, Contains, inl, inr, ⊎_elim, length-append, append_assoc, arith, slice_get_within}
use Rattle.uz_search.proofs.Common.{slice_get-get_or, same_Some, Instance, Program, Among, Flash, CameFrom, IsTree, Extends, ComeFrom}
use Rattle.uz_search.proofs.Common.{AddsAll, Adds}
pub use Rattle.std.proofs.lemmas.Option.{same_Some as some_is}

module _ {A : Type 0} where
  pub among_from_Contains : (xs : List A) (x : A) → Contains xs x → Among xs x
  among_from_Contains xs x h = (h.0, slice_get-get_or xs h.0 x h.1 ∙ ap Some h.2)

  pub get_front : (xs ys : List A) (i : ℕ) (x : A) → slice_get xs i ≡ Some x → slice_get (xs ++ ys) i ≡ Some x
  get_front [] ys i x h = cc
  get_front (z ∷ xs) ys zero x h = h
  get_front (z ∷ xs) ys (suc i) x h = get_front xs ys i x h

  pub get_push : (xs : List A) (z : A) → slice_get (xs ++ z ∷ []) (length xs) ≡ Some z
  get_push [] z = refl
  get_push (x ∷ xs) z = get_push xs z

  pub push_cases : (xs : List A) (z : A) (i : ℕ) (x : A) → slice_get (xs ++ z ∷ []) i ≡ Some x
      → (slice_get xs i ≡ Some x) ⊎ ((i ≡ length xs) × (z ≡ x))
  push_cases [] z zero x h = inr (refl, same_Some z x h)
  push_cases [] z (suc i) x h = cc
  push_cases (y ∷ xs) z zero x h = inl h
  push_cases (y ∷ xs) z (suc i) x h =
      ⊎_elim (λ a. inl a) (λ b. inr (ap suc b.0, b.1)) (push_cases xs z i x h)

pub extends_front : (xs ys : List Instance) → Extends xs (xs ++ ys)
extends_front xs ys i x h = get_front xs ys i x h

module _ (image : Flash) (program : Program) where
  pub came_more : (nodes nodes' : List Instance) (p : Option ℕ) (x : Instance) → Extends nodes nodes' → CameFrom image program nodes p x
      → CameFrom image program nodes' p x
  came_more nodes nodes' None x e h = h
  came_more nodes nodes' (Some p) x e h = (h.0, e p h.0 h.1, h.2)

  pub came_within : (nodes : List Instance) (p : Option ℕ) (q : ℕ) (x : Instance) → p ≡ Some q → CameFrom image program nodes p x
      → q < length nodes
  came_within nodes None q x e h = cc
  came_within nodes (Some p) q x e h = subst (λ n. n < length nodes) (same_Some p q e) (slice_get_within nodes p h.0 h.1)

  tree_push : (nodes : List Instance) (parents : List (Option ℕ)) (item : Instance) (parent : Option ℕ)
      → IsTree image program nodes parents → CameFrom image program nodes parent item
      → IsTree image program (nodes ++ item ∷ []) (parents ++ parent ∷ [])
  tree_push nodes parents item parent tree came = record {
    lengths = length-append parents (parent ∷ []) ∙ ap (λ n. n + 1) tree.lengths ∙ sym (length-append nodes (item ∷ []));
    earlier = λ i p h. ⊎_elim (λ old. tree.earlier i p old)
        (λ new. let w : p < length nodes = came_within nodes parent p item new.1 came in
        subst (λ n. p < n) (sym (new.0 ∙ tree.lengths)) w)
        (push_cases parents parent i (Some p) h);
    are = record {
      each = λ i x p hx hp. ⊎_elim
          (λ oldx. ⊎_elim
          (λ oldp. came_more nodes (nodes ++ item ∷ []) p x (extends_front nodes (item ∷ [])) (tree.are.each i x p oldx oldp))
          (λ newp. let w : i < length nodes = slice_get_within nodes i x oldx in let l = tree.lengths in let e = newp.0 in
          absurd (omega (arith, w, l, e)))
          (push_cases parents parent i p hp))
          (λ newx. ⊎_elim
          (λ oldp. let w : i < length parents = slice_get_within parents i p oldp in let l = tree.lengths in let e = newx.0 in
          absurd (omega (arith, w, l, e)))
          (λ newp. came_more nodes (nodes ++ item ∷ []) p x (extends_front nodes (item ∷ []))
          (subst (λ y. CameFrom image program nodes p y) newx.1 (subst (λ q. CameFrom image program nodes q item) newp.1 came)))
          (push_cases parents parent i p hp))
          (push_cases nodes item i x hx);
    };
  }

  pub tree_add : (nodes : List Instance) (parents : List (Option ℕ)) (item : Instance) (parent : Option ℕ) (nodes' : List Instance)
      (parents' : List (Option ℕ))
      → IsTree image program nodes parents → CameFrom image program nodes parent item
      → Adds nodes parents item parent nodes' parents' → IsTree image program nodes' parents'
  tree_add nodes parents item parent nodes' parents' tree came (inl h) =
      subst (λ k. IsTree image program k parents') (sym h.1) (subst (λ q. IsTree image program nodes q) (sym h.2) tree)
  tree_add nodes parents item parent nodes' parents' tree came (inr h) =
      subst (λ k. IsTree image program k parents') (sym h.0)
      (subst (λ q. IsTree image program (nodes ++ item ∷ []) q) (sym h.1) (tree_push nodes parents item parent tree came))

pub extends_add : (nodes : List Instance) (parents : List (Option ℕ)) (item : Instance) (parent : Option ℕ) (nodes' : List Instance)
    (parents' : List (Option ℕ))
    → Adds nodes parents item parent nodes' parents' → Extends nodes nodes'
extends_add nodes parents item parent nodes' parents' (inl h) = λ i x e. ap (λ k. slice_get k i) h.1 ∙ e
extends_add nodes parents item parent nodes' parents' (inr h) = λ i x e. ap (λ k. slice_get k i) h.0 ∙ get_front nodes (item ∷ []) i x e

pub there_add : (nodes : List Instance) (parents : List (Option ℕ)) (item : Instance) (parent : Option ℕ) (nodes' : List Instance)
    (parents' : List (Option ℕ))
    → Adds nodes parents item parent nodes' parents' → Among nodes' item
there_add nodes parents item parent nodes' parents' (inl h) = (h.0.0, ap (λ k. slice_get k h.0.0) h.1 ∙ h.0.1)
there_add nodes parents item parent nodes' parents' (inr h) = (length nodes, ap (λ k. slice_get k (length nodes)) h.0 ∙ get_push nodes item)

pub among_more : (nodes nodes' : List Instance) (x : Instance) → Extends nodes nodes' → Among nodes x → Among nodes' x
among_more nodes nodes' x e h = (h.0, e h.0 x h.1)

pub get_at : {A : Type 0} (xs : List A) (z : A) (ys : List A) → slice_get (xs ++ z ∷ ys) (length xs) ≡ Some z
get_at [] z ys = refl
get_at (x ∷ xs) z ys = get_at xs z ys

-- one more is added
pub adds_more : (image : Flash) (program : Program) (nodes0 : List Instance) (parent : Option ℕ) (items done : List Instance)
    (item : Instance) (nodes : List Instance) (parents : List (Option ℕ)) (nodes' : List Instance) (parents' : List (Option ℕ))
    → slice_get items (length done) ≡ Some item → ComeFrom image program nodes0 parent items → AddsAll image program nodes0 done nodes parents
    → Adds nodes parents item parent nodes' parents' → AddsAll image program nodes0 (done ++ item ∷ []) nodes' parents'
adds_more image program nodes0 parent items done item nodes parents nodes' parents' here come so_far adds =
    let came = came_more image program nodes0 nodes parent item so_far.extends (come (length done) item here) in
    let more = extends_add nodes parents item parent nodes' parents' adds in
    record {
      extends = λ i x h. more i x (so_far.extends i x h);
      tree = tree_add image program nodes parents item parent nodes' parents' so_far.tree came adds;
      there = λ k y h. ⊎_elim (λ old. among_more nodes nodes' y more (so_far.there k y old))
          (λ new. subst (Among nodes') new.1 (there_add nodes parents item parent nodes' parents' adds))
          (push_cases done item k y h);
    }

pub cut_more : {A : Type 0} (all done rest rest' : List A) (item : A) → all ≡ done ++ rest → rest ≡ item ∷ rest' → all ≡ done ++ item ∷ []
    ++ rest'
cut_more all done rest rest' item h e = h ∙ ap (λ r. done ++ r) e ∙ sym (append_assoc done (item ∷ []) rest')
