-- Values of parts, one block of instances later.
use Rattle.std.proofs.Common.{◌≡◌, ◌≤◌, ◌<◌, ◌+◌, ◌∙◌, ◌⊎◌, inl, inr, ℕ, zero, suc, List, [], ◌∷◌, ◌++◌, refl, sym, ap, subst, length, map, min, get_or, Some, None, arith, set, true, false}
use Rattle.std.specs.Prelude.{if◌then◌else◌, option_map, slice_get}
use Rattle.std.proofs.lemmas.Bool.{cases_eq, cases_lt, or_left, or_right}
use Rattle.std.proofs.lemmas.List.{get_or-map, get_or-set_same, get_or-set_other, length-map, map-set}
use Rattle.std.proofs.lemmas.List.Elements.{filter_map-append}
use Rattle.std.proofs.lemmas.Option.{slice_get_past}
use Rattle.uz_schedule.specs.Ends.{Ends}
use Rattle.uz_schedule.specs.declared.kinds.Kind.{Kind}
use Rattle.uz_schedule.specs.declared.states.Instance.{Instance}
use Rattle.uz_explanations.specs.declared.parts.Class.{Class}
use Rattle.uz_explanations.specs.declared.parts.Class.TheVariants.{Cell}
use Rattle.uz_explanations.specs.declared.parts.Value.{Value}
use Rattle.uz_explanations.specs.declared.seen.Seen.{Seen}
use Rattle.uz_explanations.specs.Parts.{said, same, same_kind}
use Rattle.uz_explanations.specs.Differing.{different, parts_text, values}
use Rattle.uz_explanations.specs.Putting.{is_among, keep_all}
use Rattle.uz_explanations.specs.Seen.{AreKept, AreOf, cell_value, seen_at}
use Rattle.uz_explanations.proofs.Keeping.{keep_all_more}
use Rattle.uz_explanations.proofs.Values.{counted}

module _ {X : Type 0} (f : X → Value) where
  -- a part is written
  pub written : (seen : List (Seen X)) (k : ℕ) (s : Seen X) → k < length seen → seen_at f (set seen k s) k ≡ map f s.values.items
  written seen k s below =
      ap (λ l. get_or l k []) (map-set (λ t. map f t.values.items) seen k s)
      ∙ get_or-set_same (map (λ t. map f t.values.items) seen) k (map f s.values.items) []
      (subst (λ n. k < n) (sym (length-map seen (λ t. map f t.values.items))) below)

  pub not_written : (seen : List (Seen X)) (k j : ℕ) (s : Seen X) → (j ≡ k → ⊥) → seen_at f (set seen k s) j ≡ seen_at f seen j
  not_written seen k j s other =
      ap (λ l. get_or l j []) (map-set (λ t. map f t.values.items) seen k s)
      ∙ get_or-set_other (map (λ t. map f t.values.items) seen) k j (map f s.values.items) [] other

  -- a value that stands at a place is there
  pub among_there : (xs : List X) (k : ℕ) (x : X) (v : Value) → k < length xs → x ≡ get_or xs k x → same (f x) v ≡ true
      → is_among (map f xs) v ≡ true
  among_there [] k x v below is alike = absurd (omega (arith, below))
  among_there (y ∷ ys) zero x v below is alike = or_left (same (f y) v) (is_among (map f ys) v) (ap (λ z. same (f z) v) (sym is) ∙ alike)
  among_there (y ∷ ys) (suc k) x v below is alike =
      or_right (same (f y) v) (is_among (map f ys) v) (among_there ys k x v (omega (arith, below)) is alike)

  -- one more part is written, of which so many are

  pub done_next : (step : ℕ → List Value → List Value) (first seen : List (Seen X)) (k : ℕ) (was s : Seen X) → k < length seen
      → was ≡ get_or seen k was → map f s.values.items ≡ step k (map f was.values.items)
      → ((j : ℕ) → j < k → seen_at f seen j ≡ step j (seen_at f first j))
      → ((j : ℕ) → k ≤ j → seen_at f seen j ≡ seen_at f first j)
      → (j : ℕ) → j < k + 1 → seen_at f (set seen k s) j ≡ step j (seen_at f first j)
  done_next step first seen k was s below is put done left j less = by_case (cases_eq j k)
    where
      here : seen_at f (set seen k s) k ≡ step k (seen_at f first k)
      here =
          let old : seen_at f seen k ≡ map f was.values.items =
          get_or-map (λ t. map f t.values.items) seen k was [] below ∙ ap (λ t. map f t.values.items) (sym is) in
          written seen k s below ∙ put ∙ ap (step k) (sym old ∙ left k (omega arith))

      by_case : ((j ≡ k) ⊎ (j ≡ k → ⊥)) → seen_at f (set seen k s) j ≡ step j (seen_at f first j)
      by_case (inl e) = subst (λ n. seen_at f (set seen k s) n ≡ step n (seen_at f first n)) (sym e) here
      by_case (inr other) = not_written seen k j s other ∙ done j (at_other other)
        where
          at_other : (j ≡ k → ⊥) → j < k
          at_other differ = by_order (cases_lt j k)
            where
              by_order : ((j < k) ⊎ (k ≤ j)) → j < k
              by_order (inl lower) = lower
              by_order (inr upper) = absurd (differ (omega (arith, less, upper)))

  pub left_next : (first seen : List (Seen X)) (k : ℕ) (s : Seen X) → ((j : ℕ) → k ≤ j → seen_at f seen j ≡ seen_at f first j)
      → (j : ℕ) → k + 1 ≤ j → seen_at f (set seen k s) j ≡ seen_at f first j
  left_next first seen k s left j more = not_written seen k j s (λ e. absurd (omega (arith, more, e))) ∙ left j (omega (arith, more))

  -- all that is said is kept: nothing is said of parts from `most` on
  pub all_kept : (class : Class) (first seen : List (Seen X)) (here : List Instance) (k end most : ℕ) → length seen ≡ length first
      → end ≡ min (length first) most → end ≤ k → ((j : ℕ) → most ≤ j → values class j here ≡ [])
      → ((j : ℕ) → j < k → seen_at f seen j ≡ keep_all (seen_at f first j) (values class j here))
      → ((j : ℕ) → k ≤ j → seen_at f seen j ≡ seen_at f first j) → AreKept class f first seen here
  all_kept class first seen here k end most size is past none done left = record { size = size; each = λ j below. by_case j below (cases_lt j k) }
    where
      by_case : (j : ℕ) → j < length first → ((j < k) ⊎ (k ≤ j)) → seen_at f seen j ≡ keep_all (seen_at f first j) (values class j here)
      by_case j below (inl lower) = done j lower
      by_case j below (inr upper) =
          left j upper ∙ sym (ap (keep_all (seen_at f first j)) (none j (omega (arith, is, past, upper, below))))

  -- what a block says is kept, and what is left is the rest
  pub of_block : (class : Class) (n : ℕ) (old new : List (Seen X)) (here rest all : List Instance) → AreKept class f old new here
      → AreOf class n f (here ++ rest) all old → AreOf class n f rest all new
  of_block class n old new here rest all are before = record {
    size = are.size ∙ before.size;
    each = λ k below.
        ap (λ s. keep_all s (values class k rest)) (are.each k (subst (λ m. k < m) (sym before.size) below))
        ∙ sym (keep_all_more (seen_at f old k) (values class k here) (values class k rest))
        ∙ ap (keep_all (seen_at f old k)) (sym (filter_map-append (said class k) here rest)) ∙ before.each k below;
  }

  -- the same of a list that is lent
  pub of_lent : (class : Class) (n : ℕ) (seen lent : List (Seen X)) (left all : List Instance) → lent ≡ seen → AreOf class n f left all seen
      → AreOf class n f left all lent
  of_lent class n seen lent left all is are = subst (λ l. AreOf class n f left all l) (sym is) are

  pub of_start : (class : Class) (n : ℕ) (seen : List (Seen X)) (all : List Instance) → length seen ≡ n
      → ((k : ℕ) → seen_at f seen k ≡ []) → AreOf class n f all all seen
  of_start class n seen all size each = record {
    size = size;
    each = λ k below. ap (λ s. keep_all s (values class k all)) (each k);
  }

  pub count_of : (class : Class) (n k : ℕ) (seen : List (Seen X)) (all : List Instance) → AreOf class n f [] all seen → k < n
      → length (seen_at f seen k) ≡ different class k all
  count_of class n k seen all are below = ap length (are.each k below) ∙ counted (values class k all)

  -- the number of values of a part, and the lines of all parts

  pub count_of_part : (class : Class) (n k : ℕ) (seen : List (Seen X)) (all : List Instance) (s : Seen X) (count : ℕ)
      → AreOf class n f [] all seen → k < length seen → s ≡ get_or seen k s → count ≡ length s.values.items → count ≡ different class k all
  count_of_part class n k seen all s count are below is counts =
      let here : seen_at f seen k ≡ map f s.values.items =
      get_or-map (λ t. map f t.values.items) seen k s [] below ∙ ap (λ t. map f t.values.items) (sym is) in
      counts ∙ sym (length-map s.values.items f) ∙ sym (ap length here)
      ∙ count_of class n k seen all are (subst (λ m. k < m) are.size below)

  pub text_of_all : (class : Class) (n k : ℕ) (old new : List ℕ) (all : List Instance) (seen : List (Seen X)) → AreOf class n f [] all seen
      → k ≡ length seen → new ≡ old ++ parts_text class k all → new ≡ old ++ parts_text class n all
  text_of_all class n k old new all seen are is put = put ∙ ap (λ m. old ++ parts_text class m all) (is ∙ are.size)

-- Cells are of one side

pub own_cells : (x : Instance) (side : Kind) (given : List Ends) → same_kind x.kind side ≡ true → given ≡ x.cells.items → (k : ℕ)
    → option_map cell_value (slice_get given k) ≡ said (Cell side) k x
own_cells x side given own is k =
    ap (λ l. option_map cell_value (slice_get l k)) is
    ∙ sym (ap (λ b. if b then option_map cell_value (slice_get x.cells.items k) else None) own)

pub other_cells : (x : Instance) (side : Kind) (given : List Ends) → same_kind x.kind side ≡ false → given ≡ [] → (k : ℕ)
    → option_map cell_value (slice_get given k) ≡ said (Cell side) k x
other_cells x side given other is k =
    ap (λ l. option_map cell_value (slice_get l k)) is ∙ ap (option_map cell_value) (slice_get_past [] k (omega arith))
    ∙ sym (ap (λ b. if b then option_map cell_value (slice_get x.cells.items k) else None) other)

-- a cell past the last one
pub no_cell : (x : Instance) (side : Kind) (given : List Ends) (count : ℕ)
    → ((k : ℕ) → option_map cell_value (slice_get given k) ≡ said (Cell side) k x) → count ≡ length given → (k : ℕ) → count ≤ k
    → said (Cell side) k x ≡ None
no_cell x side given count says counts k past =
    sym (says k) ∙ ap (option_map cell_value) (slice_get_past given k (omega (arith, counts, past)))

-- a part past the last one
pub no_part : {X : Type 0} (f : X → Value) (parts : List X) (count : ℕ) → count ≡ length parts → (k : ℕ) → count ≤ k
    → option_map f (slice_get parts k) ≡ None
no_part f parts count counts k past = ap (option_map f) (slice_get_past parts k (omega (arith, counts, past)))
