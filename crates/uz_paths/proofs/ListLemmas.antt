-- One more list behind others.
use Rattle.std.proofs.Common.{◌≡◌, ℕ, ◌+◌, ◌-◌, ◌≤◌, List, [], ◌∷◌, ◌++◌, Some, length, take, drop, refl, sym, ◌∙◌, ap, subst, arith}
use Rattle.std.proofs.Common.{get_or, length-append, length-drop}
use Rattle.std.specs.Prelude.{slice_get}
use Rattle.std.specs.List.{between}
use Rattle.std.proofs.Math.ListN.{get_or-append}
use Rattle.std.proofs.Math.Seq.{drop-append_seam, get_or-append_seam, take-length}
use Rattle.std.proofs.lemmas.List.{drop-append-le, take-append-le}
use Rattle.std.proofs.lemmas.Option.{get_or_from_slice_get, slice_get_read, slice_get_within}
use Rattle.uz_paths.specs.declared.lists.Lists.{Lists}
use Rattle.uz_paths.specs.Lists.{AreLists, HasListAt, IsListAt}

kept_at : (xs ys : List ℕ) (i x : ℕ) → slice_get xs i ≡ Some x → slice_get (xs ++ ys) i ≡ Some x
kept_at xs ys i x h =
    let within = slice_get_within xs i x h in
    slice_get_read (xs ++ ys) (length (xs ++ ys)) i x refl (omega (arith, length-append xs ys, within))
    (sym (get_or-append xs ys x i within ∙ get_or_from_slice_get xs i x x h))

last_at : (xs : List ℕ) (x : ℕ) → slice_get (xs ++ x ∷ []) (length xs) ≡ Some x
last_at xs x = slice_get_read (xs ++ x ∷ []) (length (xs ++ x ∷ [])) (length xs) x refl (omega (arith, length-append xs (x ∷ [])))
    (sym (get_or-append_seam xs x [] x))

between_kept : (from to : ℕ) (xs ys : List ℕ) → from ≤ to → to ≤ length xs → between from to (xs ++ ys) ≡ between from to xs
between_kept from to xs ys order within =
    ap (take (to - from)) (drop-append-le from xs ys (omega (arith, order, within)))
    ∙ take-append-le (to - from) (drop from xs) ys (omega (arith, length-drop from xs, order, within))

-- of a list that comes behind others, and where it ends
pub record IsPut (old new : Lists) (list : List ℕ) (end : ℕ) : Type 0 where
  pub numbers : new.numbers.items ≡ old.numbers.items ++ list
  pub starts : new.starts.items ≡ old.starts.items ++ end ∷ []
  pub end_is : end ≡ length new.numbers.items

length_after : (old new : Lists) (list : List ℕ) (end : ℕ) → IsPut old new list end → end ≡ length old.numbers.items + length list
length_after old new list end put = put.end_is ∙ ap length put.numbers ∙ length-append old.numbers.items list

ends_at : (old new : Lists) (count : ℕ) (list : List ℕ) (end : ℕ) → AreLists old count → IsPut old new list end →
    slice_get new.starts.items (count + 1) ≡ Some end
ends_at old new count list end are put =
    subst (λ all. slice_get all (count + 1) ≡ Some end) (sym put.starts)
    (subst (λ at. slice_get (old.starts.items ++ end ∷ []) at ≡ Some end) are.starts (last_at old.starts.items end))

pub one_more : (old new : Lists) (count : ℕ) (list : List ℕ) (end : ℕ) → AreLists old count → length list ≤ 16 →
    IsPut old new list end → AreLists new (count + 1)
one_more old new count list end are short put = record {
  starts = ap length put.starts ∙ length-append old.starts.items _ ∙ ap (λ n. n + 1) are.starts;
  last = ends_at old new count list end are put ∙ ap Some put.end_is;
  few = omega (arith, length_after old new list end put, put.end_is, are.few, short);
}

pub stays : (old new : Lists) (list : List ℕ) (end : ℕ) → IsPut old new list end →
    (i : ℕ) (there : List ℕ) → IsListAt old i there → IsListAt new i there
stays old new list end put i there is = record {
  from = is.from;
  to = is.to;
  begins = subst (λ all. slice_get all i ≡ Some is.from) (sym put.starts) (kept_at _ _ i is.from is.begins);
  ends = subst (λ all. slice_get all (i + 1) ≡ Some is.to) (sym put.starts) (kept_at _ _ (i + 1) is.to is.ends);
  order = is.order;
  within = omega (arith, is.within, length_after old new list end put, put.end_is);
  is = is.is ∙ sym (between_kept is.from is.to old.numbers.items list is.order is.within)
      ∙ ap (between is.from is.to) (sym put.numbers);
}

pub stands_last : (old new : Lists) (count : ℕ) (list : List ℕ) (end : ℕ) → AreLists old count → IsPut old new list end →
    IsListAt new count list
stands_last old new count list end are put =
    let as_many : length list ≡ end - length old.numbers.items = omega (arith, length_after old new list end put) in
    record {
      from = length old.numbers.items;
      to = end;
      begins = subst (λ all. slice_get all count ≡ Some (length old.numbers.items)) (sym put.starts) (kept_at _ _ count _ are.last);
      ends = ends_at old new count list end are put;
      order = omega (arith, length_after old new list end put);
      within = omega (arith, put.end_is);
      is = sym (ap (between (length old.numbers.items) end) put.numbers
          ∙ ap (take (end - length old.numbers.items)) (drop-append_seam old.numbers.items list)
          ∙ subst (λ n. take n list ≡ list) as_many (take-length list));
    }

reads_begin : (lists : Lists) (i : ℕ) (list : List ℕ) (from : ℕ) → from ≡ get_or lists.starts.items i from → (is : IsListAt lists i list) →
    from ≡ is.from
reads_begin lists i list from read is = read ∙ get_or_from_slice_get lists.starts.items i is.from from is.begins

reads_end : (lists : Lists) (i : ℕ) (list : List ℕ) (to : ℕ) → to ≡ get_or lists.starts.items (i + 1) to → (is : IsListAt lists i list) →
    to ≡ is.to
reads_end lists i list to read is = read ∙ get_or_from_slice_get lists.starts.items (i + 1) is.to to is.ends

-- numbers that are read where a list begins and ends
pub in_order : (lists : Lists) (i from to : ℕ) → from ≡ get_or lists.starts.items i from →
    to ≡ get_or lists.starts.items (i + 1) to → HasListAt lists i → from ≤ to
in_order lists i from to begins ends has =
    let order = has.there.order in
    omega (arith, reads_begin lists i has.list from begins has.there, reads_end lists i has.list to ends has.there, order)

pub is_read : (lists : Lists) (i from to : ℕ) (list numbers : List ℕ) → numbers ≡ lists.numbers.items →
    from ≡ get_or lists.starts.items i from → to ≡ get_or lists.starts.items (i + 1) to → IsListAt lists i list →
    between from to numbers ≡ list
is_read lists i from to list numbers all begins ends is =
    let first = reads_begin lists i list from begins is in
    let last = reads_end lists i list to ends is in
    (λ j. between (first j) (last j) (all j)) ∙ sym is.is

pub few_read : (lists : Lists) (i from to : ℕ) (numbers : List ℕ) → numbers ≡ lists.numbers.items →
    from ≡ get_or lists.starts.items i from → to ≡ get_or lists.starts.items (i + 1) to → HasListAt lists i →
    length (between from to numbers) ≤ 16
few_read lists i from to numbers all begins ends has =
    subst (λ list. length list ≤ 16) (sym (is_read lists i from to has.list numbers all begins ends has.there)) has.few
