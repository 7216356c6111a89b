-- Facts of one place tell nothing of another one: widening is a fold of its own at each place.
use Rattle.uz_search.proofs.Common.{◌≡◌, ◌≢◌, ℕ, ◌+◌, ◌<◌, ◌≤◌, ◌==◌, List, [], ◌∷◌, ◌++◌, length, Some, None, Option, Bool, true, false}
use Rattle.uz_search.proofs.Common.{not, ◌&&◌, nat_lt, if◌then◌else◌, refl, sym, ap, ◌∙◌, subst, arith, slice_index_or, slice_set, reverse}
use Rattle.uz_search.proofs.Common.{eqb-true, nat_tests, reverse-append, get_or-set_other, Ends, is_within, whole_byte, whole_pair, Val}
use Rattle.uz_search.proofs.Common.{Range, Old, OldFlags, Instance, Widening, Register, Pair, is_whole, widened_all, widened_by}
use Rattle.uz_search.proofs.Common.{widened_pair, widened_value, folded, folded_value}
use Rattle.std.proofs.Common.{length-set}
use Rattle.std.proofs.lemmas.List.{get_or_default, same_lists, set-get_or}
use Rattle.uz_search.specs.Places.{AreBytes, AreChains, IsTold, chains_with, ranges_of, told, with_told}
use Rattle.std.proofs.lemmas.Grind.{get_or-set_at}
use Rattle.uz_search.proofs.Lists.{choose}

-- Registers and pairs apart

abbrev registers_by : Widening → List Val → List Val
registers_by (Register r fact) regs =
    if nat_lt r 32 then slice_set regs r (widened_value fact (slice_index_or regs r (Range whole_byte))) else regs
registers_by (Pair k fact) regs = regs

abbrev pairs_by : Widening → List Ends → List Ends
pairs_by (Register r fact) pairs = pairs
pairs_by (Pair k fact) pairs = if nat_lt k 3 then slice_set pairs k (widened_pair fact (slice_index_or pairs k whole_pair)) else pairs

abbrev registers_all : List Widening → List Val → List Val
registers_all [] regs = regs
registers_all (fact ∷ facts) regs = registers_all facts (registers_by fact regs)

abbrev pairs_all : List Widening → List Ends → List Ends
pairs_all [] pairs = pairs
pairs_all (fact ∷ facts) pairs = pairs_all facts (pairs_by fact pairs)

one_apart : (fact : Widening) (x : Instance)
    → widened_by fact x ≡ record x { regs = registers_by fact x.regs; pairs = pairs_by fact x.pairs }
unfolding widened_by
one_apart (Register r fact) x = by (nat_lt r 32)
  where
    by : (b : Bool)
        → (if b then record x { regs = slice_set x.regs r (widened_value fact (slice_index_or x.regs r (Range whole_byte))) } else x)
        ≡ record x {
          regs = if b then slice_set x.regs r (widened_value fact (slice_index_or x.regs r (Range whole_byte))) else x.regs;
          pairs = x.pairs;
        }
    by true = refl
    by false = refl
one_apart (Pair k fact) x = by (nat_lt k 3)
  where
    by : (b : Bool) → (if b then record x { pairs = slice_set x.pairs k (widened_pair fact (slice_index_or x.pairs k whole_pair)) } else x)
        ≡ record x {
          regs = x.regs;
          pairs = if b then slice_set x.pairs k (widened_pair fact (slice_index_or x.pairs k whole_pair)) else x.pairs;
        }
    by true = refl
    by false = refl

all_apart : (facts : List Widening) (x : Instance)
    → widened_all facts x ≡ record x { regs = registers_all facts x.regs; pairs = pairs_all facts x.pairs }
all_apart [] x = refl
all_apart (fact ∷ facts) x =
    ap (widened_all facts) (one_apart fact x)
    ∙ all_apart facts (record x { regs = registers_by fact x.regs; pairs = pairs_by fact x.pairs })

choice_length : {A : Type 0} (b : Bool) (xs ys : List A) → length xs ≡ length ys → length (if b then xs else ys) ≡ length ys
choice_length true xs ys h = h
choice_length false xs ys h = refl

registers_by_length : (fact : Widening) (regs : List Val) → length (registers_by fact regs) ≡ length regs
registers_by_length (Register r fact) regs =
    choice_length (nat_lt r 32) (slice_set regs r (widened_value fact (slice_index_or regs r (Range whole_byte)))) regs
    (length-set regs r (widened_value fact (slice_index_or regs r (Range whole_byte))))
registers_by_length (Pair k fact) regs = refl

pairs_by_length : (fact : Widening) (pairs : List Ends) → length (pairs_by fact pairs) ≡ length pairs
pairs_by_length (Register r fact) pairs = refl
pairs_by_length (Pair k fact) pairs =
    choice_length (nat_lt k 3) (slice_set pairs k (widened_pair fact (slice_index_or pairs k whole_pair))) pairs
    (length-set pairs k (widened_pair fact (slice_index_or pairs k whole_pair)))

registers_length : (facts : List Widening) (regs : List Val) → length (registers_all facts regs) ≡ length regs
registers_length [] regs = refl
registers_length (fact ∷ facts) regs = registers_length facts (registers_by fact regs) ∙ registers_by_length fact regs

pairs_length : (facts : List Widening) (pairs : List Ends) → length (pairs_all facts pairs) ≡ length pairs
pairs_length [] pairs = refl
pairs_length (fact ∷ facts) pairs = pairs_length facts (pairs_by fact pairs) ∙ pairs_by_length fact pairs

-- One place

value_nil : (v : Val) → v ≡ folded_value [] v
value_nil (Range e) = refl
value_nil (Old r) = refl
value_nil OldFlags = refl

value_step : (ranges : List Ends) (fact : Ends) (v : Val) → folded_value ranges (widened_value fact v) ≡ folded_value (fact ∷ ranges) v
value_step ranges fact (Range e) = by (is_within e fact)
  where
    by : (b : Bool) → folded_value ranges (if b then Range fact else Range e) ≡ Range (folded ranges (if b then fact else e))
    by true = refl
    by false = refl
value_step ranges fact (Old r) = refl
value_step ranges fact OldFlags = refl

differs : (a b : ℕ) → (a == b) ≡ false → b ≢ a
differs a b h e = grind (arith, nat_tests)

apart : (a b : ℕ) → b ≢ a → (a == b) ≡ false
apart a b h = grind (arith, nat_tests)

below_test : (a b : ℕ) → nat_lt a b ≡ true → a < b
below_test a b h = grind (arith, nat_tests)

module _ (q : ℕ) (few : q < 32) (ranges : List Ends) where
  register_step : (fact : Widening) (regs : List Val) → length regs ≡ 32
      → folded_value ranges (slice_index_or (registers_by fact regs) q (Range whole_byte))
      ≡ folded_value (with_told q (told fact) ranges) (slice_index_or regs q (Range whole_byte))
  register_step (Register r fact) regs size = by (nat_lt r 32)
    where
      at : (e : Bool) → (r == q) ≡ e
          → folded_value ranges (slice_index_or (slice_set regs r (widened_value fact (slice_index_or regs r (Range whole_byte)))) q
          (Range whole_byte)) ≡ folded_value (if e then fact ∷ ranges else ranges) (slice_index_or regs q (Range whole_byte))
      at true is =
          let same : r ≡ q = eqb-true r q is in
          ap (folded_value ranges) (get_or-set_at regs r q (widened_value fact (slice_index_or regs r (Range whole_byte)))
          (Range whole_byte) (sym same) (omega (arith, same, few, size)))
          ∙ (value_step ranges fact (slice_index_or regs r (Range whole_byte))
          ∙ ap (λ k. folded_value (fact ∷ ranges) (slice_index_or regs k (Range whole_byte))) same)
      at false is =
          ap (folded_value ranges) (get_or-set_other regs r q (widened_value fact (slice_index_or regs r (Range whole_byte)))
          (Range whole_byte) (differs r q is))

      by : (b : Bool)
          → folded_value ranges (slice_index_or (if b then slice_set regs r (widened_value fact (slice_index_or regs r (Range whole_byte)))
          else regs) q (Range whole_byte))
          ≡ folded_value (with_told q (if b then Some (r, fact) else None) ranges) (slice_index_or regs q (Range whole_byte))
      by true = at (r == q) refl
      by false = refl
  register_step (Pair k fact) regs size = by (nat_lt k 3 && not (is_whole fact))
    where
      by : (b : Bool) → folded_value ranges (slice_index_or regs q (Range whole_byte))
          ≡ folded_value (with_told q (if b then Some (32 + k, fact) else None) ranges) (slice_index_or regs q (Range whole_byte))
      by true =
          ap (λ e. folded_value (if e then fact ∷ ranges else ranges) (slice_index_or regs q (Range whole_byte)))
          (sym (apart (32 + k) q (λ e. omega (arith, e, few))))
      by false = refl

module _ (q : ℕ) (few : q < 3) (ranges : List Ends) where
  pair_step : (fact : Widening) (pairs : List Ends) → length pairs ≡ 3
      → folded ranges (slice_index_or (pairs_by fact pairs) q whole_pair)
      ≡ folded (with_told (32 + q) (told fact) ranges) (slice_index_or pairs q whole_pair)
  pair_step (Register r fact) pairs size = by (nat_lt r 32) refl
    where
      by : (b : Bool) → nat_lt r 32 ≡ b → folded ranges (slice_index_or pairs q whole_pair)
          ≡ folded (with_told (32 + q) (if b then Some (r, fact) else None) ranges) (slice_index_or pairs q whole_pair)
      by true is =
          let less : r < 32 = below_test r 32 is in
          ap (λ e. folded (if e then fact ∷ ranges else ranges) (slice_index_or pairs q whole_pair))
          (sym (apart r (32 + q) (λ e. omega (arith, e, less))))
      by false is = refl
  pair_step (Pair k fact) pairs size = by (nat_lt k 3) (is_whole fact)
    where
      at : (e : Bool) → (32 + k == 32 + q) ≡ e
          → folded ranges (slice_index_or (slice_set pairs k (if is_within (slice_index_or pairs k whole_pair) fact then fact
          else slice_index_or pairs k whole_pair)) q whole_pair)
          ≡ folded (if e then fact ∷ ranges else ranges) (slice_index_or pairs q whole_pair)
      at true is =
          let same : 32 + k ≡ 32 + q = eqb-true (32 + k) (32 + q) is in
          let less : k ≡ q = omega (arith, same) in
          ap (folded ranges) (get_or-set_at pairs k q (if is_within (slice_index_or pairs k whole_pair) fact then fact
          else slice_index_or pairs k whole_pair) whole_pair (sym less) (omega (arith, less, few, size)))
          ∙ ap (λ j. folded (fact ∷ ranges) (slice_index_or pairs j whole_pair)) less
      at false is =
          let other : 32 + q ≢ 32 + k = differs (32 + k) (32 + q) is in
          ap (folded ranges) (get_or-set_other pairs k q (if is_within (slice_index_or pairs k whole_pair) fact then fact
          else slice_index_or pairs k whole_pair) whole_pair (λ e. other (ap (λ n. 32 + n) e)))

      by : (b w : Bool)
          → folded ranges (slice_index_or (if b then slice_set pairs k (if not w && is_within (slice_index_or pairs k whole_pair) fact
          then fact else slice_index_or pairs k whole_pair) else pairs) q whole_pair)
          ≡ folded (with_told (32 + q) (if b && not w then Some (32 + k, fact) else None) ranges) (slice_index_or pairs q whole_pair)
      by true true = ap (λ l. folded ranges (slice_index_or l q whole_pair)) (set-get_or pairs k whole_pair)
      by true false = at (32 + k == 32 + q) refl
      by false w = refl

register_folded : (facts : List Widening) (q : ℕ) (regs : List Val) → q < 32 → length regs ≡ 32
    → slice_index_or (registers_all facts regs) q (Range whole_byte)
    ≡ folded_value (ranges_of q facts) (slice_index_or regs q (Range whole_byte))
register_folded [] q regs few size = value_nil (slice_index_or regs q (Range whole_byte))
register_folded (fact ∷ facts) q regs few size =
    register_folded facts q (registers_by fact regs) few (registers_by_length fact regs ∙ size)
    ∙ register_step q few (ranges_of q facts) fact regs size

pair_folded : (facts : List Widening) (q : ℕ) (pairs : List Ends) → q < 3 → length pairs ≡ 3
    → slice_index_or (pairs_all facts pairs) q whole_pair ≡ folded (ranges_of (32 + q) facts) (slice_index_or pairs q whole_pair)
pair_folded [] q pairs few size = refl
pair_folded (fact ∷ facts) q pairs few size =
    pair_folded facts q (pairs_by fact pairs) few (pairs_by_length fact pairs ∙ size)
    ∙ pair_step q few (ranges_of (32 + q) facts) fact pairs size

-- All places

same_by : {A : Type 0} (n : ℕ) (d : A) (xs ys : List A) → length xs ≡ n → length ys ≡ n
    → ((k : ℕ) → k < n → slice_index_or xs k d ≡ slice_index_or ys k d) → xs ≡ ys
same_by n d xs ys p q each = same_lists xs ys (p ∙ sym q) (λ k e less.
    let first : k < length ys = omega (arith, p, q, less) in
    let here : k < n = omega (arith, p, less) in
    get_or_default xs k e d less ∙ (each k here ∙ get_or_default ys k d e first))

-- each register and pair by the facts of it makes what all facts make in their order
pub by_places : (facts : List Widening) (chains : List (List Ends)) (x : Instance) (regs : List Val) (pairs : List Ends)
    → AreChains facts chains → length x.regs ≡ 32 → length x.pairs ≡ 3 → length regs ≡ 32 → length pairs ≡ 3
    → ((q : ℕ) → q < 32 → slice_index_or regs q (Range whole_byte)
    ≡ folded_value (slice_index_or chains q []) (slice_index_or x.regs q (Range whole_byte)))
    → ((k : ℕ) → k < 3 → slice_index_or pairs k whole_pair
    ≡ folded (slice_index_or chains (32 + k) []) (slice_index_or x.pairs k whole_pair))
    → record x { regs = regs; pairs = pairs } ≡ widened_all facts x
by_places facts chains x regs pairs are x_regs x_pairs l_regs l_pairs each_reg each_pair =
    (λ i. record x {
      regs = same_by 32 (Range whole_byte) regs (registers_all facts x.regs) l_regs (registers_length facts x.regs ∙ x_regs)
          (λ q few. let less : q < 35 = omega (arith, few) in
          each_reg q few ∙ (ap (λ l. folded_value l (slice_index_or x.regs q (Range whole_byte))) (are.each q less)
          ∙ sym (register_folded facts q x.regs few x_regs))) i;
      pairs = same_by 3 whole_pair pairs (pairs_all facts x.pairs) l_pairs (pairs_length facts x.pairs ∙ x_pairs)
          (λ k few. let less : 32 + k < 35 = omega (arith, few) in
          each_pair k few ∙ (ap (λ l. folded l (slice_index_or x.pairs k whole_pair)) (are.each (32 + k) less)
          ∙ sym (pair_folded facts k x.pairs few x_pairs))) i;
    })
    ∙ sym (all_apart facts x)

-- bytes stay bytes
pub byte_still : (ranges : List Ends) (e : Ends) → AreBytes ranges → e.hi ≤ 255 → (folded ranges e).hi ≤ 255
byte_still [] e all low = low
byte_still (fact ∷ ranges) e all low = byte_still ranges (if is_within e fact then fact else e) all.1
    (choose (λ (r : Ends). r.hi ≤ 255) (is_within e fact) fact e all.0 low)

-- The chains of facts

with_told_bytes : (t : Option (ℕ × Ends)) (place : ℕ) (ranges : List Ends) → place < 32 → IsTold t → AreBytes ranges
    → AreBytes (with_told place t ranges)
with_told_bytes None place ranges few is all = all
with_told_bytes (Some t) place ranges few is all = by (t.0 == place) refl
  where
    by : (b : Bool) → (t.0 == place) ≡ b → AreBytes (if b then t.1 ∷ ranges else ranges)
    by true e = let same : t.0 ≡ place = eqb-true t.0 place e in (is.1 (omega (arith, same, few)), all)
    by false e = all

with_told_each : (t : Option (ℕ × Ends)) (facts : List Widening) (chains : List (List Ends)) (place : ℕ) → place < 35
    → length chains ≡ 35 → slice_index_or chains place [] ≡ ranges_of place facts
    → slice_index_or (chains_with t chains) place [] ≡ with_told place t (ranges_of place facts)
with_told_each None facts chains place few size is = is
with_told_each (Some t) facts chains place few size is = by (t.0 == place) refl
  where
    by : (b : Bool) → (t.0 == place) ≡ b → slice_index_or (slice_set chains t.0 (t.1 ∷ slice_index_or chains t.0 [])) place []
        ≡ (if b then t.1 ∷ ranges_of place facts else ranges_of place facts)
    by true e =
        let same : t.0 ≡ place = eqb-true t.0 place e in
        get_or-set_at chains t.0 place (t.1 ∷ slice_index_or chains t.0 []) [] (sym same) (omega (arith, same, few, size))
        ∙ ap (λ l. t.1 ∷ l) (ap (λ k. slice_index_or chains k []) same ∙ is)
    by false e = get_or-set_other chains t.0 place (t.1 ∷ slice_index_or chains t.0 []) [] (differs t.0 place e) ∙ is

chains_with_length : (t : Option (ℕ × Ends)) (chains : List (List Ends)) → length (chains_with t chains) ≡ length chains
chains_with_length None chains = refl
chains_with_length (Some t) chains = length-set chains t.0 (t.1 ∷ slice_index_or chains t.0 [])

pub facts_more : (fact : Widening) (facts : List Widening) (chains : List (List Ends)) (more : List Widening) (after : List (List Ends))
    → AreChains (reverse facts) chains → more ≡ facts ++ fact ∷ [] → after ≡ chains_with (told fact) chains → IsTold (told fact)
    → AreChains (reverse more) after
facts_more fact facts chains more after are e f is =
    subst (λ (l : List Widening). AreChains l after) (sym (ap reverse e ∙ reverse-append facts (fact ∷ [])))
    (subst (λ (l : List (List Ends)). AreChains (fact ∷ reverse facts) l) (sym f) (record {
      count = chains_with_length (told fact) chains ∙ are.count;
      each = λ place few. with_told_each (told fact) (reverse facts) chains place few are.count (are.each place few);
      bytes = λ place few. with_told_bytes (told fact) place (ranges_of place (reverse facts)) few is (are.bytes place few);
    }))
