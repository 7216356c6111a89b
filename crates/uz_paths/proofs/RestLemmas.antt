-- The rests of noted returns.
use Rattle.std.proofs.Common.{◌≡◌, ◌∙◌, sym, ap, refl, arith, ℕ, zero, suc, ◌+◌, ◌<◌, ◌≤◌, Bool, true, false, List, [], ◌∷◌, map, length}
use Rattle.std.proofs.Common.{◌^◌, ◌++◌, append-nil, append_assoc, drop, get_or, length-append, subst, if◌then◌else◌}
use Rattle.std.specs.Prelude.{Option, Some, None, ◌&&◌, nat_eq, nat_le, slice_get, Contains}
use Rattle.std.proofs.Math.Seq.{drop-cons}
use Rattle.std.proofs.lemmas.List.{drop_all}
use Rattle.std.proofs.lemmas.Bool.Decides.{nat_tests}
use Rattle.std.specs.Ordering.{nat_cmp}
use Rattle.std.specs.FinMap.{FinMap}
use Rattle.std.proofs.lemmas.Option.{slice_get_within, slice_get-get_or, same_Some}
use Rattle.uz_schedule.specs.Limits.{rises_from}
use Rattle.uz_schedule.specs.declared.states.Instance.{Instance}
use Rattle.uz_schedule.specs.declared.states.Rest.{Rest}
use Rattle.uz_rules.specs.Local.{rest_in}
use Rattle.uz_search.specs.declared.found.Found.{Found}
use Rattle.uz_search.specs.declared.program.Program.{Program}
use Rattle.uz_search.specs.declared.returns.Return.{Return}
use Rattle.uz_search.specs.Following.{Among}
use Rattle.uz_search.specs.Searching.{IsEnded}
use Rattle.uz_search.specs.Trails.{OnTrail}
use Rattle.uz_search.specs.Made.{AreRestsOf}
use Rattle.uz_paths.specs.Finding.{IsReturn}
use Rattle.uz_paths.specs.Rests.{rests_from, rests_of}

-- how many of so many places have a return
pub somes : ℕ → List (Option Return) → ℕ
somes zero returns = 0
somes (suc n) [] = 0
somes (suc n) (None ∷ returns) = somes n returns
somes (suc n) (Some r ∷ returns) = suc (somes n returns)

-- the return that the rest of number i is made of, counted on from a vector
pub record OfReturn (line vector : ℕ) (returns : List (Option Return)) (i : ℕ) (rest : Rest) : Type 0 where
  pub place : ℕ
  pub index : i ≡ somes place returns
  pub is_vector : rest.vector ≡ vector + i
  pub noted : Return
  pub there : slice_get returns place ≡ Some (Some noted)
  pub is_line : rest.line ≡ line + place
  pub is_clock : rest.clock ≡ noted.clock
  pub are_cells : rest.cells ≡ noted.cells

after_none : (line vector : ℕ) (returns : List (Option Return)) (i : ℕ) (rest : Rest) → OfReturn (suc line) vector returns i rest
    → OfReturn line vector (None ∷ returns) i rest
unfolding somes
after_none line vector returns i rest o = record {
  place = suc o.place;
  index = o.index;
  is_vector = o.is_vector;
  noted = o.noted;
  there = o.there;
  is_line = o.is_line ∙ omega arith;
  is_clock = o.is_clock;
  are_cells = o.are_cells;
}

after_some : (line vector : ℕ) (r : Return) (returns : List (Option Return)) (i : ℕ) (rest : Rest) → OfReturn (suc line) (suc vector)
    returns i rest → OfReturn line vector (Some r ∷ returns) (suc i) rest
unfolding somes
after_some line vector r returns i rest o = record {
  place = suc o.place;
  index = ap suc o.index;
  is_vector = o.is_vector ∙ omega arith;
  noted = o.noted;
  there = o.there;
  is_line = o.is_line ∙ omega arith;
  is_clock = o.is_clock;
  are_cells = o.are_cells;
}

pub of_return : (line vector : ℕ) (returns : List (Option Return)) (i : ℕ) (rest : Rest) → slice_get (rests_from line vector returns)
    i ≡ Some rest → OfReturn line vector returns i rest
unfolding somes
of_return line vector [] i rest e = absurd (cc)
of_return line vector (None ∷ returns) i rest e = after_none line vector returns i rest (of_return (suc line) vector returns i rest e)
of_return line vector (Some r ∷ returns) zero rest e =
    let is : record { line = line; clock = r.clock; vector = vector; cells = record { items = r.cells.items } } ≡ rest = same_Some _ rest e in
    record {
      place = 0;
      index = refl;
      is_vector = sym (ap (λ x. x.vector) is) ∙ omega arith;
      noted = r;
      there = refl;
      is_line = sym (ap (λ x. x.line) is) ∙ omega arith;
      is_clock = sym (ap (λ x. x.clock) is);
      are_cells = sym (ap (λ x. x.cells) is);
    }
of_return line vector (Some r ∷ returns) (suc i) rest e = after_some line vector r returns i rest
    (of_return (suc line) (suc vector) returns i rest e)

-- rests of one line are one
pub one_rest : (returns : List (Option Return)) (i j : ℕ) (a b : Rest) → slice_get (rests_of returns) i ≡ Some a
    → slice_get (rests_of returns) j ≡ Some b → a.line ≡ b.line → i ≡ j
one_rest returns i j a b at there same =
    let o = of_return 0 0 returns i a at in
    let q = of_return 0 0 returns j b there in
    let place : o.place ≡ q.place = (let x = o.is_line in let y = q.is_line in omega arith) in
    o.index ∙ (ap (λ n. somes n returns) place ∙ sym q.index)

-- lines rise
le_true : (a b : ℕ) → a ≤ b → nat_le a b ≡ true
le_true a b h = grind (arith, nat_tests)

pub rests_rise : (line vector least : ℕ) (returns : List (Option Return)) → least ≤ line → rises_from least
    (map (λ r. r.line) (rests_from line vector returns)) ≡ true
rests_rise line vector least [] le = refl
rests_rise line vector least (None ∷ returns) le = rests_rise (suc line) vector least returns (omega arith)
rests_rise line vector least (Some r ∷ returns) le = λ i. le_true least line le i && rests_rise (suc line) (suc vector) (line + 1) returns
    (omega arith) i

-- each return is its line's rest
pub record RestIn (rests : List Rest) (l : ℕ) (r : Return) : Type 0 where
  pub rest : Rest
  pub is : rest_in rests l ≡ Some rest
  pub clock : rest.clock ≡ r.clock
  pub cells : rest.cells.items ≡ r.cells.items

not_first : (a b : ℕ) → nat_eq a (a + suc b) ≡ false
not_first a b = grind (arith, nat_tests)

first_self : (a : ℕ) → nat_eq a (a + 0) ≡ true
first_self a = grind (arith, nat_tests)

pub rest_of_line : (line vector : ℕ) (returns : List (Option Return)) (i : ℕ) (r : Return) → slice_get returns i ≡ Some (Some r)
    → RestIn (rests_from line vector returns) (line + i) r
rest_of_line line vector [] i r at = absurd (cc)
rest_of_line line vector (None ∷ returns) zero r at = absurd (cc)
rest_of_line line vector (None ∷ returns) (suc i) r at =
    let next : suc line + i ≡ line + suc i = omega arith in
    subst (λ l. RestIn (rests_from (suc line) vector returns) l r) next (rest_of_line (suc line) vector returns i r at)
rest_of_line line vector (Some q ∷ returns) zero r at =
    let same : Some q ≡ Some r = same_Some (Some q) (Some r) at in
    let one : q ≡ r = same_Some q r same in
    record {
      rest = record { line = line; clock = q.clock; vector = vector; cells = record { items = q.cells.items } };
      is = ap (λ b. if b then Some (record { line = line; clock = q.clock; vector = vector; cells = record { items = q.cells.items } }) else
          rest_in (rests_from (suc line) (suc vector) returns) (line + 0)) (first_self line);
      clock = ap (λ z. z.clock) one;
      cells = ap (λ z. z.cells.items) one;
    }
rest_of_line line vector (Some q ∷ returns) (suc i) r at =
    let next : suc line + i ≡ line + suc i = omega arith in
    let later = subst (λ l. RestIn (rests_from (suc line) (suc vector) returns) l r) next (rest_of_line (suc line) (suc vector) returns i r
    at) in
    record {
      rest = later.rest;
      is = ap (λ b. if b then Some (record { line = line; clock = q.clock; vector = vector; cells = record { items = q.cells.items } }) else
          rest_in (rests_from (suc line) (suc vector) returns) (line + suc i)) (not_first line i) ∙ later.is;
      clock = later.clock;
      cells = later.cells;
    }

pub rest_among : (rests : List Rest) (l : ℕ) (rest : Rest) → rest_in rests l ≡ Some rest → Among rests rest
rest_among [] l rest at = absurd (cc)
rest_among (r ∷ rests) l rest at = by (nat_eq r.line l) at (rest_among rests l rest)
  where
    by : (b : Bool) → (if b then Some r else rest_in rests l) ≡ Some rest → (rest_in rests l ≡ Some rest → Among rests rest)
        → Among (r ∷ rests) rest
    by true is more = (0, is)
    by false is more = let later = more is in (suc later.0, later.1)

pub all_in : (returns : List (Option Return)) (rests : List Rest) → rests ≡ rests_of returns → AreRestsOf returns rests
all_in returns rests e l r at =
    let same : 0 + l ≡ l = omega arith in
    let one : RestIn (rests_of returns) l r = subst (λ k. RestIn (rests_of returns) k r) same (rest_of_line 0 0 returns l r at) in
    (one.rest, ap (λ rs. rest_in rs l) e ∙ one.is, one.clock, one.cells)

-- each rest's line is one of the frame
pub lines_within : (returns : List (Option Return)) (k : ℕ) (rest : Rest) → slice_get (rests_of returns) k ≡ Some rest → rest.line < length
    returns
lines_within returns k rest e =
    let o = of_return 0 0 returns k rest e in
    let within = slice_get_within returns o.place (Some o.noted) o.there in
    let is = o.is_line in
    omega arith

pub few_rests : (line vector : ℕ) (returns : List (Option Return)) → length (rests_from line vector returns) ≤ length returns
few_rests line vector [] = omega arith
few_rests line vector (None ∷ returns) = let h = few_rests (suc line) vector returns in omega arith
few_rests line vector (Some r ∷ returns) = let h = few_rests (suc line) (suc vector) returns in omega arith

-- each rest is a return of a trail
return_of : (image : FinMap nat_cmp ℕ) (p : Program) (found : Found) (i : ℕ) (rest : Rest) → IsEnded image p found
    → ((x : Instance) → Among found.nodes.keys x → OnTrail image p x) → OfReturn 0 0 found.returns.items i rest → IsReturn image p rest
return_of image p found i rest ended trails o =
    let n = ended.ended o.place o.noted o.there in
    let line : rest.line ≡ o.place = o.is_line ∙ omega arith in
    record {
      at = n.0;
      on_trail = trails n.0 (o.noted.by, n.2);
      end = n.1;
      returns = n.3;
      line = line ∙ n.4;
      clock = o.is_clock ∙ n.5.0;
      cells = o.are_cells ∙ n.5.1;
    }

pub is_return : (image : FinMap nat_cmp ℕ) (p : Program) (found : Found) (rests : List Rest) → rests ≡ rests_of found.returns.items
    → IsEnded image p found
    → ((x : Instance) → Among found.nodes.keys x → OnTrail image p x) → (rest : Rest) → Contains rests rest → IsReturn image p rest
is_return image p found rests e ended trails rest has =
    let at : slice_get rests has.0 ≡ Some rest = slice_get-get_or rests has.0 rest has.1 ∙ ap Some has.2 in
    return_of image p found has.0 rest ended trails (of_return 0 0 found.returns.items has.0 rest (ap (λ rs. slice_get rs has.0) (sym e)
    ∙ at))

pub few_of : (returns : List (Option Return)) (rests : List Rest) (n : ℕ) → rests ≡ rests_of returns → length returns ≡ n → length rests ≤ n
few_of returns rests n e f = let h = few_rests 0 0 returns in let g = ap length e in omega arith

pub lines_of_rests : (returns : List (Option Return)) (rests : List Rest) (n : ℕ) → rests ≡ rests_of returns → length returns ≡ n
    → (k : ℕ) (rest : Rest) → slice_get rests k ≡ Some rest → rest.line < n
lines_of_rests returns rests n e f k rest at = let h = lines_within returns k rest (ap (λ rs. slice_get rs k) (sym e) ∙ at) in omega arith

-- lines of a frame that has at most so many
pub few_in_frame : (returns : List (Option Return)) (rests : List Rest) (n : ℕ) → rests ≡ rests_of returns → length returns ≡ n → n ≤ 525
    → length rests ≤ 525
few_in_frame returns rests n e f few = let least = few_of returns rests n e f in omega (arith, least, few)

pub few_by_number : (returns : List (Option Return)) (rests : List Rest) (n : ℕ) → rests ≡ rests_of returns → length returns ≡ n → n ≤ 525
    → length rests < 2 ^ 32
few_by_number returns rests n e f few = let least = few_in_frame returns rests n e f few in omega (arith, least)

pub few_returns : (returns slice : List (Option Return)) (n : ℕ) → slice ≡ returns → length returns ≡ n → n ≤ 525 → length slice < 2 ^ 16
few_returns returns slice n e f few = let same = ap length e in omega (arith, same, f, few)

-- One more line

next_from : (returns : List (Option Return)) (line : ℕ) (noted d : Option Return) → line < length returns → noted ≡ get_or returns line noted
    → noted ≡ d → drop line returns ≡ d ∷ drop (suc line) returns
next_from returns line noted d within at is =
    drop-cons returns line noted within ∙ ap (λ r. r ∷ drop (suc line) returns) (sym at ∙ is)

pub rest_put : (returns : List (Option Return)) (line vector : ℕ) (rests new all : List Rest) (noted : Option Return) (r : Return) (rest : Rest)
    → line < length returns → noted ≡ get_or returns line noted → noted ≡ Some r → new ≡ rests ++ rest ∷ [] → vector ≡ length rests
    → rest ≡ record { line = line; clock = r.clock; vector = vector; cells = record { items = r.cells.items } }
    → rests ++ rests_from line (length rests) (drop line returns) ≡ all
    → new ++ rests_from (line + 1) (length new) (drop (line + 1) returns) ≡ all
rest_put returns line vector rests new all noted r rest within at some put counts is left =
    let next : line + 1 ≡ suc line = omega arith in
    let one : length rests + 1 ≡ suc (length rests) = omega arith in
    let more : length new ≡ suc (length rests) = ap length put ∙ (length-append rests (rest ∷ []) ∙ one) in
    let tail = rests_from (suc line) (suc (length rests)) (drop (suc line) returns) in
    (λ i. put i ++ rests_from (next i) (more i) (drop (next i) returns))
    ∙ (append_assoc rests (rest ∷ []) tail
    ∙ (ap (λ x. rests ++ x ∷ tail) (is ∙ (λ i. record { line = line; clock = r.clock; vector = counts i; cells = record { items = r.cells.items } }))
    ∙ (ap (λ rs. rests ++ rests_from line (length rests) rs) (sym (next_from returns line noted (Some r) within at some)) ∙ left)))

pub none_put : (returns : List (Option Return)) (line : ℕ) (rests all : List Rest) (noted : Option Return)
    → line < length returns → noted ≡ get_or returns line noted → noted ≡ None
    → rests ++ rests_from line (length rests) (drop line returns) ≡ all
    → rests ++ rests_from (line + 1) (length rests) (drop (line + 1) returns) ≡ all
none_put returns line rests all noted within at none left =
    let next : line + 1 ≡ suc line = omega arith in
    (λ i. rests ++ rests_from (next i) (length rests) (drop (next i) returns))
    ∙ (ap (λ rs. rests ++ rests_from line (length rests) rs) (sym (next_from returns line noted None within at none)) ∙ left)

pub few_more : (rests new : List Rest) (line : ℕ) (rest : Rest) → new ≡ rests ++ rest ∷ [] → length rests ≤ line → length new ≤ line + 1
few_more rests new line rest put few =
    let more : length new ≡ length rests + 1 = ap length put ∙ length-append rests (rest ∷ []) in omega (arith, more, few)

pub few_kept : (rests new : List Rest) (line : ℕ) → new ≡ rests → length rests ≤ line → length new ≤ line + 1
few_kept rests new line same few = let long = ap length same in omega (arith, long, few)

-- no return is left
pub rests_end : (returns : List (Option Return)) (rests : List Rest) (line : ℕ) → length returns ≤ line
    → rests ++ rests_from line (length rests) (drop line returns) ≡ rests_of returns → rests ≡ rests_of returns
rests_end returns rests line past left =
    let none : drop line returns ≡ [] = drop_all line returns past in
    sym (append-nil rests) ∙ (sym (ap (λ rs. rests ++ rests_from line (length rests) rs) none) ∙ left)
