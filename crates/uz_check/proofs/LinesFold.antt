-- The local rule answers alike at two lines of one kind.
use Rattle.uz_check.proofs.Common.{leb-true, and_parts, result_fail, Lines, same_Some, eqb-true, ◌≡◌, ℕ, zero, suc, ◌+◌, ◌-◌, ◌<◌, ◌≤◌}
use Rattle.uz_check.proofs.Common.{Bool, true, false, not, if◌then◌else◌, nat_eq, nat_le, nat_lt, Option, Some, None, List, [], ◌∷◌, length}
use Rattle.uz_check.proofs.Common.{refl, sym, ◌∙◌, ap, subst, arith, ◌&&◌, ◌||◌, is_none, Result, Ok, Err, slice_get, list_all, nat_cmp}
use Rattle.uz_check.proofs.Common.{FinMap, Instr, effect_of, ScheduleFits, order_of, length_of, start_of, next_line, event_at, level_at}
use Rattle.uz_check.proofs.Common.{instance_in, instance_at, EventKind, Schedule, Point, Instance, Cert, Fail, Exit, Step, is_main}
use Rattle.uz_check.proofs.Common.{refuse_if, is_taken, left_at, left_of, narrowed, with_left, with_some_left, step_of_row, successor}
use Rattle.uz_check.proofs.Common.{span_of, value_at, Left, is_event, is_quiet, edges_fit, same_bool, is_stop, row_emits_in_main, rest_in}
use Rattle.uz_check.proofs.Common.{return_fail, first_exit, end_of, has_successors, compares_edges, passes, step_fail, instance_fail}
use Rattle.uz_check.proofs.Common.{local_fail, lies_in_point, lies_in_any, has_no_line, has_no_line_there, is_plain, kind_of, line_before}
use Rattle.uz_check.proofs.Common.{same_rest, lines_alike, is_on_line, is_even, boxes_even, folds, FoldingLaw}
use Rattle.uz_transfer.specs.declared.fail.Fail.TheVariants.{Opcode, Edge, Successor}
use Rattle.uz_rules.specs.Cover.{most_values, all_from, at_value, covered_by}
use Rattle.uz_check.specs.Folding.{kinds_alike, rests_alike}
use Rattle.uz_check.proofs.LineEvents.{ScheduleLaws, same_length, long_lines, next_inside, next_before, before_inside, same_two, same_level}
use Rattle.uz_check.proofs.StepMoves.{at_line, main_emits_moves, LengthsAlike, each_same, step_at, result_at, row_moves, landed}
use Rattle.uz_check.proofs.StepMoves.{placed_moves, are_few, FewOf, few_row}
use Rattle.uz_check.proofs.InstanceMoves.{same_is, moved, LevelsAlike, instance_moves, IsAt, instance_is_at, by_number, lies_moves}
use Rattle.uz_check.proofs.InstanceMoves.{return_moves}

-- What the conditions give of a line and the two that follow it

pub record Alike (cert : Cert) (l m n : ℕ) : Type 0 where
  pub events : (j : ℕ) → j < length_of cert.schedule l + length_of cert.schedule m → event_at cert.schedule (start_of cert.schedule l + j)
      ≡ event_at cert.schedule (start_of cert.schedule m + j)
  pub first : LevelsAlike cert.schedule l m
  pub second : LevelsAlike cert.schedule m n
  pub long : 4 < length_of cert.schedule m
  pub rest : same_rest (rest_in cert.rests l) (rest_in cert.rests m) ≡ true
  pub rest_next : same_rest (rest_in cert.rests l) (rest_in cert.rests n) ≡ true

alike_of : ScheduleLaws → (cert : Cert) (l : ℕ) → ScheduleFits cert.schedule → l < length cert.schedule.lines → lines_alike cert l ≡ true
    → Alike cert l (next_line cert.schedule l) (next_line cert.schedule (next_line cert.schedule l))
alike_of laws cert l fits h alike =
    let s = cert.schedule in
    let e = line_before s l in
    let m = next_line s l in
    let n = next_line s m in
    let kinds = (and_parts (kinds_alike s l) (rests_alike s cert.rests l) alike).0 in
    let rests = (and_parts (kinds_alike s l) (rests_alike s cert.rests l) alike).1 in
    let a = nat_eq (kind_of s e) (kind_of s l) in
    let b = nat_eq (kind_of s m) (kind_of s l) in
    let d = nat_eq (kind_of s n) (kind_of s l) in
    let on : next_line s e ≡ l = next_before s l h in
    let at_e : kind_of s e ≡ kind_of s l = eqb-true (kind_of s e) (kind_of s l) (and_parts a (b && d) kinds).0 in
    let at_m : kind_of s m ≡ kind_of s l = eqb-true (kind_of s m) (kind_of s l) (and_parts b d (and_parts a (b && d) kinds).1).0 in
    let at_n : kind_of s n ≡ kind_of s l = eqb-true (kind_of s n) (kind_of s l) (and_parts b d (and_parts a (b && d) kinds).1).1 in
    let e_l : kind_of s e ≡ kind_of s (next_line s e) = at_e ∙ sym (ap (kind_of s) on) in
    let l_m : kind_of s (next_line s e) ≡ kind_of s (next_line s (next_line s e)) = ap (kind_of s) on
    ∙ (sym at_m ∙ sym (ap (λ q. kind_of s (next_line s q)) on)) in
    record {
      events = λ j g. same_two laws s l j h (sym at_m) (at_m ∙ sym at_n) g;
      first = record {
        lengths = same_length s m l (next_inside s l h) h at_m;
        levels = λ k g. subst (λ q. level_at s (start_of s q + k) ≡ level_at s (start_of s (next_line s q) + k)) on
            (same_level laws s fits e k (before_inside s l h) e_l l_m (subst (λ q. k < length_of s q) (sym on) g));
      };
      second = record {
        lengths = same_length s n m (next_inside s m (next_inside s l h)) (next_inside s l h) (at_n ∙ sym at_m);
        levels = λ k g. same_level laws s fits l k h (sym at_m) (at_m ∙ sym at_n) g;
      };
      long = long_lines s fits m;
      rest = (and_parts (same_rest (rest_in cert.rests l) (rest_in cert.rests m)) (same_rest (rest_in cert.rests l) (rest_in cert.rests n))
          rests).0;
      rest_next = (and_parts (same_rest (rest_in cert.rests l) (rest_in cert.rests m))
          (same_rest (rest_in cert.rests l) (rest_in cert.rests n)) rests).1;
    }

-- Edge

quiet_same : (at bt : ℕ → Option EventKind) (p q n : ℕ) → ((k : ℕ) → k ≤ n → at (p + k) ≡ bt (q + k)) → is_quiet at p n ≡ is_quiet bt q n
unfolding is_quiet
quiet_same at bt p q zero h = refl
quiet_same at bt p q (suc n) h = λ i. quiet_same at bt p q n (λ k g. h k (omega (arith, g))) i && is_none (h (suc n) (omega arith) i)

edges_same : (s : Schedule) (p q : ℕ) (emitted : Option EventKind) (xs : List Exit)
    → ((k : ℕ) → k ≤ 4 → event_at s (p + k) ≡ event_at s (q + k)) → are_few xs ≡ true
    → edges_fit s p emitted xs ≡ edges_fit s q emitted xs
edges_same s p q emitted [] h few = refl
edges_same s p q emitted (x ∷ xs) h few =
    let both = and_parts (nat_le x.clocks 4) (are_few xs) few in
    let bound : x.clocks ≤ 4 = leb-true x.clocks 4 both.0 in
    let quiet = quiet_same (event_at s) (event_at s) p q (x.clocks - 1) (λ k g. h k (omega (arith, g, bound))) in
    λ i. (quiet i && is_event (h x.clocks bound i) emitted) && edges_same s p q emitted xs h both.1 i

-- Results: those on line l go to line m, and those on line m to line n

by_way : (Same : ℕ → ℕ → Type 0) (l m n : ℕ) (t u : Bool) → Same l m → Same m n → Same (if t then l else (if u then l else m))
    (if t then m else (if u then m else n))
by_way Same l m n true u first second = first
by_way Same l m n false true first second = first
by_way Same l m n false false first second = second

-- Successors

abbrev successor_alike : Schedule → ℕ → Option Point → Bool
successor_alike s l q = has_no_line_there q && is_even s l q

both_of_all : {A : Type 0} (f g : A → Bool) (xs : List A) → list_all f xs ≡ true → list_all g xs ≡ true → list_all (λ x. f x && g x)
    xs ≡ true
both_of_all f g [] h k = refl
both_of_all f g (x ∷ xs) h k =
    let first = (and_parts (f x) (list_all f xs) h).0 in
    let second = (and_parts (g x) (list_all g xs) k).0 in
    rw (first, second) (both_of_all f g xs (and_parts (f x) (list_all f xs) h).1 (and_parts (g x) (list_all g xs) k).1)

-- a point that isn't there holds nothing
nowhere : (cert : Cert) (id : ℕ) (r : Instance) → slice_get cert.points id ≡ None → lies_in_point cert id r ≡ false
nowhere cert id r e = rw e refl

-- with each value of the register of a cover
each_value_same : (f g : ℕ → Bool) (k n : ℕ) → ((v : ℕ) → f v ≡ g v) → all_from f k n ≡ all_from g k n
unfolding all_from
each_value_same f g k zero same = refl
each_value_same f g k (suc n) same = λ i. same k i && each_value_same f g (suc k) n same i

-- where a result and one on another line are alike with each value of a register, both are covered by them or none
covered_same : (cert : Cert) (a b : ℕ) (r : Instance) (ids : List ℕ) (split : Option ℕ)
    → ((x : Instance) → lies_in_any cert ids (at_line a x) ≡ lies_in_any cert ids (at_line b x))
    → covered_by cert ids split (at_line a r) ≡ covered_by cert ids split (at_line b r)
covered_same cert a b r ids None same = refl
covered_same cert a b r ids (Some q) same =
    let e = span_of (value_at r.regs q) in
    ap (λ t. nat_lt q 32 && (nat_lt (e.hi - e.lo) most_values && t))
    (each_value_same (λ v. lies_in_any cert ids (at_value q v (at_line a r))) (λ v. lies_in_any cert ids (at_value q v (at_line b r))) e.lo
    (suc e.hi - e.lo) (λ v. same (at_value q v r)))

result_same : (cert : Cert) (a b : ℕ) (r : Instance) (ids : List ℕ) (split : Option ℕ)
    → ((x : Instance) → lies_in_any cert ids (at_line a x) ≡ lies_in_any cert ids (at_line b x))
    → passes cert ids split (Some (at_line a r)) ≡ passes cert ids split (Some (at_line b r))
result_same cert a b r ids split same = λ i. same r i || covered_same cert a b r ids split same i

-- of what is left at an exit
left_same : (cert : Cert) (a b : ℕ) (r : Instance) (ids : List ℕ) (split : Option ℕ) (left : Option Left)
    → ((x : Instance) → lies_in_any cert ids (at_line a x) ≡ lies_in_any cert ids (at_line b x))
    → passes cert ids split (with_some_left left (at_line a r)) ≡ passes cert ids split (with_some_left left (at_line b r))
left_same cert a b r ids split None same = refl
left_same cert a b r ids split (Some left) same = result_same cert a b (with_left left r) ids split same

own_line : (s : Schedule) (l : ℕ) (o : Option Instance) → IsAt s l o → o ≡ moved l o
own_line s l None is = refl
own_line s l (Some i) is = ap (λ n. Some (at_line n i)) is.0

module _ (cert : Cert) (l : ℕ) where
  abbrev m : ℕ
  m = next_line cert.schedule l

  abbrev n : ℕ
  n = next_line cert.schedule m

  abbrev lines : Lines
  lines = order_of cert.schedule

  abbrev AllAlike : List ℕ → Type 0
  AllAlike ids = list_all (λ id. successor_alike cert.schedule l (slice_get cert.points id)) ids ≡ true

  record LiesAlike (id : ℕ) (r : Instance) : Type 0 where
    first : lies_in_point cert id (at_line l r) ≡ lies_in_point cert id (at_line m r)
    second : lies_in_point cert id (at_line m r) ≡ lies_in_point cert id (at_line n r)

  module _ (same : Alike cert l m n) where
    compares_same : (i : Instance) (step : Step) → i.clock < length_of cert.schedule l → are_few step.exits.items ≡ true
        → compares_edges cert (at_line l i) step ≡ compares_edges cert (at_line m i) (step_at m step)
    compares_same i step low few =
        let s = cert.schedule in
        let room = same.long in
        ap (λ b. is_main i.kind || b)
        (edges_same s (start_of s l + i.clock) (start_of s m + i.clock) step.emit step.exits.items
        (λ k g. ap (event_at s) (omega arith) ∙ (same.events (i.clock + k) (omega (arith, low, g, room)) ∙ ap (event_at s) (omega arith)))
        few)

    -- what is asked alike of an instance at line l and at line m, and at m and at n, is asked alike of the results at l and at m
    of_result : {A : Type 0} (i : Instance) (step : Step) (asked : Instance → A)
        → ((r : Instance) → asked (at_line l r) ≡ asked (at_line m r)) → ((r : Instance) → asked (at_line m r) ≡ asked (at_line n r))
        → (x : Exit) → asked (successor lines (at_line l i) step x) ≡ asked (successor lines (at_line m i) (step_at m step) x)
    of_result i step asked first second x =
        let r = successor lines (at_line l i) step x in
        let k = i.clock + x.clocks in
        let to = landed (is_main i.kind) k (length_of cert.schedule l) m n in
        let goes : successor lines (at_line m i) (step_at m step) x ≡ at_line to r = placed_moves lines m (at_line l i) step.draft step.emit
        step.clears x same.first.lengths in
        let alike : asked r ≡ asked (at_line to r) =
        by_way (λ a b. asked (at_line a r) ≡ asked (at_line b r)) l m n (is_main i.kind) (nat_lt k (length_of cert.schedule l)) (first r)
        (second r) in
        alike ∙ sym (ap asked goes)

    lies_alike : (id : ℕ) (r : Instance) (q : Option Point) → slice_get cert.points id ≡ q → successor_alike cert.schedule l q ≡ true
        → LiesAlike id r
    lies_alike id r None e h = record {
      first = nowhere cert id (at_line l r) e ∙ sym (nowhere cert id (at_line m r) e);
      second = nowhere cert id (at_line m r) e ∙ sym (nowhere cert id (at_line n r) e);
    }
    lies_alike id r (Some q) e h =
        let a = same_bool (is_on_line q l) (is_on_line q m) in
        let b = same_bool (is_on_line q l) (is_on_line q n) in
        let both = and_parts (has_no_line q) (a && b) h in
        let even = and_parts a b both.1 in
        let on_m = same_is (is_on_line q l) (is_on_line q m) even.0 in
        let on_n = same_is (is_on_line q l) (is_on_line q n) even.1 in
        record {
          first = lies_moves cert id q l m r e both.0 on_m same.first;
          second = lies_moves cert id q m n r e both.0 (sym on_m ∙ on_n) same.second;
        }

    any_alike : (a b : ℕ) (r : Instance)
        → ((id : ℕ) → LiesAlike id r → lies_in_point cert id (at_line a r) ≡ lies_in_point cert id (at_line b r))
        → (ids : List ℕ) → AllAlike ids → lies_in_any cert ids (at_line a r) ≡ lies_in_any cert ids (at_line b r)
    any_alike a b r pick [] h = refl
    any_alike a b r pick (id ∷ ids) h =
        let q = slice_get cert.points id in
        let both = and_parts (successor_alike cert.schedule l q) _ h in
        λ i. pick id (lies_alike id r q refl both.0) i || any_alike a b r pick ids both.1 i

    returns_same : (i : Instance) (step : Step) → return_fail (rest_in cert.rests (end_of cert (at_line l i) step).line)
        (end_of cert (at_line l i) step)
        ≡ return_fail (rest_in cert.rests (end_of cert (at_line m i) (step_at m step)).line) (end_of cert (at_line m i) (step_at m step))
    returns_same i step =
        let at = rest_in cert.rests in
        of_result i step (λ r. return_fail (at r.line) r) (λ r. return_moves (at l) (at m) (at_line l r) m same.rest)
        (λ r. sym (return_moves (at l) (at m) r m same.rest) ∙ return_moves (at l) (at n) r n same.rest_next)
        (first_exit step.exits.items)

    -- The rule, at a point's named successors

    module _ (next : List ℕ) (split : Option ℕ) (named : AllAlike next) where
      successors_same : (i : Instance) (step : Step) → has_successors cert next split (at_line l i) step ≡ has_successors cert next split
          (at_line m i) (step_at m step)
      successors_same i step =
          each_same (λ x. passes cert next split (narrowed step.test x (successor lines (at_line l i) step x)))
          (λ x. passes cert next split (narrowed step.test x (successor lines (at_line m i) (step_at m step) x))) step.exits.items
          (λ x. of_result i step (λ r. passes cert next split (narrowed step.test x r))
          (λ r. left_same cert l m r next split (left_at step.test (is_taken x) r.compared (left_of r))
          (λ y. any_alike l m y (λ id alike. alike.first) next named))
          (λ r. left_same cert m n r next split (left_at step.test (is_taken x) r.compared (left_of r))
          (λ y. any_alike m n y (λ id alike. alike.second) next named)) x)

      results_same : (i : Instance) (step : Step) → result_fail cert next split (at_line l i) step
          ≡ result_fail cert next split (at_line m i)
          (step_at m step)
      results_same i step = λ j. if step.back then returns_same i step j else refuse_if (not (successors_same i step j)) Successor None

      steps_same : (i : Instance) (emits : Bool) → i.clock < length_of cert.schedule l → (r : Result Step Fail) → FewOf r
          → step_fail cert next split (at_line l i) emits r ≡ step_fail cert next split (at_line m i) emits (result_at m r)
      steps_same i emits low (Err why) few = refl
      steps_same i emits low (Ok step) few = λ j. refuse_if emits Edge (refuse_if (not (compares_same i step low few j)) Edge
          (results_same i step j))

      module _ (image : FinMap nat_cmp ℕ) where
        instances_same : (row : Instr) → is_stop (effect_of row) ≡ false → (o : Option Instance) → IsAt cert.schedule l o
            → instance_fail image cert next split (Some row) (moved l o) ≡ instance_fail image cert next split (Some row) (moved m o)
        instances_same row runs None is = refl
        instances_same row runs (Some i) is =
            let a = at_line l i in
            let b = at_line m i in
            let step = step_of_row cert.head lines image (Some row) a in
            let lengths : LengthsAlike lines l m = record { own = same.first.lengths; next = same.second.lengths } in
            steps_same i (row_emits_in_main (Some row) a) is.1 step (few_row cert.head lines image row a runs)
            ∙ (ap (λ t. step_fail cert next split b (is_main i.kind && t) (result_at m step)) (main_emits_moves (effect_of row) l i
            ∙ sym (main_emits_moves (effect_of row) m i))
            ∙ ap (step_fail cert next split b (row_emits_in_main (Some row) b))
            (sym (row_moves cert.head lines image (Some row) m a lengths)))

        rows_same : (row : Option Instr) (o : Option Instance) → IsAt cert.schedule l o
            → local_fail image cert next split row o ≡ local_fail image cert next split row (moved m o)
        rows_same None o is = refl
        rows_same (Some row) o is =
            by_case (is_stop (effect_of row)) _ _ (λ runs.
            ap (instance_fail image cert next split (Some row)) (own_line cert.schedule l o is) ∙ instances_same row runs o is)
          where
            by_case : (b : Bool) (x y : Option Fail) → (b ≡ false → x ≡ y) → refuse_if b Opcode x ≡ refuse_if b Opcode y
            by_case true x y h = refl
            by_case false x y h = h refl

-- at the two lines a point's instances have one answer, whatever is read at its pc
pub points_same : ScheduleLaws → (image : FinMap nat_cmp ℕ) (cert : Cert) (id l c : ℕ) (p : Point) (row : Option Instr)
    → slice_get cert.points id ≡ Some p → ScheduleFits cert.schedule → l < length cert.schedule.lines
    → is_on_line p l ≡ true → is_on_line p (next_line cert.schedule l) ≡ true → folds cert p l ≡ true
    → local_fail image cert p.next.items p.split row (instance_at cert id l c) ≡ local_fail image cert p.next.items p.split row
    (instance_at cert id (next_line cert.schedule l) c)
points_same laws image cert id l c p row found fits inside here there h =
    let s = cert.schedule in
    let m = next_line s l in
    let next = p.next.items in
    let plain = is_plain cert p in
    let even = boxes_even cert p l in
    let named = list_all (λ id. has_no_line_there (slice_get cert.points id)) next in
    let about = (and_parts (lines_alike cert l) (plain && even) h).1 in
    let is_plain_p = (and_parts plain even about).0 in
    let own = (and_parts (has_no_line p) named is_plain_p).0 in
    let all : AllAlike cert l next =
    both_of_all (λ id. has_no_line_there (slice_get cert.points id)) (λ id. is_even s l (slice_get cert.points id)) next
    (and_parts (has_no_line p) named is_plain_p).1 (and_parts plain even about).1 in
    let same = alike_of laws cert l fits inside (and_parts (lines_alike cert l) (plain && even) h).0 in
    ap (local_fail image cert next p.split row) (by_number cert id l c p found)
    ∙ (rows_same cert l same next p.split all image row (instance_in s p l c) (instance_is_at s p l c)
    ∙ (ap (local_fail image cert next p.split row) (sym (instance_moves s p l m c own (here ∙ sym there) same.first))
    ∙ ap (local_fail image cert next p.split row) (sym (by_number cert id m c p found))))

pub folding_law : ScheduleLaws → FoldingLaw
folding_law laws image cert id l c p why fits found inside here there h =
    let m = next_line cert.schedule l in
    let same : (q : Point) (row : Option Instr) → slice_get cert.points id ≡ Some q → local_fail image cert q.next.items q.split row
    (instance_at cert id l c) ≡ local_fail image cert q.next.items q.split row (instance_at cert id m c) =
    λ q row e. subst (λ x. local_fail image cert x.next.items x.split row (instance_at cert id l c) ≡ local_fail image cert x.next.items
    x.split row (instance_at cert id m c)) (same_Some p q (sym found ∙ e))
    (points_same laws image cert id l c p row found fits inside here there h) in (
      λ a. record { point = a.point; is_point = a.is_point; row = a.row; reads = a.reads; is = a.is ∙ same a.point a.row a.is_point },
      λ a. record { point = a.point; is_point = a.is_point; row = a.row; reads = a.reads; is = a.is ∙ sym (same a.point a.row a.is_point) },
    )
