-- What is read from the last line back are the ends of blocks.
use Rattle.std.proofs.Common.{◌≡◌, ℕ, zero, suc, ◌+◌, ◌-◌, ◌<◌, ◌≤◌, Bool, true, false, cond, eqb, ltb, List, [], ◌∷◌, length, get_or, take}
use Rattle.std.proofs.Common.{drop, refl, sym, subst, ◌∙◌, ap, add-one, drop-cons, leb, lit≤, arith}
use Rattle.std.proofs.lemmas.List.{drop_all}
use Rattle.std.specs.Prelude.{◌&&◌, Option, Some, None, IfSome, slice_get, ⊤}
use Rattle.std.specs.List.{AllWithin, slice_range}
use Rattle.std.specs.List.Sorted.{IsNonDecreasingBy}
use Rattle.std.specs.Option.{option_map}
use Rattle.std.proofs.lemmas.Bool.Decides.{nat_tests}
use Rattle.avr_macro.specs.declared.directives.Word.{Word}
use Rattle.avr_macro.specs.declared.directives.Word.TheVariants.{Macro, EndMacro, Repeat, EndRepeat, If, Else, EndIf, Include}
use Rattle.avr_macro.specs.declared.directives.Word.TheVariants.{Constant, Other}
use Rattle.avr_macro.specs.declared.ends.Block.{Block}
use Rattle.avr_macro.specs.declared.ends.Closing.{Closing}
use Rattle.avr_macro.specs.Blocks.{is_zero, line_depth, lines_before, one_more, same_word}
use Rattle.avr_macro.specs.Directives.{directive_of}
use Rattle.avr_macro.specs.Ends.{blocks_before, blocks_from, closing_at, closing_here, closing_within, open_before, open_from, part_within}
use Rattle.avr_macro.specs.Ends.{parted}
use Rattle.avr_macro.proofs.Slices.{after_next, first_part, further}

-- ---- words

-- the words of a kind of block are different ones
pub record AreApart (opens closes : Word) : Type 0 where
  pub opened : (w : Word) → same_word w opens ≡ true → same_word w closes ≡ false
  pub not_part : (w : Word) → same_word w opens ≡ true → same_word w Else ≡ false
  pub closed : (w : Word) → same_word w closes ≡ true → same_word w Else ≡ false

-- words that are the same are one
one_word : (v w : Word) → same_word v w ≡ true → v ≡ w
one_word Macro Macro e = refl
one_word EndMacro EndMacro e = refl
one_word Repeat Repeat e = refl
one_word EndRepeat EndRepeat e = refl
one_word If If e = refl
one_word Else Else e = refl
one_word EndIf EndIf e = refl
one_word Include Include e = refl
one_word Constant Constant e = refl
one_word Other Other e = refl
one_word v w e = absurd cc

told_apart : (opens closes w : Word) → same_word opens closes ≡ false → same_word w opens ≡ true → same_word w closes ≡ false
told_apart opens closes w differ e = cc (one_word w opens e)

apart : (opens closes : Word) → same_word opens closes ≡ false → same_word opens Else ≡ false → same_word closes Else ≡ false
    → AreApart opens closes
apart opens closes a b c = record {
  opened = λ w. told_apart opens closes w a;
  not_part = λ w. told_apart opens Else w b;
  closed = λ w. told_apart closes Else w c;
}

pub macros_apart : AreApart Macro EndMacro
macros_apart = apart Macro EndMacro refl refl refl

pub repeats_apart : AreApart Repeat EndRepeat
repeats_apart = apart Repeat EndRepeat refl refl refl

pub ifs_apart : AreApart If EndIf
ifs_apart = apart If EndIf refl refl refl

-- ---- the ends

abbrev pub end_of : Option Closing → Option ℕ
end_of o = option_map (λ (c : Closing). c.end) o

one_further : (at : ℕ) (o : Option ℕ) → further (at + 1) o ≡ further at (one_more o)
one_further at None = refl
one_further at (Some m) = ap Some (omega arith)

not_zero : (n : ℕ) → is_zero (suc n) ≡ false
not_zero n = grind (arith, nat_tests)

and_false : (a : Bool) → (a && false) ≡ false
and_false true = refl
and_false false = refl

parted_end : (at d : ℕ) (pending : List Closing) → end_of (slice_get (parted at pending) d) ≡ end_of (slice_get pending d)
parted_end at d [] = refl
parted_end at zero (c ∷ pending) = refl
parted_end at (suc d) (c ∷ pending) = refl

dropped : (d : ℕ) (pending : List Closing) → slice_get (drop 1 pending) d ≡ slice_get pending (suc d)
dropped d [] = refl
dropped d (c ∷ pending) = refl

abbrev open_by : Bool → Bool → Bool → ℕ → List Closing → List Closing
open_by o c e at pending = cond o (drop 1 pending) (cond c (record { end = at; part = None } ∷ pending) (cond e
    (parted at pending) pending))

abbrev depth_by : Bool → Bool → ℕ → ℕ
depth_by o c d = cond o (d + 1) (cond c (d - 1) d)

end_step : (o c e : Bool) → (o ≡ true → c ≡ false) → (at d : ℕ) (pending : List Closing) (found : ℕ → Option ℕ)
    → ((k : ℕ) → end_of (slice_get pending k) ≡ further (at + 1) (found k))
    → end_of (slice_get (open_by o c e at pending) d) ≡ further at (cond (is_zero d && c) (Some 0) (one_more (found (depth_by o c d))))
end_step true true e apart at d pending found is = grind (arith, nat_tests)
end_step true false e apart at d pending found is =
    cc (dropped d pending, is (suc d), add-one d, one_further at (found (d + 1)), and_false (is_zero d))
end_step false true e apart at zero pending found is = ap Some (omega arith)
end_step false true e apart at (suc d) pending found is =
    let less : suc d - 1 ≡ d = omega arith in
    cc (is d, one_further at (found d), not_zero d)
end_step false false true apart at d pending found is = cc (parted_end at d pending, is d, one_further at (found d), and_false (is_zero d))
end_step false false false apart at d pending found is = cc (is d, one_further at (found d), and_false (is_zero d))

-- the end of a block that is so many further blocks out
pub ends_found : (opens closes : Word) → AreApart opens closes → (lines : List (List ℕ)) (at d : ℕ)
    → end_of (slice_get (open_from opens closes at lines) d) ≡ further at (lines_before closes opens closes d lines)
unfolding lines_before open_from
ends_found opens closes apart [] at d = refl
ends_found opens closes apart (line ∷ lines) at d =
    end_step _ _ _ (apart.opened (directive_of line)) _ _ _ (λ k. lines_before closes opens closes k lines)
    (λ k. ends_found opens closes apart lines (at + 1) k)

-- ---- the parts

-- the `.else` of a block whose end is found in lines from a place on
abbrev HasPart : ℕ → Option Closing → (ℕ → Option ℕ) → Type 0
HasPart at closing found = IfSome closing (λ (c : Closing). (at ≤ c.end) × (c.part ≡ further at (found (c.end - at))))

abbrev PartsIn : Word → Word → ℕ → ℕ → List (List ℕ) → Option Closing → Type 0
PartsIn opens closes at d lines closing = HasPart at closing (λ n. lines_before Else opens closes d (take n lines))

-- one line more in front
one_in_front : (opens closes : Word) (line : List ℕ) (lines : List (List ℕ)) (at d end : ℕ) → at + 1 ≤ end
    → lines_before Else opens closes d (take (end - at) (line ∷ lines))
    ≡ cond (is_zero d && same_word (directive_of line) Else) (Some 0)
    (one_more (lines_before Else opens closes (line_depth (directive_of line) opens closes d) (take (end - (at + 1)) lines)))
unfolding lines_before
one_in_front opens closes line lines at d end h = let n : end - at ≡ suc (end - (at + 1)) = omega (arith, h) in cc

part_goes_on : (at : ℕ) (closing : Option Closing) (found front : ℕ → Option ℕ)
    → ((end : ℕ) → at + 1 ≤ end → front (end - at) ≡ one_more (found (end - (at + 1))))
    → HasPart (at + 1) closing found → HasPart at closing front
part_goes_on at None found front f h = tt
part_goes_on at (Some c) found front f h =
    let order : at ≤ c.end = omega (arith, h.0) in
    (order, h.1 ∙ one_further at (found (c.end - (at + 1))) ∙ ap (further at) (sym (f c.end h.0)))

part_step : (o c e : Bool) → (o ≡ true → c ≡ false) → (o ≡ true → e ≡ false) → (c ≡ true → e ≡ false) → (at d : ℕ) (pending : List Closing)
    (found : ℕ → ℕ → Option ℕ) (front : ℕ → Option ℕ) → front 0 ≡ None
    → ((end : ℕ) → at + 1 ≤ end → front (end - at) ≡ cond (is_zero d && e) (Some 0) (one_more (found (depth_by o c d) (end - (at + 1)))))
    → ((k : ℕ) → HasPart (at + 1) (slice_get pending k) (found k))
    → HasPart at (slice_get (open_by o c e at pending) d) front
part_step true c e oc oe ce at d pending found front none f is =
    subst (λ x. HasPart at x front) (sym (dropped d pending)) (part_goes_on _ _ (found (suc d)) front
    (λ end h. f end h ∙ ap (λ t. cond (is_zero d && t) (Some 0) (one_more (found (d + 1) (end - (at + 1))))) (oe refl)
    ∙ ap (λ t. cond t (Some 0) (one_more (found (d + 1) (end - (at + 1))))) (and_false _)
    ∙ ap (λ k. one_more (found k (end - (at + 1)))) (add-one d)) (is (suc d)))
part_step false true e oc oe ce at zero pending found front none f is =
    let n : at - at ≡ 0 = omega arith in
    (omega arith, sym (ap (λ k. further at (front k)) n ∙ ap (further at) none))
part_step false true e oc oe ce at (suc d) pending found front none f is =
    let less : suc d - 1 ≡ d = omega arith in
    part_goes_on _ _ (found d) front
    (λ end h. f end h ∙ ap (λ t. cond (t && e) (Some 0) (one_more (found (suc d - 1) (end - (at + 1))))) (not_zero _)
    ∙ ap (λ k. one_more (found k (end - (at + 1)))) less) (is d)
part_step false false true oc oe ce at zero (c ∷ pending) found front none f is =
    let order : at ≤ c.end = omega (arith, (is 0).0) in
    (order, sym (ap (further at) (f c.end (is 0).0) ∙ ap Some (omega arith)))
part_step false false true oc oe ce at (suc d) (c ∷ pending) found front none f is =
    part_goes_on _ _ (found (suc d)) front
    (λ end h. f end h ∙ ap (λ t. cond (t && true) (Some 0) (one_more (found (suc d) (end - (at + 1))))) (not_zero _)) (is (suc d))
part_step false false false oc oe ce at d pending found front none f is =
    part_goes_on _ _ (found d) front (λ end h. f end h ∙ ap (λ t. cond t (Some 0) (one_more (found d (end - (at + 1))))) (and_false _))
    (is d)
part_step false false true oc oe ce at other [] found front none f is = tt

pub parts_found : (opens closes : Word) → AreApart opens closes → (lines : List (List ℕ)) (at d : ℕ)
    → PartsIn opens closes at d lines (slice_get (open_from opens closes at lines) d)
unfolding lines_before open_from
parts_found opens closes apart [] at d = tt
parts_found opens closes apart (line ∷ lines) at d =
    part_step _ _ _ (apart.opened (directive_of line)) (apart.not_part (directive_of line)) (apart.closed (directive_of line)) _ _
    _ (λ k n. lines_before Else opens closes k (take n lines)) (λ n. lines_before Else opens closes d (take n (line ∷ lines))) refl
    (λ end h. one_in_front _ _ _ _ _ _ _ h) (λ k. parts_found opens closes apart lines (at + 1) k)

-- ---- one line after another, from the last one back

pub none_open : (opens closes : Word) (lines : List (List ℕ)) (n : ℕ) → n ≡ length lines → [] ≡ open_from opens closes n (drop n lines)
unfolding open_from
none_open opens closes lines n e = sym (ap (open_from opens closes n) (drop_all n lines (omega (arith, e))))

pub none_closed : (opens closes : Word) (lines : List (List ℕ)) (n : ℕ) → n ≡ length lines → [] ≡ blocks_from opens closes n (drop n lines)
unfolding blocks_from
none_closed opens closes lines n e = sym (ap (blocks_from opens closes n) (drop_all n lines (omega (arith, e))))

pub open_more : (opens closes word : Word) (lines : List (List ℕ)) (n before : ℕ) (line : List ℕ) (old new : List Closing) → 0 < n
    → n ≤ length lines → before ≡ n - 1 → line ≡ get_or lines before [] → word ≡ directive_of line
    → old ≡ open_from opens closes n (drop n lines) → new ≡ open_before word opens closes before old
    → new ≡ open_from opens closes before (drop before lines)
unfolding open_from
open_more opens closes word lines n before line old new some within e l w o is =
    let next : before + 1 ≡ n = omega arith in
    cc (add-one before, drop-cons lines before [] (omega arith))

pub closed_more : (opens closes word : Word) (lines : List (List ℕ)) (n before : ℕ) (line : List ℕ) (outer : List Closing)
    (old new : List Block) → 0 < n → n ≤ length lines → before ≡ n - 1 → line ≡ get_or lines before [] → word ≡ directive_of line
    → outer ≡ open_from opens closes n (drop n lines) → old ≡ blocks_from opens closes n (drop n lines)
    → new ≡ blocks_before word opens before outer old → new ≡ blocks_from opens closes before (drop before lines)
unfolding blocks_from
closed_more opens closes word lines n before line outer old new some within e l w o b is =
    let next : before + 1 ≡ n = omega arith in
    cc (add-one before, drop-cons lines before [] (omega arith))

-- ---- the list of blocks

-- the blocks begin at lines that rise, from a place on
abbrev pub RisesFrom : ℕ → List Block → Type 0
RisesFrom least [] = ⊤
RisesFrom least (b ∷ bs) = (least ≤ b.line) × RisesFrom (b.line + 1) bs

rises_less : (least less : ℕ) (bs : List Block) → less ≤ least → RisesFrom least bs → RisesFrom less bs
rises_less least less [] h r = tt
rises_less least less (b ∷ bs) h r = (omega (arith, h, r.0), r.1)

before_rises : (w : Word) (opens : Word) (at : ℕ) (pending : List Closing) (bs : List Block) → RisesFrom (at + 1) bs
    → RisesFrom at (blocks_before w opens at pending bs)
before_rises w opens at [] bs r = rises_less (at + 1) at bs (omega arith) r
before_rises w opens at (c ∷ pending) bs r = grind (arith, nat_tests, rises_less (at + 1) at bs (omega arith) r)

blocks_rise : (opens closes : Word) (lines : List (List ℕ)) (at : ℕ) → RisesFrom at (blocks_from opens closes at lines)
unfolding blocks_from
blocks_rise opens closes [] at = tt
blocks_rise opens closes (line ∷ lines) at = before_rises _ _ _ _ _ (blocks_rise opens closes lines (at + 1))

least_line : (least : ℕ) (bs : List Block) → RisesFrom least bs → (j : ℕ) (d : Block) → j < length bs → least ≤ (get_or bs j d).line
least_line least [] r j d h = absurd (omega (arith, h))
least_line least (b ∷ bs) r zero d h = r.0
least_line least (b ∷ bs) r (suc j) d h =
    let later = least_line (b.line + 1) bs r.1 j d (omega (arith, h)) in
    omega (arith, r.0, later)

in_order : (least : ℕ) (bs : List Block) → RisesFrom least bs → IsNonDecreasingBy (λ b. b.line) bs
in_order least [] r i j d h k = absurd (omega (arith, k))
in_order least (b ∷ bs) r zero zero d h k = omega arith
in_order least (b ∷ bs) r zero (suc j) d h k =
    let later = least_line (b.line + 1) bs r.1 j d (omega (arith, k)) in
    omega (arith, later)
in_order least (b ∷ bs) r (suc i) zero d h k = absurd (omega (arith, h))
in_order least (b ∷ bs) r (suc i) (suc j) d h k = in_order (b.line + 1) bs r.1 i j d (omega (arith, h)) (omega (arith, k))

pub blocks_in_order : (opens closes : Word) (lines : List (List ℕ)) → IsNonDecreasingBy (λ b. b.line) (blocks_from opens closes 0 lines)
blocks_in_order opens closes lines = in_order 0 (blocks_from opens closes 0 lines) (blocks_rise opens closes lines 0)

other : {A : Type 0} (b : Bool) (x y : A) → b ≡ false → cond b x y ≡ y
other true x y e = absurd cc
other false x y e = refl

the_one : {A : Type 0} (b : Bool) (x y : A) → b ≡ true → cond b x y ≡ x
the_one true x y e = refl
the_one false x y e = absurd cc

above_not : (a n : ℕ) → n < a → eqb a n ≡ false
above_not a n h = grind (arith, nat_tests)

below_not : (a n : ℕ) → a < n → eqb a n ≡ false
below_not a n h = grind (arith, nat_tests)

is_itself : (n : ℕ) → eqb n n ≡ true
is_itself n = grind (arith, nat_tests)

none_later : (least line : ℕ) (bs : List Block) → line < least → RisesFrom least bs → closing_at line bs ≡ None
none_later least line [] h r = refl
none_later least line (b ∷ bs) h r =
    other (eqb b.line line) (Some b.closing) (closing_at line bs) (above_not b.line line (omega (arith, h, r.0)))
    ∙ none_later (b.line + 1) line bs (omega (arith, h, r.0)) r.1

-- the block that begins here
here : (w opens : Word) (at : ℕ) (pending : List Closing) (bs : List Block) → same_word w opens ≡ true → RisesFrom (at + 1) bs
    → closing_at at (blocks_before w opens at pending bs) ≡ slice_get pending 0
here w opens at [] bs is r = none_later (at + 1) at bs (omega arith) r
here w opens at (c ∷ pending) bs is r = ap (closing_at at) (the_one _ _ _ is) ∙ the_one _ _ (closing_at at bs) (is_itself at)

-- one that begins later
further_on : (w opens : Word) (at line : ℕ) (pending : List Closing) (bs : List Block) → at < line
    → closing_at line (blocks_before w opens at pending bs) ≡ closing_at line bs
further_on w opens at line [] bs h = refl
further_on w opens at line (c ∷ pending) bs h =
    grind (arith, nat_tests, other (eqb at line) (Some c) (closing_at line bs) (below_not at line h), below_not at line h)

-- a block that begins so many lines further on is closed where its end is found
block_found : (opens closes : Word) (lines : List (List ℕ)) (at k : ℕ) → k < length lines
    → same_word (directive_of (get_or lines k [])) opens ≡ true
    → closing_at (at + k) (blocks_from opens closes at lines) ≡ slice_get (open_from opens closes (at + k + 1) (drop (k + 1) lines)) 0
unfolding blocks_from
block_found opens closes [] at k h is = absurd (omega (arith, h))
block_found opens closes (line ∷ lines) at zero h is =
    let place : at + 0 ≡ at = omega arith in
    ap (λ n. closing_at n (blocks_from opens closes at (line ∷ lines))) place ∙ here _ _ _ _ _ is (blocks_rise _ _ _ _)
    ∙ ap (λ n. slice_get (open_from opens closes (n + 1) lines) 0) (sym place)
block_found opens closes (line ∷ lines) at (suc k) h is =
    let place : at + suc k ≡ (at + 1) + k = omega arith in
    further_on (directive_of line) opens at (at + suc k) (open_from opens closes (at + 1) lines) (blocks_from opens closes (at + 1) lines)
    (omega arith)
    ∙ ap (λ n. closing_at n (blocks_from opens closes (at + 1) lines)) place
    ∙ block_found opens closes lines (at + 1) k (omega (arith, h)) is
    ∙ ap (λ n. slice_get (open_from opens closes (n + 1) (drop (k + 1) lines)) 0) (sym place)
    ∙ ap (λ n. slice_get (open_from opens closes (at + suc k + 1) n) 0) (ap (λ n. drop n lines) (add-one k)
    ∙ ap (λ n. drop n (line ∷ lines)) (sym (add-one (suc k))))

-- ---- a search by halving

not_equal : (a n : ℕ) → ltb a n ≡ true → eqb a n ≡ false
not_equal a n h = grind (arith, nat_tests)

above : (a n : ℕ) → ltb a n ≡ false → eqb a n ≡ false → n < a
above a n f g = grind (arith, nat_tests)

none_above : (bs : List Block) (n : ℕ) → ((j : ℕ) (d : Block) → j < length bs → n < (get_or bs j d).line) → closing_at n bs ≡ None
none_above [] n h = refl
none_above (b ∷ bs) n h = other _ _ _ (above_not _ _ (h 0 b (omega arith))) ∙ none_above bs n (λ j d k. h (suc j) d (omega (arith, k)))

pub closing_found : (bs : List Block) (n i : ℕ) → IsNonDecreasingBy (λ b. b.line) bs → AllWithin (λ b. ltb b.line n ≡ true) bs 0 i
    → AllWithin (λ b. ltb b.line n ≡ false) bs i (length bs) → closing_here n (slice_get bs i) ≡ closing_at n bs
closing_found [] n i sorted before after = refl
closing_found (b ∷ bs) n zero sorted before after = by_test (eqb b.line n) refl
  where
    by_test : (t : Bool) → eqb b.line n ≡ t → cond (eqb b.line n) (Some b.closing) None
        ≡ cond (eqb b.line n) (Some b.closing) (closing_at n bs)
    by_test true f = rw f refl
    by_test false f =
        let high = above b.line n (after 0 b (lit≤ tt) (omega arith)) f in
        let none = none_above bs n (λ j d k.
        (let later = sorted 0 (suc j) d (omega arith) (omega (arith, k)) in omega (arith, high, later))) in
        cc
closing_found (b ∷ bs) n (suc i) sorted before after =
    closing_found bs n i (λ j k d h g. sorted (suc j) (suc k) d (omega (arith, h)) (omega (arith, g)))
    (λ j d h g. before (suc j) d (omega arith) (omega (arith, g))) (λ j d h g. after (suc j) d (omega (arith, h)) (omega (arith, g)))
    ∙ sym (other _ _ _ (not_equal _ _ (before 0 b (omega arith) (omega arith))))

-- ---- the end within a level

-- an end is found in the first lines where it is found in all and lies within them
abbrev pub within : ℕ → Option ℕ → Option ℕ
within size None = None
within size (Some n) = cond (ltb n size) (Some n) None

within_more : (size : ℕ) (o : Option ℕ) → one_more (within size o) ≡ within (suc size) (one_more o)
within_more size None = refl
within_more size (Some n) = grind (arith, nat_tests)

zero_in : (size : ℕ) → ltb 0 (suc size) ≡ true
zero_in size = grind (arith, nat_tests)

none_in_none : (o : Option ℕ) → within 0 o ≡ None
none_in_none None = refl
none_in_none (Some n) = grind (arith, nat_tests, other (ltb n 0) (Some n) None)

pub first_lines : (wanted opens closes : Word) (lines : List (List ℕ)) (size d : ℕ)
    → lines_before wanted opens closes d (take size lines) ≡ within size (lines_before wanted opens closes d lines)
unfolding lines_before
first_lines wanted opens closes [] zero d = refl
first_lines wanted opens closes [] (suc size) d = refl
first_lines wanted opens closes (line ∷ lines) zero d = sym (none_in_none (lines_before wanted opens closes d (line ∷ lines)))
first_lines wanted opens closes (line ∷ lines) (suc size) d =
    by_test (is_zero d && same_word (directive_of line) wanted) _ _ (first_lines wanted opens closes lines size _)
  where
    by_test : (t : Bool) (o p : Option ℕ) → p ≡ within size o
        → cond t (Some 0) (one_more p) ≡ within (suc size) (cond t (Some 0) (one_more o))
    by_test true o p e = sym (the_one (ltb 0 (suc size)) (Some 0) None (zero_in size))
    by_test false o p e = ap one_more e ∙ within_more size o

-- ---- the end of a block in a level

same_itself : (w : Word) → same_word w w ≡ true
same_itself Macro = refl
same_itself other = refl

same_bool : (a b : Bool) → (a ≡ true → b ≡ true) → (b ≡ true → a ≡ true) → a ≡ b
same_bool true false f g = sym (f refl)
same_bool false true f g = g refl
same_bool other rest f g = refl

lies_within : (start end e m : ℕ) → e ≡ start + m → (leb start e && ltb e end) ≡ ltb m (end - start)
lies_within start end e m is = grind (arith, nat_tests, same_bool (ltb e end) (ltb m (end - start)))

end_within : (start end : ℕ) (o : Option Closing) (found : Option ℕ) → end_of o ≡ further start found
    → end_of (closing_within start end o) ≡ within (end - start) found
end_within start end None None e = refl
end_within start end (Some c) (Some m) e = grind (arith, nat_tests, lies_within start end c.end m)
end_within start end other rest e = absurd cc

part_back : (start : ℕ) (o part : Option ℕ) → part ≡ further start o → part_within start part ≡ o
part_back start None None e = refl
part_back start (Some n) (Some m) e = grind (arith, nat_tests, the_one (leb start m) (Some (m - start)) None)
part_back start other rest e = absurd cc

closing_told : (P : Closing → Type 0) (start end : ℕ) (o : Option Closing)
    → IfSome o (λ (c : Closing). start ≤ c.end → c.end < end → P (record { end = c.end - start; part = part_within start c.part }))
    → IfSome (closing_within start end o) P
closing_told P start end None h = tt
closing_told P start end (Some c) h = grind (arith, nat_tests)

-- what is found at the first line of a block
found_here : (opens closes : Word) (xs : List (List ℕ)) (at : ℕ) → at < length xs → directive_of (get_or xs at []) ≡ opens
    → closing_at at (blocks_from opens closes 0 xs) ≡ slice_get (open_from opens closes (at + 1) (drop (at + 1) xs)) 0
found_here opens closes xs at h begins =
    let zero_more : 0 + at ≡ at = omega arith in
    cc (block_found opens closes xs 0 at h (ap (λ w. same_word w opens) begins ∙ same_itself opens))

pub level_end : (opens closes : Word) → AreApart opens closes → (xs : List (List ℕ)) (at end : ℕ) (o : Option Closing) → at < end
    → end ≤ length xs → directive_of (get_or xs at []) ≡ opens → o ≡ closing_at at (blocks_from opens closes 0 xs)
    → end_of (closing_within (at + 1) end o) ≡ lines_before closes opens closes 0 (drop 1 (slice_range xs at end))
level_end opens closes apart xs at end o h inside begins is =
    let rest = drop (at + 1) xs in
    end_within _ _ _ _ (ap end_of (is ∙ found_here _ _ _ _ (omega arith) begins) ∙ ends_found _ _ apart _ _ _)
    ∙ sym (first_lines _ _ _ _ _ _) ∙ ap (lines_before closes opens closes 0) (after_next _ _ _ _ refl h)

pub level_within : (start at end : ℕ) (o : Option Closing) → start ≡ at + 1
    → IfSome (closing_within start end o) (λ (c : Closing). at + (c.end + 2) ≤ end)
level_within start at end o e = grind (arith, nat_tests, closing_told)

pub level_part : (opens closes : Word) → AreApart opens closes → (xs : List (List ℕ)) (at end : ℕ) (o : Option Closing) → at < end
    → end ≤ length xs → directive_of (get_or xs at []) ≡ opens → o ≡ closing_at at (blocks_from opens closes 0 xs)
    → IfSome (closing_within (at + 1) end o)
    (λ (c : Closing). c.part ≡ lines_before Else opens closes 0 (slice_range (drop 1 (slice_range xs at end)) 0 c.end))
level_part opens closes apart xs at end o h inside begins is =
    closing_told (λ c. c.part ≡ lines_before Else opens closes 0 (slice_range (drop 1 (slice_range xs at end)) 0 c.end)) (at + 1) end o
    (each o (subst (λ x. PartsIn opens closes (at + 1) 0 (drop (at + 1) xs) x) (sym (is
    ∙ found_here opens closes xs at (omega arith) begins))
    (parts_found opens closes apart (drop (at + 1) xs) (at + 1) 0)))
  where
    each : (o : Option Closing) → PartsIn opens closes (at + 1) 0 (drop (at + 1) xs) o
        → IfSome o (λ (c : Closing). at + 1 ≤ c.end → c.end < end → part_within (at + 1) c.part
        ≡ lines_before Else opens closes 0 (slice_range (drop 1 (slice_range xs at end)) 0 (c.end - (at + 1))))
    each None p = tt
    each (Some c) p = λ f g.
        (let size : ((at + 1) + (c.end - (at + 1))) - (at + 1) ≡ c.end - (at + 1) = omega arith in
        part_back (at + 1) (lines_before Else opens closes 0 (take (c.end - (at + 1)) (drop (at + 1) xs))) c.part p.1
        ∙ ap (λ n. lines_before Else opens closes 0 (take n (drop (at + 1) xs))) (sym size)
        ∙ ap (lines_before Else opens closes 0) (first_part xs at end (c.end - (at + 1)) (at + 1) ((at + 1) + (c.end - (at + 1)))
        (omega (arith, f, g)) refl refl))

-- a line that is found is one of the lines
pub found_among : (wanted opens closes : Word) (xs : List (List ℕ)) (d : ℕ)
    → IfSome (lines_before wanted opens closes d xs) (λ n. n < length xs)
unfolding lines_before
found_among wanted opens closes [] d = tt
found_among wanted opens closes (x ∷ xs) d =
    grind (arith, nat_tests, found_among wanted opens closes xs (line_depth (directive_of x) opens closes d))

pub part_inside : (opens closes : Word) (xs : List (List ℕ)) (n : ℕ) (part : Option ℕ)
    → part ≡ lines_before Else opens closes 0 (slice_range xs 0 n)
    → IfSome part (λ m. m < n)
part_inside opens closes xs n part e =
    subst (λ o. IfSome o (λ m. m < n)) (sym e)
    (shorter (lines_before Else opens closes 0 (slice_range xs 0 n)) (found_among Else opens closes (slice_range xs 0 n) 0))
  where
    size : (n : ℕ) (xs : List (List ℕ)) → length (take n xs) ≤ n
    size zero xs = omega arith
    size (suc n) [] = omega arith
    size (suc n) (x ∷ xs) = (let less = size n xs in omega (arith, less))

    shorter : (o : Option ℕ) → IfSome o (λ m. m < length (slice_range xs 0 n)) → IfSome o (λ m. m < n)
    shorter None h = tt
    shorter (Some m) h = (let less = size (n - 0) xs in omega (arith, h, less))

-- what is told of a block that begins at the next line of a level
pub record AreTold (opens closes : Word) (xs : List (List ℕ)) (at end : ℕ) (told : Option Closing) : Type 0 where
  pub place : end_of told ≡ lines_before closes opens closes 0 (drop 1 (slice_range xs at end))
  pub within : IfSome told (λ (c : Closing). at + (c.end + 2) ≤ end)
  pub parted : IfSome told
      (λ (c : Closing). c.part ≡ lines_before Else opens closes 0 (slice_range (drop 1 (slice_range xs at end)) 0 c.end))
  pub inside : IfSome told (λ (c : Closing). IfSome c.part (λ m. m < c.end))

pub are_told : (opens closes : Word) → AreApart opens closes → (xs text : List (List ℕ)) (at end : ℕ) (o told : Option Closing) → at < end
    → end ≤ length xs → directive_of (get_or xs at []) ≡ opens → o ≡ closing_at at (blocks_from opens closes 0 text) → text ≡ xs
    → told ≡ closing_within (at + 1) end o → AreTold opens closes xs at end told
are_told opens closes apart xs text at end o told h inside begins found same e =
    let is : o ≡ closing_at at (blocks_from opens closes 0 xs) = cc in
    let parts = level_part opens closes apart xs at end o h inside begins is in
    rw e (record {
      place = level_end opens closes apart xs at end o h inside begins is;
      within = level_within (at + 1) at end o refl;
      parted = parts;
      inside = each (closing_within (at + 1) end o) parts;
    })
  where
    each : (x : Option Closing) → IfSome x
        (λ (c : Closing). c.part ≡ lines_before Else opens closes 0 (slice_range (drop 1 (slice_range xs at end)) 0 c.end))
        → IfSome x (λ (c : Closing). IfSome c.part (λ m. m < c.end))
    each None p = tt
    each (Some c) p = part_inside opens closes (drop 1 (slice_range xs at end)) c.end c.part p

pub ends_within : (at end : ℕ) (o : Option Closing) (r : Option ℕ) → r ≡ end_of o → IfSome o (λ (c : Closing). at + (c.end + 2) ≤ end)
    → IfSome r (λ n. at + (n + 2) ≤ end)
ends_within at end o r e h = grind (arith, nat_tests)
