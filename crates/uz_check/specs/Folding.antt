-- Families of lines: when the local rule answers alike at a line and at the one that follows it (this project's profile).
-- Lines are counted round the frame.
use Rattle.std.specs.Prelude.{◌≡◌, ◌↔◌, ℕ, zero, suc, ◌-◌, ◌<◌, nat_le, nat_eq, Bool, true, false, ◌&&◌, List, [], ◌∷◌, length, Option}
use Rattle.std.specs.Prelude.{Some, None, slice_get, slice_index}
use Rattle.std.specs.List.{list_all}
use Rattle.std.specs.Ordering.{nat_cmp}
use Rattle.std.specs.FinMap.{FinMap}
use Rattle.uz_schedule.specs.Limits.{ScheduleFits}
use Rattle.uz_schedule.specs.Ends.{Ends}
use Rattle.uz_schedule.specs.Schedule.{next_line}
use Rattle.uz_schedule.specs.declared.facts.Fact.{Fact}
use Rattle.uz_schedule.specs.declared.facts.Fact.TheVariants.{Any, Between, Line, Loop, Old as OldFact, OldFlags as OldFlagsFact}
use Rattle.uz_schedule.specs.declared.facts.PairFact.{PairFact}
use Rattle.uz_schedule.specs.declared.facts.PairFact.TheVariants.{Any as AnyPair, Between as BetweenPair, Line as LinePair}
use Rattle.uz_schedule.specs.declared.facts.PairFact.TheVariants.{Loop as LoopPair}
use Rattle.uz_schedule.specs.declared.lines.Schedule.{Schedule}
use Rattle.uz_schedule.specs.declared.states.Rest.{Rest}
use Rattle.uz_schedule.specs.declared.states.Point.{Point}
use Rattle.uz_schedule.specs.declared.certificate.Cert.{Cert}
use Rattle.uz_transfer.specs.declared.fail.Fail.{Fail}
use Rattle.uz_rules.specs.Inside.{same_bool}
use Rattle.uz_rules.specs.Local.{rest_in, IsLocal}

-- Facts

-- a fact that says the same at every line
abbrev pub keeps_by_lines : Fact → Bool
keeps_by_lines Any = true
keeps_by_lines (Between e) = true
keeps_by_lines (Line a b) = false
keeps_by_lines (Loop a b) = true
keeps_by_lines (OldFact r) = true
keeps_by_lines OldFlagsFact = true

abbrev pub pair_keeps_by_lines : PairFact → Bool
pair_keeps_by_lines AnyPair = true
pair_keeps_by_lines (BetweenPair e) = true
pair_keeps_by_lines (LinePair a b) = false
pair_keeps_by_lines (LoopPair a b) = true

-- no fact of the point is `Line`
abbrev pub has_no_line : Point → Bool
has_no_line p =
    list_all keeps_by_lines p.regs
    && (list_all pair_keeps_by_lines p.pairs && (list_all keeps_by_lines p.stack.items && list_all keeps_by_lines p.cells.items))

-- a named successor has no fact that is `Line`
abbrev pub has_no_line_there : Option Point → Bool
has_no_line_there None = true
has_no_line_there (Some q) = has_no_line q

-- nor has the point, nor any of its named successors
abbrev pub is_plain : Cert → Point → Bool
is_plain cert p = has_no_line p && list_all (λ id. has_no_line_there (slice_get cert.points id)) p.next.items

-- Lines

-- the number of a line's kind
abbrev pub kind_of : Schedule → ℕ → ℕ
kind_of s l = slice_index s.lines l

abbrev pub line_before : Schedule → ℕ → ℕ
line_before s zero = length s.lines - 1
line_before s (suc l) = l

-- line l, the one before it and the two that follow it have one kind
abbrev pub kinds_alike : Schedule → ℕ → Bool
kinds_alike s l =
    nat_eq (kind_of s (line_before s l)) (kind_of s l)
    && (nat_eq (kind_of s (next_line s l)) (kind_of s l) && nat_eq (kind_of s (next_line s (next_line s l))) (kind_of s l))

abbrev pub same_ends : Ends → Ends → Bool
same_ends a b = nat_eq a.lo b.lo && nat_eq a.hi b.hi

abbrev pub same_spans : List Ends → List Ends → Bool
same_spans [] [] = true
same_spans [] (b ∷ bs) = false
same_spans (a ∷ xs) [] = false
same_spans (a ∷ xs) (b ∷ bs) = same_ends a b && same_spans xs bs

-- neither line has a rest, or both have one, with equal clock and cells
abbrev pub same_rest : Option Rest → Option Rest → Bool
same_rest None None = true
same_rest None (Some b) = false
same_rest (Some a) None = false
same_rest (Some a) (Some b) = nat_eq a.clock b.clock && same_spans a.cells.items b.cells.items

-- line l and the two that follow it have the same rest, or none
abbrev pub rests_alike : Schedule → List Rest → ℕ → Bool
rests_alike s rests l =
    same_rest (rest_in rests l) (rest_in rests (next_line s l)) && same_rest (rest_in rests l) (rest_in rests (next_line s (next_line s l)))

abbrev pub lines_alike : Cert → ℕ → Bool
lines_alike cert l = kinds_alike cert.schedule l && rests_alike cert.schedule cert.rests l

-- Boxes

abbrev pub is_on_line : Point → ℕ → Bool
is_on_line p l = nat_le p.l0 l && nat_le l p.l1

-- its box holds line l and the two that follow it, or none of them
abbrev pub is_even : Schedule → ℕ → Option Point → Bool
is_even s l None = true
is_even s l (Some q) =
    same_bool (is_on_line q l) (is_on_line q (next_line s l)) && same_bool (is_on_line q l) (is_on_line q (next_line s (next_line s l)))

-- so does that of each named successor
abbrev pub boxes_even : Cert → Point → ℕ → Bool
boxes_even cert p l = list_all (λ id. is_even cert.schedule l (slice_get cert.points id)) p.next.items

-- The law

-- what is asked of a point, of a line and of the one that follows it
abbrev pub folds : Cert → Point → ℕ → Bool
folds cert p l = lines_alike cert l && (is_plain cert p && boxes_even cert p l)

-- where both lines are in the point's box and that holds, the local rule has one answer at the two, whatever the count
abbrev pub FoldingLaw : Type 0
FoldingLaw =
    (image : FinMap nat_cmp ℕ) (cert : Cert) (id l c : ℕ) (p : Point) (why : Option Fail)
    → ScheduleFits cert.schedule → slice_get cert.points id ≡ Some p → l < length cert.schedule.lines
    → is_on_line p l ≡ true → is_on_line p (next_line cert.schedule l) ≡ true → folds cert p l ≡ true
    → IsLocal image cert id l c why ↔ IsLocal image cert id (next_line cert.schedule l) c why
