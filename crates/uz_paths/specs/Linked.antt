-- The points of instances, and the numbers of the points where they lead.
use Rattle.std.specs.Prelude.{◌≡◌, ℕ, ◌+◌, ◌-◌, ◌<◌, ◌≤◌, false, List, Ok, Some, length, slice_get, IsTrue, All}
use Rattle.uz_schedule.specs.Instances.{handler_entry, level_or_zero}
use Rattle.uz_schedule.specs.Lines.{Lines}
use Rattle.uz_schedule.specs.Limits.{ScheduleFits, rises}
use Rattle.uz_schedule.specs.Schedule.{length_of, next_line, response_clocks}
use Rattle.uz_schedule.specs.declared.lines.Schedule.{Schedule}
use Rattle.uz_schedule.specs.declared.states.Instance.{Instance}
use Rattle.uz_schedule.specs.declared.states.Point.{Point}
use Rattle.uz_schedule.specs.declared.states.Rest.{Rest}
use Rattle.uz_rules.specs.declared.next.Next.{Next}
use Rattle.uz_search.specs.declared.program.Program.{Program}
use Rattle.uz_search.specs.Fitting.{ProgramFits, Stands}
use Rattle.uz_search.specs.Following.{Among, After, Flash, lines_of, order_of_program, split_at}
use Rattle.uz_search.specs.Pieces.{pieces}
use Rattle.uz_search.specs.Widened.{widened}
use Rattle.uz_paths.specs.Numbers.{AreNumbers}
use Rattle.uz_join.specs.Points.{AreOrdered, IsOrdered, point_of, vector_after}

-- the point of number k is the vector of this rest, the ranges of whose cells are in order
pub record IsVectorAt (response : ℕ) (lines : Lines) (points : List Point) (k : ℕ) (rest : Rest) : Type 0 where
  pub next : List ℕ
  pub is : slice_get points k ≡ Some (vector_after response lines rest next)
  pub ordered : AreOrdered 255 rest.cells.items

-- the point of number n says what this instance says, whose ranges are in order
pub record IsPointAt (points : List Point) (n : ℕ) (x : Instance) : Type 0 where
  pub next : List ℕ
  pub is : slice_get points n ≡ Some (point_of x next)
  pub ordered : IsOrdered x

-- the numbers of successors rise, and are of points that are there
pub record SuccessorsFit (count : ℕ) (next : List ℕ) : Type 0 where
  pub few : length next ≤ 16
  pub there : All (λ id. id < count) next
  pub rise : IsTrue (rises next)

-- each rest's vector and each other instance has its point
pub record ArePoints (response : ℕ) (lines : Lines) (rests : List Rest) (nodes : List Instance) (numbers : List ℕ) (count : ℕ)
    (points : List Point) : Type 0 where
  pub size : length points ≡ count
  pub vectors : (k : ℕ) (rest : Rest) → slice_get rests k ≡ Some rest → IsVectorAt response lines points k rest
  pub own : (i n : ℕ) (x : Instance) → slice_get nodes i ≡ Some x → slice_get numbers i ≡ Some n → length rests ≤ n → IsPointAt points n x
  pub names : (n : ℕ) (point : Point) → slice_get points n ≡ Some point → SuccessorsFit count point.next.items

-- the instances of a program's search have numbers, and points of these numbers
pub record ArePointed (p : Program) (rests : List Rest) (nodes : List Instance) (numbers : List ℕ) (count : ℕ) (points : List Point)
    : Type 0 where
  pub numbered : AreNumbers (response_clocks p.head.irq) (order_of_program p) rests nodes numbers count
  pub made : ArePoints (response_clocks p.head.irq) (order_of_program p) rests nodes numbers count points

-- a point has these successors, and says what it said
pub record Renamed (count : ℕ) (next : List ℕ) (old new : Point) : Type 0 where
  pub is : new ≡ record old { next = record { items = next } }
  pub fits : SuccessorsFit count next

-- Names

-- each instance has a number of one of so many points
pub record HaveNumbers (nodes : List Instance) (numbers : List ℕ) (count : ℕ) : Type 0 where
  pub lengths : length numbers ≡ length nodes
  pub within : (i n : ℕ) → slice_get numbers i ≡ Some n → n < count

-- the number of an instance is among these
pub record HasSuccessor (nodes : List Instance) (numbers : List ℕ) (y : Instance) (next : List ℕ) : Type 0 where
  pub place : ℕ
  pub number : ℕ
  pub node : slice_get nodes place ≡ Some y
  pub is : slice_get numbers place ≡ Some number
  pub named : Among next number

-- up to so many further numbers: those that were there stay
pub record AddsSuccessors (count most : ℕ) (old new : List ℕ) : Type 0 where
  pub kept : (n : ℕ) → Among old n → Among new n
  pub few : length new ≤ length old + most
  pub fits : SuccessorsFit count old → SuccessorsFit count new

-- what the instance's results go on in
abbrev pub pieces_at : Program → Instance → Next → List Instance
pieces_at p x result = pieces (split_at p x) result.out.items

-- the instance's results, or the pieces in which one goes on, each widened by the facts of its program counter, have their numbers among
-- these
abbrev pub LeadsToResults : Flash → Program → List Instance → List ℕ → Instance → List ℕ → Type 0
LeadsToResults image p nodes numbers x next = (result : Next) (y : Instance) → After image p x (Ok result) → result.back ≡ false
    → Among (pieces_at p x result) y → HasSuccessor nodes numbers (widened p y) next

-- what results of instances go on in are instances, where they are widened
abbrev pub IsClosed : Flash → Program → List Instance → Type 0
IsClosed image p nodes = (x y : Instance) (result : Next) → Among nodes x → After image p x (Ok result) → result.back ≡ false
    → Among (pieces_at p x result) y → Among nodes (widened p y)

-- a program that is fit to be searched, and instances that stand in its frame, with all their results
pub record AreSearched (image : Flash) (p : Program) (nodes : List Instance) : Type 0 where
  pub fits : ProgramFits p
  pub stand : (x : Instance) → Among nodes x → Stands p x
  pub closed : IsClosed image p nodes

-- an instance's results go on in at most so many instances
abbrev pub HasFew : Flash → Program → Instance → ℕ → Type 0
HasFew image p x most = (result : Next) → After image p x (Ok result) → length (pieces_at p x result) ≤ most

-- the handler's first state after a rest, where its interrupt is taken at clock c of the next line, with the schedule's level there
abbrev pub first_after : Program → Schedule → Rest → ℕ → Instance
first_after p s rest c =
    handler_entry rest.cells.items (next_line s rest.line) (c + response_clocks p.head.irq)
    (level_or_zero s (next_line s rest.line) (c + response_clocks p.head.irq)) (length_of s rest.line - 1)

-- the results of a rest's first states are named
abbrev pub LeadsToEntries : Flash → Program → Schedule → List Instance → List ℕ → Rest → List ℕ → Type 0
LeadsToEntries image p s nodes numbers rest next = (c : ℕ) → c ≤ 3 → LeadsToResults image p nodes numbers (first_after p s rest c) next

-- a rest on a line of the program, whose first states by a schedule of as many lines are instances
pub record IsEntered (p : Program) (s : Schedule) (nodes : List Instance) (rest : Rest) : Type 0 where
  pub schedule : ScheduleFits s
  pub lines : length s.lines ≡ lines_of p
  pub line : rest.line < lines_of p
  pub first : (c : ℕ) → c ≤ 3 → Among nodes (first_after p s rest c)

-- each of these rests
abbrev pub AreEntered : Program → Schedule → List Rest → List Instance → Type 0
AreEntered p s rests nodes = (k : ℕ) (rest : Rest) → slice_get rests k ≡ Some rest → IsEntered p s nodes rest

-- so many vectors name what follows them
abbrev pub VectorsLead : Flash → Program → Schedule → List Rest → List Instance → List ℕ → ℕ → List Point → Type 0
VectorsLead image p s rests nodes numbers done points =
    (k : ℕ) (rest : Rest) (point : Point) → k < done → slice_get rests k ≡ Some rest → slice_get points k ≡ Some point → LeadsToEntries image
    p s nodes numbers rest point.next.items

-- of so many instances those with a point of their own name their results
abbrev pub NodesLead : Flash → Program → ℕ → List Instance → List ℕ → ℕ → List Point → Type 0
NodesLead image p vectors nodes numbers done points =
    (i n : ℕ) (x : Instance) (point : Point) → i < done → slice_get nodes i ≡ Some x → slice_get numbers i ≡ Some n → vectors ≤ n
    → slice_get points n ≡ Some point → LeadsToResults image p nodes numbers x point.next.items

-- all points name what follows them
pub record PointsLead (image : Flash) (p : Program) (s : Schedule) (rests : List Rest) (nodes : List Instance) (numbers : List ℕ)
    (points : List Point) : Type 0 where
  pub vectors : VectorsLead image p s rests nodes numbers (length rests) points
  pub own : NodesLead image p (length rests) nodes numbers (length nodes) points
