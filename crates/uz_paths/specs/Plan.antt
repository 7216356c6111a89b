-- What is known of the points of a search before they are made.
use Rattle.std.specs.Prelude.{◌≡◌, ℕ, ◌≤◌, ◌<◌, List, [], Some, length, slice_get, take}
use Rattle.uz_schedule.specs.Lines.{Lines}
use Rattle.uz_schedule.specs.Schedule.{response_clocks}
use Rattle.uz_schedule.specs.declared.lines.Schedule.{Schedule}
use Rattle.uz_schedule.specs.declared.states.Instance.{Instance}
use Rattle.uz_schedule.specs.declared.states.Point.{Point}
use Rattle.uz_schedule.specs.declared.states.Rest.{Rest}
use Rattle.uz_search.specs.declared.program.Program.{Program}
use Rattle.uz_search.specs.Following.{Flash, order_of_program}
use Rattle.uz_paths.specs.declared.lists.Lists.{Lists}
use Rattle.uz_paths.specs.Linked.{PointsLead, ArePointed, IsVectorAt, IsPointAt, SuccessorsFit, LeadsToResults, VectorsLead}
use Rattle.uz_paths.specs.Lists.{IsListAt}
use Rattle.uz_paths.specs.Numbers.{AreNumbers}

-- an instance with a point of its own has the number of points before it
abbrev pub AreCounted : ℕ → Lines → List Rest → List Instance → List ℕ → Type 0
AreCounted response lines rests nodes numbers = (i n : ℕ) → slice_get numbers i ≡ Some n → length rests ≤ n → AreNumbers response lines
    rests (take i nodes) (take i numbers) n

-- each rest's vector and each of these instances that has a point of its own has its point among these; they name points below `total`
pub record AreMade (response : ℕ) (lines : Lines) (rests : List Rest) (nodes : List Instance) (numbers : List ℕ) (total : ℕ)
    (points : List Point) : Type 0 where
  pub vectors : (k : ℕ) (rest : Rest) → slice_get rests k ≡ Some rest → IsVectorAt response lines points k rest
  pub own : (i n : ℕ) (x : Instance) → slice_get nodes i ≡ Some x → slice_get numbers i ≡ Some n → length rests ≤ n → IsPointAt points n x
  pub names : (n : ℕ) (point : Point) → slice_get points n ≡ Some point → SuccessorsFit total point.next.items

-- the list of number i names the results of the instance there, where that has a point of its own
pub record IsLinkAt (image : Flash) (p : Program) (vectors : ℕ) (nodes : List Instance) (numbers : List ℕ) (count : ℕ) (lists : Lists)
    (i : ℕ) : Type 0 where
  pub list : List ℕ
  pub there : IsListAt lists i list
  pub fits : SuccessorsFit count list
  pub names : (n : ℕ) (x : Instance) → slice_get nodes i ≡ Some x → slice_get numbers i ≡ Some n → vectors ≤ n
      → LeadsToResults image p nodes numbers x list

-- so many of these
abbrev pub AreLinks : Flash → Program → ℕ → List Instance → List ℕ → ℕ → Lists → ℕ → Type 0
AreLinks image p vectors nodes numbers count lists done = (i : ℕ) → i < done → IsLinkAt image p vectors nodes numbers count lists i

-- the instances have numbers in the order in which they were found, and each names its results; the points are those of the vectors, which
-- name what follows them
pub record IsPlan (image : Flash) (p : Program) (s : Schedule) (rests : List Rest) (nodes : List Instance) (numbers : List ℕ) (count : ℕ)
    (links : Lists) (points : List Point) : Type 0 where
  pub numbered : AreNumbers (response_clocks p.head.irq) (order_of_program p) rests nodes numbers count
  pub counted : AreCounted (response_clocks p.head.irq) (order_of_program p) rests nodes numbers
  pub linked : AreLinks image p (length rests) nodes numbers count links (length nodes)
  pub size : length points ≡ length rests
  pub made : AreMade (response_clocks p.head.irq) (order_of_program p) rests [] [] count points
  pub named : VectorsLead image p s rests nodes numbers (length rests) points

-- the instances have numbers and points of these numbers, and each point names what follows it
pub record HavePoints (image : Flash) (p : Program) (s : Schedule) (rests : List Rest) (nodes : List Instance) (numbers : List ℕ)
    (count : ℕ) (points : List Point) : Type 0 where
  pub pointed : ArePointed p rests nodes numbers count points
  pub named : PointsLead image p s rests nodes numbers points

-- of whatever search this is the plan, so much holds
abbrev pub ByAnyPlan : List Rest → List Instance → List ℕ → Lists → List Point → (Flash → Program → Schedule → ℕ → Type 0) → Type 0
ByAnyPlan rests nodes numbers links points claim =
    (image : Flash) (p : Program) (s : Schedule) (count : ℕ) → IsPlan image p s rests nodes numbers count links points
    → claim image p s count
