-- What follows an instance on a trail, and what an instance shows on its way.
use Rattle.std.specs.Prelude.{◌≡◌, ◌≢◌, ℕ, ◌+◌, ◌-◌, ◌*◌, ◌==◌, ◌≤◌, nat_lt, max, true, List, [], ◌∷◌, map, length}
use Rattle.std.specs.Prelude.{Option, Some, None, Result, Ok, slice_get, if◌then◌else◌}
use Rattle.std.specs.List.{flat_map}
use Rattle.std.specs.Ordering.{nat_cmp}
use Rattle.std.specs.FinMap.{FinMap}
use Rattle.uz_schedule.specs.Lines.{Lines, order_of, line_after, clock_after}
use Rattle.uz_schedule.specs.Schedule.{scanline, response_clocks}
use Rattle.uz_schedule.specs.Instances.{handler_entry}
use Rattle.uz_schedule.specs.declared.kinds.Kind.TheVariants.{Main}
use Rattle.uz_schedule.specs.declared.lines.EventKind.{EventKind}
use Rattle.uz_schedule.specs.declared.states.Instance.{Instance}
use Rattle.uz_transfer.specs.declared.fail.Fail.{Fail}
use Rattle.uz_transfer.specs.Kinds.{is_main}
use Rattle.uz_rules.specs.declared.next.Next.{Next}
use Rattle.uz_rules.specs.After.{IsAfter}
use Rattle.uz_search.specs.declared.program.Program.{Program}
use Rattle.uz_search.specs.Pieces.{pieces, split_in}
use Rattle.uz_search.specs.Widened.{widened}

-- it stands in the list
abbrev pub Among : {A : Type 0} → List A → A → Type 0
Among xs x = (i : ℕ) × (slice_get xs i ≡ Some x)

-- the program's flash
abbrev pub Flash : Type 0
Flash = FinMap nat_cmp ℕ

-- the lines of the frame, as they follow each other and as long as each is
abbrev pub order_of_program : Program → Lines
order_of_program p = order_of p.schedule

-- how many lines the frame has
abbrev pub lines_of : Program → ℕ
lines_of p = length p.schedule.lines

-- Results

-- the abstract results of an instance, or why it has none
abbrev pub After : Flash → Program → Instance → Result Next Fail → Type 0
After image p x result = IsAfter p.head (order_of_program p) image x result

-- the handler's first state after a return that ends so, where the interrupt is taken at clock c of the next line: the timer came to the
-- last clock of the line on which the return ends
abbrev pub entry_at : Program → Instance → ℕ → Instance
entry_at p end c = handler_entry end.cells.items ((order_of_program p).next end.line) (c + response_clocks p.head.irq) end.level
    ((order_of_program p).length end.line - 1)

-- an interrupt may be taken at the clocks 0 to 3
abbrev pub entries : Program → Instance → List Instance
entries p end = entry_at p end 0 ∷ entry_at p end 1 ∷ entry_at p end 2 ∷ entry_at p end 3 ∷ []

-- the register that is split at an instance: one of main
abbrev pub split_at : Program → Instance → Option ℕ
split_at p x = if is_main x.kind then split_in p.splits x.pc else None

-- the instances that follow on a trail: the results, or the pieces in which one goes on, each widened by the facts of its program counter,
-- and after a return from the handler its entry states
abbrev pub followers_by : Program → Option ℕ → Next → List Instance
followers_by p split next = if next.back then flat_map (entries p) next.out.items else map (widened p) (pieces split next.out.items)

abbrev pub followers_of : Program → Instance → Next → List Instance
followers_of p x next = followers_by p (split_at p x) next

pub record Follows (image : Flash) (p : Program) (x y : Instance) : Type 0 where
  pub next : Next
  pub after : After image p x (Ok next)
  pub is : Among (followers_of p x next) y

-- Places

-- A position is a line and a clock of it as one number: each line has as many positions as the longest line has clocks, so a shorter
-- one leaves its last positions unused

-- the first position of a line
abbrev pub line_start : ℕ → ℕ
line_start l = scanline * l

-- the positions of a frame
abbrev pub frame_of : Program → ℕ
frame_of p = line_start (lines_of p)

-- the line, and the clock of it, that an instance passes some clocks on
abbrev pub line_on : Program → Instance → ℕ → ℕ
line_on p x k = line_after (order_of_program p) x.line (x.clock + k)

abbrev pub clock_on : Program → Instance → ℕ → ℕ
clock_on p x k = clock_after (order_of_program p) x.line (x.clock + k)

-- the position that it passes then
abbrev pub place_on : Program → Instance → ℕ → ℕ
place_on p x k = line_start (line_on p x k) + clock_on p x k

-- the clocks from an instance to its result, which stands on its line or on the next one
abbrev pub clocks_between : Program → Instance → Instance → ℕ
clocks_between p x y = if nat_lt x.clock y.clock then y.clock - x.clock else (order_of_program p).length x.line - x.clock + y.clock

-- the clocks that its longest result takes
abbrev pub most_clocks : Program → Instance → List Instance → ℕ
most_clocks p x [] = 0
most_clocks p x (y ∷ ys) = max (clocks_between p x y) (most_clocks p x ys)

-- what is shown that many clocks after the start
abbrev pub shown_at : Option (ℕ × EventKind) → ℕ → Option EventKind
shown_at None k = None
shown_at (Some e) k = if e.0 == k then Some e.1 else None

-- what an instance that passes this many clocks shows at one of the positions that it passes
pub record Passing (p : Program) (x : Instance) (most : ℕ) (emit : Option (ℕ × EventKind)) (y : ℕ) (e : Option EventKind) : Type 0 where
  pub clocks : ℕ
  pub some : 1 ≤ clocks
  pub few : clocks ≤ most
  pub there : y ≡ place_on p x clocks
  pub shows : e ≡ shown_at emit clocks

-- outside main an instance passes this position of the frame, up to the end of its longest result, and shows this there
abbrev pub Shows : Flash → Program → Instance → ℕ → Option EventKind → Type 0
Shows image p x y e = (next : Next) × After image p x (Ok next) × (x.kind ≢ Main)
    × Passing p x (most_clocks p x next.out.items) next.emit y e

-- the handler returns with the instance, and ends so
abbrev pub ReturnsTo : Flash → Program → Instance → Instance → Type 0
ReturnsTo image p x end = (next : Next) × After image p x (Ok next) × (next.back ≡ true) × (slice_get next.out.items 0 ≡ Some end)
