-- How deep the stack of the interrupt's handler gets.
use Rattle.std.specs.Prelude.{ℕ, ◌-◌, Bool, ◌&&◌, if◌then◌else◌, nat_lt, List, [], ◌∷◌}
use Rattle.uz_core.specs.Turn.{is_entry}
use Rattle.uz_proposal.specs.Moments.{Moment, is_handling}

-- SP at the handler's first instruction, with the return address on the stack: SP behind the last entry, 0 before the first one
abbrev pub handler_top : List Moment → ℕ
handler_top [] = 0
handler_top (m ∷ earlier) = if is_entry m.before then m.after.core.sp else handler_top earlier

-- the greater of a depth and that of SP below a top, if the handler runs
abbrev pub deeper : Bool → ℕ → ℕ → ℕ → ℕ
deeper handling top sp depth = if handling && nat_lt depth (top - sp) then top - sp else depth

-- The most bytes below that SP, behind any turn after which the handler runs: what it has pushed and the return addresses of its calls,
-- its own return address apart
abbrev pub handler_depth : Bool → List Moment → ℕ
handler_depth first [] = 0
handler_depth first (m ∷ earlier) =
    deeper (is_handling first (m ∷ earlier)) (handler_top (m ∷ earlier)) m.after.core.sp (handler_depth first earlier)
