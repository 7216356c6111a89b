-- The lines between clocks at which lines begin: how long each is, and where sync first falls in it.
use Rattle.std.specs.Prelude.{ℕ, ◌-◌, Bool, false, if◌then◌else◌, nat_eq, nat_lt, List, [], ◌∷◌, map, Option, None, Some}
use Rattle.uz_core.specs.declared.machine.Edge.{Edge}
use Rattle.uz_core.specs.declared.machine.EdgeKind.{EdgeKind}
use Rattle.uz_core.specs.declared.machine.EdgeKind.TheVariants.{Sync}
use Rattle.uz_proposal.specs.declared.lines.Line.{Line}

-- A line's clocks, and the clock of sync's first fall, counted from the line's begin
pub record Shape : Type 0 where
  pub length : ℕ
  pub fall : Option ℕ

abbrev pub shapes_of : List Line → List Shape
shapes_of lines = map (λ line. record { length = line.length; fall = line.fall }) lines

-- the first of two that there is
abbrev pub either : Option ℕ → Option ℕ → Option ℕ
either (Some x) other = Some x
either None other = other

-- where sync falls by an edge, if it does
abbrev pub is_fall : EdgeKind → Bool
is_fall (Sync level) = nat_eq level 0
is_fall other = false

abbrev pub fall_at : ℕ → EdgeKind → Option ℕ
fall_at clock kind = if is_fall kind then Some clock else None

-- Of edges in the order of time: the first fall before a line's end, and the edges from the end on
abbrev pub fall_in : ℕ → ℕ → List Edge → Option ℕ
fall_in began ended [] = None
fall_in began ended (e ∷ later) =
    if nat_lt e.clock ended then either (fall_at (e.clock - began) e.kind) (fall_in began ended later) else None

abbrev pub edges_from : ℕ → List Edge → List Edge
edges_from ended [] = []
edges_from ended (e ∷ later) = if nat_lt e.clock ended then edges_from ended later else e ∷ later

-- the line between two clocks
abbrev pub shape_between : ℕ → ℕ → List Edge → Shape
shape_between began ended edges = record { length = ended - began; fall = fall_in began ended edges }

-- the lines that end at some clocks, of which the first one begins at a clock: each begins where the one before it ends
abbrev pub shapes_from : ℕ → List Edge → List ℕ → List Shape
shapes_from began edges [] = []
shapes_from began edges (ended ∷ later) = shape_between began ended edges ∷ shapes_from ended (edges_from ended edges) later

-- the lines between each two clocks that follow one another
abbrev pub line_shapes : List Edge → List ℕ → List Shape
line_shapes edges [] = []
line_shapes edges (first ∷ later) = shapes_from first (edges_from first edges) later
