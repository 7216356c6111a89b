-- Lines that are read one after another.
use Rattle.std.proofs.Common.{◌≡◌, ℕ, ◌-◌, List, [], ◌∷◌, ◌++◌, refl, ap, ◌∙◌, append_assoc}
use Rattle.std.specs.Prelude.{Option, None, Some}
use Rattle.std.proofs.lemmas.List.{map-append}
use Rattle.uz_core.specs.declared.machine.Edge.{Edge}
use Rattle.uz_proposal.specs.declared.lines.Line.{Line}
use Rattle.uz_proposal.specs.Lines.{Shape, edges_from, either, fall_in, shape_between, shapes_from, shapes_of}

pub either_none : (x : Option ℕ) → either x None ≡ x
either_none None = refl
either_none (Some n) = refl

pub either_assoc : (x y z : Option ℕ) → either (either x y) z ≡ either x (either y z)
either_assoc None y z = refl
either_assoc (Some n) y z = refl

shape_of : Line → Shape
shape_of line = record { length = line.length; fall = line.fall }

-- one more line
pub more_shapes : (lines : List Line) (line : Line) (began ended : ℕ) (edges behind : List Edge) (later : List ℕ) (all : List Shape)
    → line.length ≡ ended - began → line.fall ≡ fall_in began ended edges → behind ≡ edges_from ended edges
    → shapes_of lines ++ shapes_from began edges (ended ∷ later) ≡ all
    → shapes_of (lines ++ line ∷ []) ++ shapes_from ended behind later ≡ all
unfolding shape_of
more_shapes lines line began ended edges behind later all size fall rest so_far =
    let shape : shape_of line ≡ shape_between began ended edges = λ i. record { length = size i; fall = fall i } in
    ap (λ xs. xs ++ shapes_from ended behind later) (map-append shape_of lines (line ∷ []))
    ∙ append_assoc (shapes_of lines) (shape_of line ∷ []) (shapes_from ended behind later)
    ∙ ap (λ x. shapes_of lines ++ x ∷ shapes_from ended behind later) shape
    ∙ ap (λ es. shapes_of lines ++ shape_between began ended edges ∷ shapes_from ended es later) rest
    ∙ so_far
