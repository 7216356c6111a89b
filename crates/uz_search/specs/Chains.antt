-- The facts of one place, the last one first, each with what is known of a block of facts that it is the first of.
use Rattle.std.specs.Prelude.{◌≡◌, ℕ, zero, suc, ◌-◌, ◌≤◌, nat_lt, ◌||◌, Bool, true, List, [], ◌∷◌, Option, Some, None, slice_get}
use Rattle.uz_schedule.specs.Ends.{Ends}
use Rattle.uz_search.specs.declared.chain.Node.{Node}
use Rattle.uz_search.specs.Places.{folded}

abbrev pub with_node : Option Node → List Ends → List Ends
with_node None ranges = ranges
with_node (Some node) ranges = node.range ∷ ranges

-- the ranges of the last n facts, in their order
abbrev pub ranges_below : ℕ → List Node → List Ends
ranges_below zero nodes = []
ranges_below (suc n) nodes = with_node (slice_get nodes n) (ranges_below n nodes)

-- the ends of a block tell that a range lies in no fact of it
abbrev pub is_passed : Node → Ends → Bool
is_passed node e = nat_lt e.lo node.least || (nat_lt node.greatest e.hi || nat_lt node.longest (e.hi - e.lo))

-- n facts come after this one, and these of them after its block
pub record IsNode (nodes : List Node) (n : ℕ) (node : Node) : Type 0 where
  pub rest : node.rest ≤ n
  pub end : node.end ≡ folded (ranges_below n nodes) node.range
  pub passed : (e : Ends) → is_passed node e ≡ true → folded (node.range ∷ ranges_below n nodes) e ≡ folded (ranges_below node.rest nodes) e

abbrev pub IsChain : List Node → Type 0
IsChain nodes = (n : ℕ) (node : Node) → slice_get nodes n ≡ Some node → IsNode nodes n node
