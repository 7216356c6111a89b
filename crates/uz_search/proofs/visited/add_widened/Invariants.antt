use Rattle.uz_search.proofs.Common.{Flash, Program, Some, map, take, widened, AddsAll, IsTree, ComeFrom}
use Rattle.uz_search.proofs.visited.add_widened.Given as goal

abbrev pub invariant-each : goal.invariant-each
invariant-each l = (image : Flash) (p : Program)
    → IsTree image p l.fn.nodes.keys l.fn.parents.items → ComeFrom image p l.fn.nodes.keys (Some l.parent) (map (widened l.program) l.results)
    → AddsAll image p l.fn.nodes.keys (map (widened l.program) (take l.at-index l.results)) l.nodes.keys l.parents.items
