use Rattle.uz_search.proofs.Common.{◌≡◌, ◌++◌, Program, Flash, AddsAll, IsTree, ComeFrom}
use Rattle.uz_search.proofs.visited.add_all.Given as goal

abbrev pub invariant-each : goal.invariant-each
invariant-each l = record {
  left : l.fn.items.items ≡ l.yielded ++ l.item-iterator.rest.items;
  added : (image : Flash) (program : Program)
      → IsTree image program l.fn.nodes.keys l.fn.parents.items → ComeFrom image program l.fn.nodes.keys l.parent l.fn.items.items
      → AddsAll image program l.fn.nodes.keys l.yielded l.nodes.keys l.parents.items;
}
