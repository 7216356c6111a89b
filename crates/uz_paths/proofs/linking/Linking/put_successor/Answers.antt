use Rattle.std.proofs.Common.{ℕ, List, sym, subst}
use Rattle.uz_search.specs.Following.{Among}
use Rattle.uz_paths.specs.Linked.{AddsSuccessors}
use Rattle.uz_paths.proofs.LinkLemmas.{one_successor}
use Rattle.uz_paths.proofs.linking.Linking.put_successor.Goals as goal

pub returns-clause-more : goal.returns-clause-more
returns-clause-more c =
    subst (AddsSuccessors c.args.self.now.count 1 c.args.successors.now.items) (sym c.put_number.ensures)
    (one_successor c.args.self.now.count c.number_at.result c.args.successors.now.items (c.requires.linking.numbered.within c.place_of-place.result c.number_at.result
    c.number_at.ensures) c.requires.room).0

pub returns-clause-named : goal.returns-clause-named
returns-clause-named c = record {
  place = c.place_of-place.result;
  number = c.number_at.result;
  node = c.place_of-place.ensures;
  is = c.number_at.ensures;
  named = subst (λ (ms : List ℕ). Among ms c.number_at.result) (sym c.put_number.ensures)
      (one_successor c.args.self.now.count c.number_at.result c.args.successors.now.items (c.requires.linking.numbered.within c.place_of-place.result c.number_at.result
      c.number_at.ensures) c.requires.room).1;
}
