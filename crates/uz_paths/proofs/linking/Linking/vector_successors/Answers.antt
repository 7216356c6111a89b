use Rattle.std.proofs.Common.{arith, sym, subst}
use borrow.Author.Count.{below_more}
use Rattle.uz_schedule.specs.declared.states.Instance.{Instance}
use Rattle.uz_search.specs.Following.{Among}
use Rattle.uz_paths.specs.Linked.{first_after}
use Rattle.uz_paths.specs.Linking.{LeadsToResultsBy, HasFewBy}
use Rattle.uz_paths.proofs.FewResults.{few_entries}
use Rattle.uz_paths.proofs.LinkLemmas.{still_leads}
use Rattle.uz_paths.proofs.linking.Linking.vector_successors.Goals as goal

pub put_results_of-requires-clause-node : goal.put_results_of-requires-clause-node
put_results_of-requires-clause-node c =
    subst (λ (z : Instance). Among c.args.self.now.nodes.now.keys z) (sym c.first_after-at.ensures)
    (c.requires.entered.first c.loop-c.c (omega (arith, c.loop-c-test.true)))

pub put_results_of-requires-clause-few : goal.put_results_of-requires-clause-few
put_results_of-requires-clause-few c =
    subst (λ (z : Instance). HasFewBy c.args.self.now z 2) (sym c.first_after-at.ensures)
    (few_entries c.args.self.now.image.now c.args.self.now.program.now c.args.rest.now.cells.items _ _ _ _)

pub loop-c-preserved : goal.loop-c-preserved
loop-c-preserved c = record {
  few = (let more = c.put_results_of.ensures.more.few in let before = c.loop-c.invariant.few in omega arith);
  fits = c.put_results_of.ensures.more.fits c.loop-c.invariant.fits;
  named = below_more (λ j. LeadsToResultsBy c.args.self.now
      (first_after c.args.self.now.program.now c.args.schedule.now c.args.rest.now j) c.put_results_of.new.successors.items) c.loop-c.c
      (λ j less. still_leads c.args.self.now.image.now c.args.self.now.program.now c.args.self.now.nodes.now.keys c.args.self.now.numbers.now
      (first_after c.args.self.now.program.now c.args.schedule.now c.args.rest.now j) c.loop-c.successors.items c.put_results_of.new.successors.items
      c.put_results_of.ensures.more.kept (c.loop-c.invariant.named j less))
      (subst (λ (z : Instance). LeadsToResultsBy c.args.self.now z
      c.put_results_of.new.successors.items) c.first_after-at.ensures c.put_results_of.ensures.named);
}

pub returns-clause-named : goal.returns-clause-named
returns-clause-named c = λ k le. let past = c.loop-c-test.false in c.loop-c.invariant.named k (omega arith)
