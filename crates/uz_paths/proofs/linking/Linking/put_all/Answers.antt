use Rattle.std.proofs.Common.{◌+◌, arith, length, refl, sym, subst}
use Rattle.std.proofs.lemmas.Option.{slice_get_read}
use Rattle.uz_schedule.specs.declared.states.Instance.{Instance}
use Rattle.uz_search.specs.Following.{Among}
use Rattle.uz_search.specs.Widened.{widened}
use Rattle.uz_join.proofs.EachLemmas.{each_more, each_all}
use Rattle.uz_paths.specs.Linking.{HasSuccessorBy}
use Rattle.uz_paths.proofs.LinkLemmas.{added_on, still_successor}
use Rattle.uz_paths.proofs.linking.Linking.put_all.Goals as goal

pub put_successor-requires-clause-node : goal.put_successor-requires-clause-node
put_successor-requires-clause-node c =
    subst (λ (z : Instance). Among c.args.self.now.nodes.now.keys z) (sym c.widened_copy.ensures)
    (c.requires.nodes c.to-item.result (
      c.loop-to.to-index,
      slice_get_read c.args.results.now (length c.args.results.now) c.loop-to.to-index
          c.to-item.result refl c.loop-to-test.true c.to-item.is,
    ))

pub loop-to-preserved : goal.loop-to-preserved
loop-to-preserved c = record {
  more = added_on c.args.self.now.count c.loop-to.to-index 1 (c.loop-to.to-index + 1) c.args.successors.now.items c.loop-to.successors.items
      c.put_successor.new.successors.items c.loop-to.invariant.more c.put_successor.ensures.more (omega arith);
  named = each_more (λ (y : Instance). HasSuccessorBy c.args.self.now (widened c.args.self.now.program.now y)
      c.put_successor.new.successors.items) c.args.results.now c.args.results.now c.loop-to.to-index c.to-item.result refl c.loop-to-test.true
      c.to-item.is
      (λ j y less at. still_successor c.args.self.now.nodes.now.keys c.args.self.now.numbers.now (widened c.args.self.now.program.now y) c.loop-to.successors.items
      c.put_successor.new.successors.items c.put_successor.ensures.more.kept (c.loop-to.invariant.named j y less at))
      (subst (λ (z : Instance). HasSuccessorBy c.args.self.now z c.put_successor.new.successors.items) c.widened_copy.ensures
      c.put_successor.ensures.named);
}

pub returns-clause-named : goal.returns-clause-named
returns-clause-named c =
    λ y there. each_all (λ (y : Instance). HasSuccessorBy c.args.self.now (widened c.args.self.now.program.now y)
    c.loop-to.successors.items) c.args.results.now c.args.results.now c.loop-to.to-index refl (omega (arith, c.loop-to-test.false))
    c.loop-to.invariant.named there.0 y there.1
