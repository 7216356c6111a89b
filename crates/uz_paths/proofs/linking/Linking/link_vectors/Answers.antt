use Rattle.std.proofs.Common.{◌≡◌, ◌<◌, ◌∙◌, [], arith, get_or, length, refl}
use Rattle.std.specs.Prelude.{Some, slice_get}
use Rattle.std.proofs.lemmas.Option.{slice_get-get_or, slice_get_read}
use Rattle.uz_schedule.specs.Schedule.{response_clocks}
use Rattle.uz_search.specs.Following.{order_of_program}
use Rattle.uz_paths.proofs.LinkLemmas.{length_write, made_again, vectors_lead}
use Rattle.uz_paths.proofs.linking.Linking.link_vectors.Goals as goal

pub vector_successors-successors-requires-clause-entered : goal.vector_successors-successors-requires-clause-entered
vector_successors-successors-requires-clause-entered c =
    c.requires.entered c.loop-k.k c.index-rests-k.result (slice_get_read c.args.rests.now (length c.args.rests.now) c.loop-k.k
    c.index-rests-k.result refl c.loop-k-test.true c.index-rests-k.is)

pub loop-k-preserved : goal.loop-k-preserved
loop-k-preserved c =
    let same = c.loop-k.invariant.size in
    let test = c.loop-k-test.true in
    let within : c.loop-k.k < length c.loop-k.points = omega arith in
    let at : slice_get c.args.rests.now c.loop-k.k ≡ Some c.index-rests-k.result = slice_get_read c.args.rests.now (length c.args.rests.now)
    c.loop-k.k c.index-rests-k.result refl c.loop-k-test.true c.index-rests-k.is in
    record {
      size = length_write c.loop-k.points c.loop-k.k c.set_successors.new.point ∙ c.loop-k.invariant.size;
      made = made_again (response_clocks c.args.self.now.program.now.head.irq) (order_of_program c.args.self.now.program.now) c.args.rests.now [] []
          c.args.self.now.count c.loop-k.k c.vector_successors-successors.result.items c.loop-k.points
          (get_or c.loop-k.points c.loop-k.k c.index-points-k.result) c.set_successors.new.point
          c.loop-k.invariant.made (slice_get-get_or c.loop-k.points c.loop-k.k c.index-points-k.result within) c.set_successors.ensures;
      named = vectors_lead c.args.self.now.image.now c.args.self.now.program.now c.args.schedule.now c.args.rests.now c.args.self.now.nodes.now.keys
          c.args.self.now.numbers.now c.args.self.now.count c.loop-k.k c.vector_successors-successors.result.items c.loop-k.points
          (get_or c.loop-k.points c.loop-k.k c.index-points-k.result) c.set_successors.new.point c.index-rests-k.result
          within at c.loop-k.invariant.named c.set_successors.ensures c.vector_successors-successors.ensures.named;
    }

pub returns-clause-named : goal.returns-clause-named
returns-clause-named c = λ k rest point less at there. let past = c.loop-k-test.false in c.loop-k.invariant.named k rest point (omega arith)
    at there
