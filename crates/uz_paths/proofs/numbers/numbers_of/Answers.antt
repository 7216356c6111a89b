use Rattle.std.proofs.Common.{◌∙◌, ◌∷◌, ◌++◌, [], ap}
use Rattle.uz_schedule.specs.Lines.{order_of}
use Rattle.uz_schedule.specs.Schedule.{response_clocks}
use Rattle.uz_paths.proofs.NumberLemmas.{all_numbered, counted_own, counted_vector, own_next, vector_next}
use Rattle.uz_paths.proofs.numbers.numbers_of.Goals as goal
use Rattle.uz_paths.proofs.numbers.numbers_of.Goals.{in-Some, in-None}

pub loop-at-preserved : goal.loop-at-preserved
loop-at-preserved c =
    elim c.match-vector_of.branch [
      | in-Some w ↦
          let put = c.in_ok-push.ensures.items ∙ ap (λ n. c.loop-at.of.items ++ n ∷ []) w.number-is in
          record {
            numbered = vector_next (response_clocks c.args.response) (order_of c.args.schedule.now) c.args.rests.now c.args.nodes.now
                c.loop-at.at-index c.at-item.result c.loop-at.of.items c.push.new.self.items c.loop-at.count c.match-vector_of.count
                w.in-Some.k c.loop-at-test.true c.at-item.is c.loop-at.invariant.numbered w.in-Some.ensures put w.count-is;
            counted = counted_vector (response_clocks c.args.response) (order_of c.args.schedule.now) c.args.rests.now c.args.nodes.now
                c.loop-at.of.items c.push.new.self.items w.in-Some.k c.at-item.result c.loop-at.invariant.counted w.in-Some.ensures put;
          }
      | in-None w ↦
          let put = c.in_ok-push.ensures.items ∙ ap (λ n. c.loop-at.of.items ++ n ∷ []) w.number-is in
          record {
            numbered = own_next (response_clocks c.args.response) (order_of c.args.schedule.now) c.args.rests.now c.args.nodes.now
                c.loop-at.at-index c.at-item.result c.loop-at.of.items c.push.new.self.items c.loop-at.count c.match-vector_of.count
                c.loop-at-test.true c.at-item.is c.loop-at.invariant.numbered w.in-None.ensures put w.count-is;
            counted = counted_own (response_clocks c.args.response) (order_of c.args.schedule.now) c.args.rests.now c.args.nodes.now
                c.loop-at.at-index c.loop-at.of.items c.push.new.self.items c.loop-at.count c.loop-at-test.true
                c.loop-at.invariant.numbered c.loop-at.invariant.counted put;
          }
    ]

pub returns-clause-numbers : goal.returns-clause-numbers
returns-clause-numbers c =
    all_numbered (response_clocks c.args.response) (order_of c.args.schedule.now) c.args.rests.now c.args.nodes.now c.loop-at.of.items
    c.loop-at.count c.loop-at.at-index c.loop-at-test.false c.loop-at.invariant.numbered
