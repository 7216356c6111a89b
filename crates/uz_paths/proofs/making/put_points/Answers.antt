use Rattle.std.proofs.Common.{◌≡◌, ◌<◌, ◌≤◌, ◌∙◌, ap, ⊎_elim, get_or, length, reverse, subst}
use Rattle.std.specs.Prelude.{Some, slice_get}
use Rattle.std.proofs.lemmas.Bool.{cases_lt}
use Rattle.std.proofs.lemmas.List.{reverse-reverse}
use Rattle.std.proofs.lemmas.Option.{slice_get-get_or}
use Rattle.uz_join.proofs.TakenLemmas.{next_taken}
use Rattle.uz_paths.proofs.MakeLemmas.{have_points, none_made, own_put, some_left, vector_passed}
use Rattle.uz_paths.proofs.making.put_points.Goals as goal

pub loop-i-init : goal.loop-i-init
loop-i-init c = record {
  left_are = ap reverse c.reverse.ensures.keys ∙ reverse-reverse c.args.nodes.now.keys;
  so_far = λ image p s count plan. none_made image p s c.args.rests.now c.args.nodes.now.keys c.args.numbers.now count c.args.links.now
      c.args.points.now.items plan c.reverse.new.self.keys c.reverse.ensures.keys;
}

pub put_point-requires : goal.put_point-requires
put_point-requires c = c.requires.linked c.loop-i.i (subst (λ n. c.loop-i.i < n) c.requires.lengths c.loop-i-test.true)

pub loop-i-preserved : goal.loop-i-preserved
loop-i-preserved c =
    let rests = c.args.rests.now in
    let nodes = c.args.nodes.now.keys in
    let n = get_or c.args.numbers.now c.loop-i.i 0 in
    let number : slice_get c.args.numbers.now c.loop-i.i ≡ Some n = slice_get-get_or c.args.numbers.now c.loop-i.i 0 c.loop-i-test.true in
    record {
      left_are = (next_taken nodes c.loop-i.nodes.keys c.take_last-at.new.nodes.keys c.loop-i.i c.take_last-at.result
          c.loop-i.invariant.left_are c.take_last-at.ensures).1;
      so_far = λ image p s count plan. ⊎_elim
          (λ (low : n < length rests). vector_passed image p s rests nodes c.args.numbers.now count c.args.links.now c.args.points.now.items
          plan c.loop-i.i n c.loop-i.points.items c.put_point.new.points.items c.loop-i.nodes.keys c.take_last-at.new.nodes.keys
          c.take_last-at.result (c.loop-i.invariant.so_far image p s count plan) c.take_last-at.ensures number low
          (c.in_ok-put_point.ensures.vector low))
          (λ (high : length rests ≤ n). own_put image p s rests nodes c.args.numbers.now count c.args.links.now c.args.points.now.items
          plan c.loop-i.i n c.loop-i.points.items c.put_point.new.points.items c.loop-i.nodes.keys c.take_last-at.new.nodes.keys
          c.take_last-at.result (c.loop-i.invariant.so_far image p s count plan) c.take_last-at.ensures number high
          (c.in_ok-put_point.ensures.ordered high) (c.in_ok-put_point.ensures.own high))
          (cases_lt n (length rests));
    }

pub returns : goal.returns
returns c = λ image p s count plan.
    have_points image p s c.args.rests.now c.args.nodes.now.keys c.args.numbers.now count c.args.links.now c.args.points.now.items plan
    c.loop-i.i c.loop-i.points.items c.loop-i.nodes.keys (c.loop-i.invariant.so_far image p s count plan) c.loop-i-test.false

pub take_last-at-requires-clause-some : goal.take_last-at-requires-clause-some
take_last-at-requires-clause-some c = some_left c.args.nodes.now.keys c.args.numbers.now c.loop-i.nodes.keys c.loop-i.i c.requires.lengths
    c.loop-i-test.true c.loop-i.invariant.left_are
