use Rattle.std.proofs.Common.{◌≤◌, [], length, arith}
use Rattle.std.proofs.lemmas.List.{drop_all}
use Rattle.uz_player.specs.Frames.{clock_of, left_of}
use Rattle.uz_player.proofs.PlayLaws.{goes_again, nearer_by_edge, nearer_by_turn, stays}
use Rattle.uz_player.proofs.play.Play.advance.Goals as goal

pub turns-init : goal.turns-init
turns-init c = record { goes = stays c.args.self.now; nearer = omega arith }

pub returns-in-Row : goal.returns-in-Row
returns-in-Row c =
    let old = c.turns.self in
    let new = c.scan_next.new.self in
    let nearer = nearer_by_edge c.args.until (clock_of old) (clock_of new) (length (left_of old)) (length (left_of new))
    c.in-Row.ensures.clock c.in-Row.ensures.fewer in (
      goes_again c.args.self.now old new [] c.in-Row.row c.turns.invariant.goes c.in-Row.ensures.goes,
      omega (arith, nearer, c.turns.invariant.nearer),
    )

pub returns-in-End : goal.returns-in-End
returns-in-End c =
    let old = c.turns.self in
    let new = c.scan_next.new.self in
    let nearer = nearer_by_edge c.args.until (clock_of old) (clock_of new) (length (left_of old)) (length (left_of new))
    c.in-End.ensures.clock c.in-End.ensures.fewer in (
      goes_again c.args.self.now old new [] c.in-End.end c.turns.invariant.goes c.in-End.ensures.goes,
      omega (arith, nearer, c.turns.invariant.nearer),
      c.in-End.ensures.end,
    )

pub turns-smaller-in-Quiet : goal.turns-smaller-in-Quiet
turns-smaller-in-Quiet c =
    nearer_by_edge c.args.until (clock_of c.turns.self) (clock_of c.scan_next.new.self) (length (left_of c.turns.self))
    (length (left_of c.scan_next.new.self)) c.in-Quiet.ensures.clock c.in-Quiet.ensures.fewer

pub turns-preserved-in-Quiet : goal.turns-preserved-in-Quiet
turns-preserved-in-Quiet c =
    let old = c.turns.self in
    let new = c.scan_next.new.self in
    let nearer = nearer_by_edge c.args.until (clock_of old) (clock_of new) (length (left_of old)) (length (left_of new))
    c.in-Quiet.ensures.clock c.in-Quiet.ensures.fewer in
    record {
      goes = goes_again c.args.self.now old new [] [] c.turns.invariant.goes c.in-Quiet.ensures.goes;
      nearer = omega (arith, nearer, c.turns.invariant.nearer);
    }

pub turns-smaller-in-Stopped : goal.turns-smaller-in-Stopped
turns-smaller-in-Stopped c =
    nearer_by_edge c.args.until (clock_of c.turns.self) (clock_of c.scan_next.new.self) (length (left_of c.turns.self))
    (length (left_of c.scan_next.new.self)) c.in-Stopped.ensures.clock c.in-Stopped.ensures.fewer

pub turns-preserved-in-Stopped : goal.turns-preserved-in-Stopped
turns-preserved-in-Stopped c =
    let old = c.turns.self in
    let new = c.scan_next.new.self in
    let nearer = nearer_by_edge c.args.until (clock_of old) (clock_of new) (length (left_of old)) (length (left_of new))
    c.in-Stopped.ensures.clock c.in-Stopped.ensures.fewer in
    record {
      goes = goes_again c.args.self.now old new [] [] c.turns.invariant.goes c.in-Stopped.ensures.goes;
      nearer = omega (arith, nearer, c.turns.invariant.nearer);
    }

pub make_turns-requires-clause-none : goal.make_turns-requires-clause-none
make_turns-requires-clause-none c =
    let here = c.turns.self in
    let past : length here.edges.items ≤ here.next = omega arith in
    drop_all here.next here.edges.items past

pub returns-in-Some : goal.returns-in-Some
returns-in-Some c = (
  goes_again c.args.self.now c.turns.self c.make_turns.new.self [] [] c.turns.invariant.goes c.in-Some.ensures.0,
  c.in-Some.ensures.2,
  c.in-Some.ensures.1,
  c.in-Some.ensures.3,
)

pub turns-smaller : goal.turns-smaller
turns-smaller c =
    nearer_by_turn c.args.until (clock_of c.turns.self) (clock_of c.make_turns.new.self) (length (left_of c.turns.self))
    (length (left_of c.make_turns.new.self)) c.in-None.ensures.1 (omega arith) c.in-None.ensures.2

pub turns-preserved : goal.turns-preserved
turns-preserved c =
    let old = c.turns.self in
    let new = c.make_turns.new.self in
    let nearer = nearer_by_turn c.args.until (clock_of old) (clock_of new) (length (left_of old)) (length (left_of new))
    c.in-None.ensures.1 (omega arith) c.in-None.ensures.2 in
    record {
      goes = goes_again c.args.self.now old new [] [] c.turns.invariant.goes c.in-None.ensures.0;
      nearer = omega (arith, nearer, c.turns.invariant.nearer);
    }
