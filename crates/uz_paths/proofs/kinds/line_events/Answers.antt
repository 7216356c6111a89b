use Rattle.std.proofs.Common.{◌≡◌, ◌∙◌, ◌-◌, ◌+◌, ◌++◌, ap, arith}
use Rattle.std.specs.Prelude.{slice_get}
use Rattle.uz_search.specs.Following.{line_start}
use Rattle.uz_paths.specs.Kinds.{noted, event_here}
use Rattle.uz_paths.proofs.KindLemmas.{clock_more, begins, ends}
use Rattle.uz_paths.proofs.kinds.line_events.Goals as goal

pub loop-clock-init : goal.loop-clock-init
loop-clock-init c = begins c.args.marks.now c.args.line c.args.clocks (c.args.clocks - 0) c.new-events.result
    c.new-events.ensures (omega arith)

pub loop-clock-preserved : goal.loop-clock-preserved
loop-clock-preserved c =
    let within = c.loop-clock-test.true in
    let start = line_start c.args.line in
    let is : c.push_event.new.events ≡ c.loop-clock.events ++ event_here c.loop-clock.clock
    (noted (slice_get c.args.marks.now (line_start c.args.line + c.loop-clock.clock))) =
    c.in_ok-push_event.ensures ∙ ap (λ o. c.loop-clock.events ++ event_here c.loop-clock.clock o) c.noted.ensures in
    clock_more c.args.marks.now start c.loop-clock.clock (c.args.clocks - c.loop-clock.clock) (c.args.clocks - (c.loop-clock.clock + 1))
    c.loop-clock.events c.push_event.new.events (omega arith) is
    ∙ c.loop-clock.invariant

pub returns : goal.returns
returns c =
    let past = c.loop-clock-test.false in
    ends c.args.marks.now (line_start c.args.line) c.loop-clock.clock (c.args.clocks - c.loop-clock.clock) c.loop-clock.events _
    (omega arith) c.loop-clock.invariant
