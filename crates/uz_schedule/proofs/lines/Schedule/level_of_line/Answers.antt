use Rattle.std.proofs.Common.{◌+◌, ◌-◌, rules, arith, sym}
use Rattle.uz_schedule.specs.Schedule.{start_of}
use Rattle.uz_schedule.proofs.Starts.{length_within, place_is}
use Rattle.uz_schedule.proofs.LastLevel.{level_first, level_before_line, level_of_line, level_passed, level_none}
use Rattle.uz_schedule.proofs.lines.Schedule.level_of_line.Goals as goal

pub overflow_add-clock : goal.overflow_add-clock
overflow_add-clock c =
    let long = length_within c.args.self.now c.requires.fits c.args.line in
    omega (arith, long.1, c.requires.clock)

pub returns-then-is_some : goal.returns-then-is_some
returns-then-is_some c =
    let s = c.args.self.now in
    let l = c.args.line in
    let k = c.args.clock in
    level_first s (start_of s l + k) l k c.line_level-first.result c.requires.fits c.requires.line c.requires.clock
    (place_is s l k c.requires.line c.requires.clock) c.line_level-first.ensures (search rules)

pub loop-back-init : goal.loop-back-init
loop-back-init c =
    let s = c.args.self.now in
    let l = c.args.line in
    let k = c.args.clock in
    let lines = c.len-lines.ensures in
    level_before_line s (start_of s l + k) l k _ c.line_level-first.result c.requires.fits c.requires.line c.requires.clock
    (place_is s l k c.requires.line c.requires.clock) c.line_level-first.ensures (search rules) (omega arith)

pub returns-then-is_some-2 : goal.returns-then-is_some-2
returns-then-is_some-2 c =
    let s = c.args.self.now in
    let l = c.args.line in
    let lines = c.len-lines.ensures in
    level_of_line s (start_of s l + c.args.clock) l _ c.level_of_line_before-level.result c.requires.fits c.requires.line
    (omega (arith, c.requires.line)) (omega (arith, c.requires.line)) c.level_of_line_before-level.ensures (search rules)
    c.loop-back.invariant

pub loop-back-preserved : goal.loop-back-preserved
loop-back-preserved c =
    let s = c.args.self.now in
    let l = c.args.line in
    let lines = c.len-lines.ensures in
    level_passed s (start_of s l + c.args.clock) l (l + c.len-lines.result - c.loop-back.back) _ c.level_of_line_before-level.result
    c.requires.fits c.requires.line (omega (arith, c.requires.line)) (omega (arith, c.requires.line))
    c.level_of_line_before-level.ensures (search rules) (omega arith) c.loop-back.invariant

pub returns : goal.returns
returns c =
    let s = c.args.self.now in
    let l = c.args.line in
    sym (level_none s (start_of s l + c.args.clock) l _ c.requires.line (omega arith) c.loop-back.invariant)
