use Rattle.std.proofs.Common.{◌<◌, ◌≤◌, [], ◌∷◌, ◌∙◌, ap, refl, arith}
use Rattle.uz_core.specs.Run.{edges_until}
use Rattle.uz_console.specs.Consoles.{clock_of}
use Rattle.uz_console.proofs.ApproachLemmas.{enters, never_over, never_stopped, unentered_more, unentered_quietly}
use Rattle.uz_console.proofs.EdgeTimes.{timed_on}
use Rattle.uz_console.proofs.RunLemmas.{goes_on_quietly}
use Rattle.uz_console.proofs.console.Console.approach.Goals as goal

pub returns-in-Some-clause-run : goal.returns-in-Some-clause-run
returns-in-Some-clause-run c =
    let before : clock_of c.loop-edges.self < c.args.limit = omega arith in
    λ fits start edges run.
    let here = c.loop-edges.invariant.unentered fits start edges run in
    (here, enters c.args.cert.now c.loop-edges.self c.args.limit c.in-Some.position before c.in-Some.ensures.first start edges here)

pub loop-edges-preserved : goal.loop-edges-preserved
loop-edges-preserved c =
    let made = c.in-Quiet.ensures in
    let before : clock_of c.loop-edges.self < c.args.limit = omega arith in
    let there : clock_of made.mid < c.args.limit = (made.quiet).before before in
    let since : clock_of c.loop-edges.self ≤ clock_of made.mid = (made.quiet).time in
    let on : clock_of made.mid < clock_of c.make_turns.new.self = made.time.0 in
    record {
      run = λ start edges run. goes_on_quietly made.mid c.make_turns.new.self c.args.limit made.last there start edges
          ((made.quiet).run start edges (c.loop-edges.invariant.run start edges run));
      unentered = λ fits start edges run.
          let not = c.in_default.ensures.none fits in
          unentered_quietly c.args.cert.now made.mid c.make_turns.new.self c.args.limit made.last there
          ((made.quiet).unmet c.args.cert.now refl not) start edges ((made.quiet).unentered c.args.cert.now refl not start edges
          (c.loop-edges.invariant.unentered fits start edges run));
      time = omega arith;
    }

pub loop-edges-smaller : goal.loop-edges-smaller
loop-edges-smaller c =
    let made = c.in-Quiet.ensures in
    let since : clock_of c.loop-edges.self ≤ clock_of made.mid = (made.quiet).time in
    let on : clock_of made.mid < clock_of c.make_turns.new.self = made.time.0 in
    omega arith

pub returns-in-Edge-clause-run : goal.returns-in-Edge-clause-run
returns-in-Edge-clause-run c =
    let made = c.in-Edge.ensures in
    let before : clock_of c.loop-edges.self < c.args.limit = omega arith in
    λ fits start edges run.
    let not = c.in_default.ensures.none fits in
    unentered_more c.args.cert.now made.mid c.make_turns.new.self c.args.limit (c.in-Edge.edge ∷ []) c.in_time.result.items made.last
    (c.in_time.ensures ∙ ap (edges_until c.args.limit) c.put.ensures) ((made.quiet).before before) ((made.quiet).unmet c.args.cert.now refl not) start edges
    ((made.quiet).unentered c.args.cert.now refl not start edges (c.loop-edges.invariant.unentered fits start edges run))

pub returns-in-Edge-clause-edges : goal.returns-in-Edge-clause-edges
returns-in-Edge-clause-edges c =
    let made = c.in-Edge.ensures in
    let since : clock_of c.loop-edges.self ≤ clock_of made.mid = (made.quiet).time in
    timed_on c.args.self.now made.mid c.make_turns.new.self c.args.limit (c.in-Edge.edge ∷ []) c.in_time.result.items
    (λ start edges run. (made.quiet).run start edges (c.loop-edges.invariant.run start edges run)) (omega arith) made.last
    (c.in_time.ensures ∙ ap (edges_until c.args.limit) c.put.ensures)

pub returns-in-Edge-clause-time : goal.returns-in-Edge-clause-time
returns-in-Edge-clause-time c =
    let made = c.in-Edge.ensures in
    let since : clock_of c.loop-edges.self ≤ clock_of made.mid = (made.quiet).time in
    let on : clock_of made.mid < clock_of c.make_turns.new.self = made.time.0 in
    (omega arith, omega arith)

pub returns-in-Edges-clause-run : goal.returns-in-Edges-clause-run
returns-in-Edges-clause-run c =
    let made = c.in-Edges.ensures in
    let before : clock_of c.loop-edges.self < c.args.limit = omega arith in
    λ fits start edges run.
    let not = c.in_default.ensures.none fits in
    unentered_more c.args.cert.now made.mid c.make_turns.new.self c.args.limit c.make_turns.new.edges.items c.in_time-in-Edges.result.items made.last
    c.in_time-in-Edges.ensures ((made.quiet).before before) ((made.quiet).unmet c.args.cert.now refl not) start edges
    ((made.quiet).unentered c.args.cert.now refl not start edges (c.loop-edges.invariant.unentered fits start edges run))

pub returns-in-Edges-clause-edges : goal.returns-in-Edges-clause-edges
returns-in-Edges-clause-edges c =
    let made = c.in-Edges.ensures in
    let since : clock_of c.loop-edges.self ≤ clock_of made.mid = (made.quiet).time in
    timed_on c.args.self.now made.mid c.make_turns.new.self c.args.limit c.make_turns.new.edges.items c.in_time-in-Edges.result.items
    (λ start edges run. (made.quiet).run start edges (c.loop-edges.invariant.run start edges run)) (omega arith) made.last
    c.in_time-in-Edges.ensures

pub returns-in-Edges-clause-time : goal.returns-in-Edges-clause-time
returns-in-Edges-clause-time c =
    let made = c.in-Edges.ensures in
    let since : clock_of c.loop-edges.self ≤ clock_of made.mid = (made.quiet).time in
    let on : clock_of made.mid < clock_of c.make_turns.new.self = made.time.0 in
    (omega arith, omega arith)

pub returns-in-Stopped-clause-run : goal.returns-in-Stopped-clause-run
returns-in-Stopped-clause-run c =
    let made = c.in-Stopped.ensures in
    let before : clock_of c.loop-edges.self < c.args.limit = omega arith in
    λ fits start edges run.
    let not = c.in_default.ensures.none fits in
    never_stopped c.args.cert.now made.mid c.make_turns.new.self c.args.limit c.in-Stopped.why made.last.0 made.last.1
    ((made.quiet).before before) ((made.quiet).unmet c.args.cert.now refl not) start edges
    ((made.quiet).unentered c.args.cert.now refl not start edges (c.loop-edges.invariant.unentered fits start edges run))

pub returns-in-Stopped-clause-time : goal.returns-in-Stopped-clause-time
returns-in-Stopped-clause-time c =
    let made = c.in-Stopped.ensures in
    let since : clock_of c.loop-edges.self ≤ clock_of made.mid = (made.quiet).time in
    let same = made.time in
    omega arith

pub returns-clause-run : goal.returns-clause-run
returns-clause-run c =
    let over : c.args.limit ≤ clock_of c.loop-edges.self = omega arith in
    λ fits start edges run. never_over c.args.cert.now c.loop-edges.self c.args.limit over start edges
    (c.loop-edges.invariant.unentered fits start edges run)
