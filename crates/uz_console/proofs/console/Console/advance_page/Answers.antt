use Rattle.std.proofs.Common.{◌≡◌, ◌<◌, ◌≤◌, [], ◌∷◌, ◌++◌, ◌∙◌, ap, arith, length, subst, sym}
use Rattle.uz_core.specs.Run.{edges_until}
use Rattle.uz_console.specs.Consoles.{clock_of}
use Rattle.uz_console.specs.Runs.{AreTimed}
use Rattle.uz_console.proofs.EdgeTimes.{page_timed_on, timed_later}
use Rattle.uz_console.proofs.PageLemmas.{page_begins, page_more}
use Rattle.uz_console.proofs.RunLemmas.{ends, goes_on_quietly, stops}
use Rattle.uz_console.proofs.console.Console.advance_page.Goals as goal

pub loop-edges-init : goal.loop-edges-init
loop-edges-init c =
    let none : length c.clear.new.self.items ≡ 0 = ap length c.clear.ensures in
    record {
      run = page_begins c.args.limit c.args.self.now c.clear.new.self.items c.clear.ensures;
      time = omega arith;
      edges = λ s stands. subst (AreTimed (clock_of c.args.self.now) (clock_of c.args.self.now)) (sym c.clear.ensures) (omega arith);
      few = (omega (arith, none), omega (arith, none));
    }

pub loop-edges-preserved : goal.loop-edges-preserved
loop-edges-preserved c =
    let made = c.in-Edges.ensures in
    let page = c.loop-edges.page.items in
    let before : clock_of c.loop-edges.self < c.args.limit = omega arith in
    let since : clock_of c.loop-edges.self ≤ clock_of made.mid = (made.quiet).time in
    let on : clock_of made.mid < clock_of c.make_turns.new.self = made.time.0 in
    let so_far = c.loop-edges.invariant.few in
    let more = c.add_in_time.ensures.few in
    let added = c.add_in_time.ensures.added ∙ ap (λ x. page ++ edges_until c.args.limit x) c.as_slice.ensures.value in
    record {
      run = λ start edges run. page_more c.args.limit made.mid c.make_turns.new.self page c.make_turns.new.edges.items
          c.add_in_time.new.page.items made.last added ((made.quiet).before before) start edges
          ((made.quiet).run start (edges ++ page) (c.loop-edges.invariant.run start edges run));
      time = omega arith;
      edges = page_timed_on c.args.limit c.args.self.now c.loop-edges.self made.mid c.make_turns.new.self page c.make_turns.new.edges.items
          c.add_in_time.new.page.items c.loop-edges.invariant.run (made.quiet).run since made.last added c.loop-edges.invariant.edges;
      few = (omega (arith, more, so_far.0), omega (arith, more, so_far.0, so_far.1));
    }

pub loop-edges-preserved-in-Edge : goal.loop-edges-preserved-in-Edge
loop-edges-preserved-in-Edge c =
    let made = c.in-Edge.ensures in
    let page = c.loop-edges.page.items in
    let before : clock_of c.loop-edges.self < c.args.limit = omega arith in
    let since : clock_of c.loop-edges.self ≤ clock_of made.mid = (made.quiet).time in
    let on : clock_of made.mid < clock_of c.make_turns.new.self = made.time.0 in
    let so_far = c.loop-edges.invariant.few in
    let more = c.add_edge.ensures.few in
    let added = c.add_edge.ensures.added in
    record {
      run = λ start edges run. page_more c.args.limit made.mid c.make_turns.new.self page (c.in-Edge.edge ∷ [])
          c.add_edge.new.page.items made.last added ((made.quiet).before before) start edges
          ((made.quiet).run start (edges ++ page) (c.loop-edges.invariant.run start edges run));
      time = omega arith;
      edges = page_timed_on c.args.limit c.args.self.now c.loop-edges.self made.mid c.make_turns.new.self page (c.in-Edge.edge ∷ [])
          c.add_edge.new.page.items c.loop-edges.invariant.run (made.quiet).run since made.last added c.loop-edges.invariant.edges;
      few = (omega (arith, more, so_far.0), omega (arith, more, so_far.0, so_far.1));
    }

pub loop-edges-preserved-in-Quiet : goal.loop-edges-preserved-in-Quiet
loop-edges-preserved-in-Quiet c =
    let made = c.in-Quiet.ensures in
    let page = c.loop-edges.page.items in
    let before : clock_of c.loop-edges.self < c.args.limit = omega arith in
    let since : clock_of c.loop-edges.self ≤ clock_of made.mid = (made.quiet).time in
    let on : clock_of made.mid < clock_of c.make_turns.new.self = made.time.0 in
    let so_far = c.loop-edges.invariant.few in
    record {
      run = λ start edges run. goes_on_quietly made.mid c.make_turns.new.self c.args.limit made.last ((made.quiet).before before) start
          (edges ++ page) ((made.quiet).run start (edges ++ page) (c.loop-edges.invariant.run start edges run));
      time = omega arith;
      edges = λ s stands. timed_later (clock_of c.args.self.now) (clock_of c.loop-edges.self) (clock_of c.make_turns.new.self) page
          (omega arith) (c.loop-edges.invariant.edges s stands);
      few = (omega (arith, so_far.0), so_far.1);
    }

pub returns-in-Stopped-clause-run : goal.returns-in-Stopped-clause-run
returns-in-Stopped-clause-run c =
    let made = c.in-Stopped.ensures in
    let page = c.loop-edges.page.items in
    let before : clock_of c.loop-edges.self < c.args.limit = omega arith in
    λ start edges run. stops made.mid c.make_turns.new.self c.args.limit c.in-Stopped.why made.last.0 made.last.1
    ((made.quiet).before before) start (edges ++ page) ((made.quiet).run start (edges ++ page)
    (c.loop-edges.invariant.run start edges run))

pub returns-clause-run : goal.returns-clause-run
returns-clause-run c =
    let page = c.loop-edges.page.items in
    let over : c.args.limit ≤ clock_of c.loop-edges.self = omega arith in
    λ start edges run. ends c.loop-edges.self c.args.limit over start (edges ++ page) (c.loop-edges.invariant.run start edges run)

pub loop-edges-smaller : goal.loop-edges-smaller
loop-edges-smaller c =
    let made = c.in-Edges.ensures in
    let before : clock_of c.loop-edges.self < c.args.limit = omega arith in
    let since : clock_of c.loop-edges.self ≤ clock_of made.mid = (made.quiet).time in
    let on : clock_of made.mid < clock_of c.make_turns.new.self = made.time.0 in
    omega arith

pub loop-edges-smaller-in-Edge : goal.loop-edges-smaller-in-Edge
loop-edges-smaller-in-Edge c =
    let made = c.in-Edge.ensures in
    let before : clock_of c.loop-edges.self < c.args.limit = omega arith in
    let since : clock_of c.loop-edges.self ≤ clock_of made.mid = (made.quiet).time in
    let on : clock_of made.mid < clock_of c.make_turns.new.self = made.time.0 in
    omega arith

pub loop-edges-smaller-in-Quiet : goal.loop-edges-smaller-in-Quiet
loop-edges-smaller-in-Quiet c =
    let made = c.in-Quiet.ensures in
    let before : clock_of c.loop-edges.self < c.args.limit = omega arith in
    let since : clock_of c.loop-edges.self ≤ clock_of made.mid = (made.quiet).time in
    let on : clock_of made.mid < clock_of c.make_turns.new.self = made.time.0 in
    omega arith

pub returns-in-Stopped-clause-time : goal.returns-in-Stopped-clause-time
returns-in-Stopped-clause-time c =
    let made = c.in-Stopped.ensures in
    let since : clock_of c.loop-edges.self ≤ clock_of made.mid = (made.quiet).time in
    let same = made.time in
    omega arith

pub returns-in-Stopped-clause-edges : goal.returns-in-Stopped-clause-edges
returns-in-Stopped-clause-edges c =
    let made = c.in-Stopped.ensures in
    let since : clock_of c.loop-edges.self ≤ clock_of made.mid = (made.quiet).time in
    let same = made.time in
    λ s stands. timed_later (clock_of c.args.self.now) (clock_of c.loop-edges.self) (clock_of c.make_turns.new.self)
    c.loop-edges.page.items (omega (arith, since, same)) (c.loop-edges.invariant.edges s stands)

pub returns-in-Stopped-clause-few : goal.returns-in-Stopped-clause-few
returns-in-Stopped-clause-few c =
    let made = c.in-Stopped.ensures in
    let since : clock_of c.loop-edges.self ≤ clock_of made.mid = (made.quiet).time in
    let same = made.time in
    let so_far = c.loop-edges.invariant.few in
    (omega (arith, since, same, so_far.0), so_far.1)
