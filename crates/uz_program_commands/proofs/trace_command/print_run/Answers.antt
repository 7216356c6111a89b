use Rattle.std.proofs.Common.{◌≤◌, subst, arith}
use Rattle.uz_shelf.specs.Text.{TakesAll, TakesPrefix}
use Rattle.uz_program_commands.specs.TraceCommand.{edge_lines}
use Rattle.uz_program_commands.proofs.TraceLemmas.{goes_on, is_cut, prints_over, prints_stopped}
use Rattle.uz_program_commands.proofs.trace_command.print_run.Goals as goal

pub turns-preserved : goal.turns-preserved
turns-preserved g c =
    let piece = subst (λ e. TakesAll (g.K.Sink.text c.turns.out) (edge_lines e) (g.K.Sink.text c.put_lines.new.out))
    c.as_slice.ensures.value c.in-Ok.ensures.ok in
    let faults : g.K.Sink.faults c.args.out.now ≤ g.K.Sink.faults c.put_lines.new.out =
    omega (arith, c.turns.invariant.faults, c.put_lines.ensures.faults) in
    record {
      printed = λ start run. goes_on c.args.limit start c.turns.console c.advance_page-paged.new.self c.advance_page-paged.new.page.items
          _ _ _ (c.turns.invariant.printed start run) c.in-Full.ensures.run piece;
      faults = faults;
    }

pub returns-in-Err-clause-err : goal.returns-in-Err-clause-err
returns-in-Err-clause-err g c =
    let piece = subst (λ e. TakesPrefix (g.K.Sink.text c.turns.out) (edge_lines e) (g.K.Sink.text c.put_lines.new.out))
    c.as_slice.ensures.value c.in-Err.ensures.err in
    λ start run. is_cut c.args.limit start c.turns.console c.advance_page-paged.new.self c.advance_page-paged.new.page.items
    c.advance_page-paged.result _ _ _ (c.turns.invariant.printed start run) c.advance_page-paged.ensures.run piece

pub returns-in-Over-clause-ok : goal.returns-in-Over-clause-ok
returns-in-Over-clause-ok g c =
    let piece = subst (λ e. TakesAll (g.K.Sink.text c.turns.out) (edge_lines e) (g.K.Sink.text c.put_lines.new.out))
    c.as_slice.ensures.value c.in-Ok.ensures.ok in
    λ start run. prints_over c.args.limit start c.turns.console c.advance_page-paged.new.self c.advance_page-paged.new.page.items _ _ _
    (c.turns.invariant.printed start run) c.in-Over.ensures.run piece

pub returns-in-Stopped-clause-ok : goal.returns-in-Stopped-clause-ok
returns-in-Stopped-clause-ok g c =
    let piece = subst (λ e. TakesAll (g.K.Sink.text c.turns.out) (edge_lines e) (g.K.Sink.text c.put_lines.new.out))
    c.as_slice.ensures.value c.in-Ok.ensures.ok in
    λ start run. prints_stopped c.args.limit start c.turns.console c.advance_page-paged.new.self c.advance_page-paged.new.page.items
    c.pc.result c.in-Stopped.why _ _ _ (c.turns.invariant.printed start run) c.in-Stopped.ensures.run c.pc.ensures.stands piece
