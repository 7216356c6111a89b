use Rattle.std.proofs.Common.{[], refl, ◌++◌}
use Rattle.std.specs.Prelude.{None}
use Rattle.uz_player.proofs.CaptureLaws.{captured_over, captured_stopped}
use Rattle.uz_certificate_commands.proofs.demo_run.next_end.Goals as goal

pub returns-in-Row-clause-goes : goal.returns-in-Row-clause-goes
returns-in-Row-clause-goes c = λ start handed p. (handed ++ c.in-Row.field-0, c.in-Row.ensures.next start handed p)

pub returns-in-End-clause-goes : goal.returns-in-End-clause-goes
returns-in-End-clause-goes c = λ start handed p. (handed ++ c.in-End.field-0, c.in-End.ensures.next start handed p)

pub returns-in-Over-clause-goes : goal.returns-in-Over-clause-goes
returns-in-Over-clause-goes c = λ start handed p.
    captured_over c.args.player.now c.advance.new.self _ _ start None None [] refl refl c.in-Over.ensures.next (handed, p, refl)

pub returns-in-Stopped-clause-goes : goal.returns-in-Stopped-clause-goes
returns-in-Stopped-clause-goes c = λ start handed p.
    captured_stopped c.args.player.now c.advance.new.self _ _ c.in-Stopped.pc c.in-Stopped.word start None None [] refl refl
    c.in-Stopped.ensures.next (handed, p, refl)
