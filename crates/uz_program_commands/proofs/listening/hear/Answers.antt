use Rattle.std.proofs.Common.{sym, subst, ◌+◌, ◌<◌, ◌++◌, length, take, drop, arith}
use Rattle.std.proofs.lemmas.List.{take_all}
use Rattle.uz_core.specs.declared.machine.Edge.{Edge}
use Rattle.uz_core.specs.declared.machine.EdgeKind.TheVariants.{Sync}
use Rattle.uz_console.specs.Runs.{AreTimed}
use Rattle.uz_report.specs.Waves.{Holds}
use Rattle.uz_scan.specs.Pictures.{NeverFalls, newest_first}
use Rattle.uz_scan.proofs.PictureLaws.{never_falls_more}
use Rattle.uz_program_commands.proofs.HearingLemmas.{one_edge_on, timed_more}
use Rattle.uz_program_commands.proofs.listening.hear.Goals as goal

-- what the loop reads past the list's end, where it never reads
no_edge : Edge
no_edge = record { clock = 0; kind = Sync 0 }

pub loop-edge-preserved : goal.loop-edge-preserved
unfolding no_edge
loop-edge-preserved c =
    let edges = c.args.edges.now in
    let i = c.loop-edge.edge-index in
    let within : i < length edges = omega arith in
    record {
      heard = λ before holds. subst (Holds c.edge.new.self) (sym (one_edge_on before edges i no_edge within))
          (c.in_ok-edge.ensures.ok (newest_first (before ++ take i edges)) (c.loop-edge.invariant.heard before holds));
      falls = subst (λ x. NeverFalls x (drop (i + 1) edges)) (sym c.in_ok-edge.ensures.clock)
          (never_falls_more _ edges i no_edge within c.loop-edge.invariant.falls);
      timed = λ to all. subst (λ x. AreTimed x to (drop (i + 1) edges)) (sym c.in_ok-edge.ensures.clock)
          (timed_more _ to edges i no_edge within (c.loop-edge.invariant.timed to all));
    }

pub returns-clause-ok : goal.returns-clause-ok
returns-clause-ok c = λ before holds.
    subst (λ edges. Holds c.loop-edge.wave (newest_first (before ++ edges)))
    (take_all c.loop-edge.edge-index c.args.edges.now c.loop-edge-test.false) (c.loop-edge.invariant.heard before holds)
