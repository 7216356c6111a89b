use Rattle.std.proofs.Common.{refl, subst}
use Rattle.std.specs.Prelude.{None}
use Rattle.uz_files.specs.declared.ending.Ending.{Ending}
use Rattle.uz_files.specs.declared.status.Status.TheVariants.{Refused}
use Rattle.uz_certificate_commands.proofs.RunWorthLemmas.{refused_not_done, refused_not_stopped}
use Rattle.uz_certificate_commands.specs.DemoCommand.{demo_start}
use Rattle.uz_certificate_commands.specs.DemoValues.{IsSearched}
use Rattle.uz_certificate_commands.proofs.DemoLemmas.{demo_refused, demo_runs}
use Rattle.uz_certificate_commands.proofs.DemoWorthLemmas.{demo_halted, demo_played}
use Rattle.uz_certificate_commands.proofs.demo_run.run_demo.Goals as goal

pub returns-in-Ready-clause-outcome : goal.returns-in-Ready-clause-outcome
returns-in-Ready-clause-outcome g c = λ files.
    let given = c.in-Ok.ensures in
    let ready = subst (IsSearched (given.output).image (given.output).hints) c.in-Ready.is given.searched in
    demo_runs c.args.number _ c.play_demo.result _ _ c.in-Ok.start c.in-Ready.console c.in-Ready.cert c.in-Ready.line.items
    c.as_slice.result.now c.as_slice.ensures.value given ready
    (c.play_demo.ensures.outcome (demo_start (given.output).image) files ready.stands)

pub returns-in-Ready-clause-played : goal.returns-in-Ready-clause-played
returns-in-Ready-clause-played g c =
    let given = c.in-Ok.ensures in
    let ready = subst (IsSearched (given.output).image (given.output).hints) c.in-Ready.is given.searched in
    demo_played c.args.number c.in-Ok.start c.in-Ready.console c.in-Ready.cert c.in-Ready.line.items c.as_slice.result.now given ready _
    c.play_demo.result _ _
    (c.play_demo.ensures.outcome (demo_start (given.output).image) None ready.stands) c.soundness.ensures.certified
    c.played_runs_keep.ensures.keeps

pub returns-in-Ready-clause-halted : goal.returns-in-Ready-clause-halted
returns-in-Ready-clause-halted g c =
    let given = c.in-Ok.ensures in
    let ready = subst (IsSearched (given.output).image (given.output).hints) c.in-Ready.is given.searched in
    demo_halted c.args.number c.in-Ok.start c.in-Ready.console c.in-Ready.cert c.in-Ready.line.items c.as_slice.result.now given ready _
    c.play_demo.result _ _
    (c.play_demo.ensures.outcome (demo_start (given.output).image) None ready.stands) c.soundness.ensures.certified
    c.played_runs_keep.ensures.never_stops

pub returns-in-Refusal-clause-outcome : goal.returns-in-Refusal-clause-outcome
returns-in-Refusal-clause-outcome g c = λ files.
    let given = c.in-Ok.ensures in
    let refusal = subst (IsSearched (given.output).image (given.output).hints) c.in-Refusal.is given.searched in
    let ending : Ending = record { status = Refused; line = c.in-Refusal.line } in
    demo_refused c.args.number _ c.end_with.result _ _ c.in-Ok.start ending given refusal refl (c.end_with.ensures.comes files)

pub returns-in-Refusal-clause-played : goal.returns-in-Refusal-clause-played
returns-in-Refusal-clause-played g c =
    let ending : Ending = record { status = Refused; line = c.in-Refusal.line } in
    refused_not_done _ ending c.end_with.result _ _ _ refl (c.end_with.ensures.comes None)

pub returns-in-Refusal-clause-halted : goal.returns-in-Refusal-clause-halted
returns-in-Refusal-clause-halted g c =
    let ending : Ending = record { status = Refused; line = c.in-Refusal.line } in
    refused_not_stopped _ ending c.end_with.result _ _ _ refl (c.end_with.ensures.comes None)
