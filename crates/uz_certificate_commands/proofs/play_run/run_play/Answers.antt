use Rattle.std.proofs.Common.{◌⊎◌, inl, inr, subst}
use Rattle.uz_shelf.specs.Faults.{Rose}
use Rattle.uz_certificate_commands.specs.PlayValues.{IsStart}
use Rattle.uz_files.specs.RunFiles.{start_of}
use Rattle.uz_files.proofs.FaultLemmas.{rose_same}
use Rattle.uz_certificate_commands.proofs.PlayLemmas.{play_failed, play_refused, play_runs}
use Rattle.uz_certificate_commands.proofs.PlayWorthLemmas.{is_halted, is_played}
use Rattle.uz_certificate_commands.proofs.RunWorthLemmas.{failed_not_done, failed_not_stopped, refused_not_done}
use Rattle.uz_certificate_commands.proofs.RunWorthLemmas.{refused_not_stopped}
use Rattle.uz_certificate_commands.proofs.play_run.run_play.Goals as goal

pub returns-in-Err-clause-outcome : goal.returns-in-Err-clause-outcome
returns-in-Err-clause-outcome g c =
    play_failed _ _ _ _ _ c.args.run.now.hex.now c.args.run.now.cert.now c.args.run.now.pads.now c.args.run.now.clocks.count
    c.args.frames.now
    c.in-Err.failure
    c.give_up.result _ _
    c.start_play.ensures.files inr c.in-Err.ensures.fails c.give_up.ensures.comes

pub returns-in-Err-clause-played : goal.returns-in-Err-clause-played
returns-in-Err-clause-played g c = failed_not_done _ c.in-Err.failure c.give_up.result _ _ _
    (c.give_up.ensures.comes (g.H.Shelf.files c.args.shelf.now))

pub returns-in-Err-clause-halted : goal.returns-in-Err-clause-halted
returns-in-Err-clause-halted g c = failed_not_stopped _ c.in-Err.failure c.give_up.result _ _ _
    (c.give_up.ensures.comes (g.H.Shelf.files c.args.shelf.now))

pub returns-in-Ready-clause-outcome : goal.returns-in-Ready-clause-outcome
returns-in-Ready-clause-outcome g c =
    let ready = subst (IsStart (g.H.Shelf.files c.args.shelf.now) c.args.run.now.hex.now c.args.run.now.cert.now c.args.run.now.pads.now)
    c.in-Ready.is
    c.in-Ok.ensures.starts in
    play_runs (g.H.Shelf.files c.args.shelf.now) (g.H.Shelf.files c.start_play.new.shelf) (g.H.Shelf.files c.play_on.new.shelf) _
    (Rose (g.H.Shelf.write_faults c.start_play.new.shelf) (g.H.Shelf.write_faults c.play_on.new.shelf)
    ⊎ Rose (g.K.Sink.faults c.args.out.now) (g.K.Sink.faults c.play_on.new.out))
    (Rose (g.H.Shelf.write_faults c.args.shelf.now) (g.H.Shelf.write_faults c.play_on.new.shelf) ⊎ Rose (g.K.Sink.faults c.args.out.now)
    (g.K.Sink.faults c.play_on.new.out))
    c.args.run.now.hex.now c.args.run.now.cert.now c.args.run.now.pads.now c.args.run.now.clocks.count c.args.frames.now c.in-Ready.console
    c.in-Ready.cert
    c.play_on.result
    _ _
    c.start_play.ensures.files
    (λ fault. elim fault [
      | inl rose ↦ inl (rose_same (g.H.Shelf.write_faults c.args.shelf.now) (g.H.Shelf.write_faults c.start_play.new.shelf)
          (g.H.Shelf.write_faults c.play_on.new.shelf) c.start_play.ensures.write_faults rose)
      | inr rose ↦ inr rose
    ])
    ready (c.play_on.ensures.outcome (start_of ready.image ready.list c.in-Ready.cert.head.irq) ready.stands)

pub returns-in-Ready-clause-played : goal.returns-in-Ready-clause-played
returns-in-Ready-clause-played g c =
    let ready = subst (IsStart (g.H.Shelf.files c.args.shelf.now) c.args.run.now.hex.now c.args.run.now.cert.now c.args.run.now.pads.now)
    c.in-Ready.is
    c.in-Ok.ensures.starts in
    is_played (g.H.Shelf.files c.args.shelf.now) c.args.run.now.hex.now c.args.run.now.cert.now c.args.run.now.pads.now c.args.frames.now
    c.args.run.now.clocks.count
    c.in-Ready.console c.in-Ready.cert ready _ c.play_on.result _ _
    (c.play_on.ensures.outcome (start_of ready.image ready.list c.in-Ready.cert.head.irq) ready.stands) c.played_runs_keep.ensures.keeps

pub returns-in-Ready-clause-halted : goal.returns-in-Ready-clause-halted
returns-in-Ready-clause-halted g c =
    let ready = subst (IsStart (g.H.Shelf.files c.args.shelf.now) c.args.run.now.hex.now c.args.run.now.cert.now c.args.run.now.pads.now)
    c.in-Ready.is
    c.in-Ok.ensures.starts in
    is_halted (g.H.Shelf.files c.args.shelf.now) c.args.run.now.hex.now c.args.run.now.cert.now c.args.run.now.pads.now c.args.frames.now
    c.args.run.now.clocks.count
    c.in-Ready.console c.in-Ready.cert ready _ c.play_on.result _ _
    (c.play_on.ensures.outcome (start_of ready.image ready.list c.in-Ready.cert.head.irq) ready.stands)
    c.played_runs_keep.ensures.never_stops

pub returns-in-Refused-clause-outcome : goal.returns-in-Refused-clause-outcome
returns-in-Refused-clause-outcome g c =
    let refused = subst (IsStart (g.H.Shelf.files c.args.shelf.now) c.args.run.now.hex.now c.args.run.now.cert.now c.args.run.now.pads.now)
    c.in-Refused.is
    c.in-Ok.ensures.starts in
    play_refused (g.H.Shelf.files c.args.shelf.now) (g.H.Shelf.files c.start_play.new.shelf) (Rose (g.H.Shelf.load_faults c.args.shelf.now)
    (g.H.Shelf.load_faults c.start_play.new.shelf))
    (Rose (g.K.Sink.faults c.args.out.now) (g.K.Sink.faults c.end_with.new.out))
    (Rose (g.H.Shelf.write_faults c.args.shelf.now) (g.H.Shelf.write_faults c.start_play.new.shelf) ⊎ Rose (g.K.Sink.faults c.args.out.now)
    (g.K.Sink.faults c.end_with.new.out)) c.args.run.now.hex.now c.args.run.now.cert.now c.args.run.now.pads.now c.args.run.now.clocks.count
    c.args.frames.now
    c.in-Refused.ending c.end_with.result _ _
    c.start_play.ensures.files inr refused c.end_with.ensures.comes

pub returns-in-Refused-clause-played : goal.returns-in-Refused-clause-played
returns-in-Refused-clause-played g c =
    let refused = subst (IsStart (g.H.Shelf.files c.args.shelf.now) c.args.run.now.hex.now c.args.run.now.cert.now c.args.run.now.pads.now)
    c.in-Refused.is
    c.in-Ok.ensures.starts in
    refused_not_done _ c.in-Refused.ending c.end_with.result _ _ _ refused.status
    (c.end_with.ensures.comes (g.H.Shelf.files c.args.shelf.now))

pub returns-in-Refused-clause-halted : goal.returns-in-Refused-clause-halted
returns-in-Refused-clause-halted g c =
    let refused = subst (IsStart (g.H.Shelf.files c.args.shelf.now) c.args.run.now.hex.now c.args.run.now.cert.now c.args.run.now.pads.now)
    c.in-Refused.is
    c.in-Ok.ensures.starts in
    refused_not_stopped _ c.in-Refused.ending c.end_with.result _ _ _ refused.status
    (c.end_with.ensures.comes (g.H.Shelf.files c.args.shelf.now))
