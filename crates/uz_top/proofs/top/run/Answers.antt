use Rattle.std.proofs.Common.{ap, inr, subst, sym}
use Rattle.uz_top.specs.CommandValues.{value_of}
use Rattle.uz_top.specs.Commands.{Certifies, CreatesNone}
use Rattle.uz_top.specs.Words.{WritesApart}
use Rattle.uz_top.proofs.CommandLemmas.{outcome_at, outcome_wider, prints_outcome}
use Rattle.uz_top.proofs.top.run.Goals as goal

pub returns-in-Check-clause-outcome : goal.returns-in-Check-clause-outcome
returns-in-Check-clause-outcome g c = outcome_at (value_of c.args.command.now) _ _ _ _ _ _ _ (ap value_of c.in-Check.is)
    c.run_on_pair.ensures.outcome

pub returns-in-Dis-clause-outcome : goal.returns-in-Dis-clause-outcome
returns-in-Dis-clause-outcome g c = outcome_at (value_of c.args.command.now) _ _ _ _ _ _ _ (ap value_of c.in-Dis.is)
    c.run_dis.ensures.outcome

pub returns-in-Trace-clause-outcome : goal.returns-in-Trace-clause-outcome
returns-in-Trace-clause-outcome g c = outcome_at (value_of c.args.command.now) _ _ _ _ _ _ _ (ap value_of c.in-Trace.is)
    c.run_trace.ensures.outcome

pub returns-in-Debug-clause-outcome : goal.returns-in-Debug-clause-outcome
returns-in-Debug-clause-outcome g c = outcome_at (value_of c.args.command.now) _ _ _ _ _ _ _ (ap value_of c.in-Debug.is)
    c.run_debug.ensures.outcome

pub returns-in-Asm-clause-outcome : goal.returns-in-Asm-clause-outcome
returns-in-Asm-clause-outcome g c = outcome_at (value_of c.args.command.now) _ _ _ _ _ _ _ (ap value_of c.in-Asm.is)
    c.run_asm.ensures.outcome

pub returns-in-Asm-clause-untouched : goal.returns-in-Asm-clause-untouched
returns-in-Asm-clause-untouched g c = λ none. absurd (subst CreatesNone (ap value_of c.in-Asm.is) none)

pub returns-in-Expand-clause-outcome : goal.returns-in-Expand-clause-outcome
returns-in-Expand-clause-outcome g c = outcome_at (value_of c.args.command.now) _ _ _ _ _ _ _ (ap value_of c.in-Expand.is)
    c.run_expand.ensures.outcome

pub returns-in-Expand-clause-untouched : goal.returns-in-Expand-clause-untouched
returns-in-Expand-clause-untouched g c = λ none. absurd (subst CreatesNone (ap value_of c.in-Expand.is) none)

pub returns-in-Build-clause-outcome : goal.returns-in-Build-clause-outcome
returns-in-Build-clause-outcome g c = outcome_at (value_of c.args.command.now) _ _ _ _ _ _ _ (ap value_of c.in-Build.is)
    c.run_build.ensures.outcome

pub returns-in-Build-clause-untouched : goal.returns-in-Build-clause-untouched
returns-in-Build-clause-untouched g c = λ none. absurd (subst CreatesNone (ap value_of c.in-Build.is) none)

pub returns-in-Play-clause-outcome : goal.returns-in-Play-clause-outcome
returns-in-Play-clause-outcome g c = outcome_at (value_of c.args.command.now) _ _ _ _ _ _ _ (ap value_of c.in-Play.is)
    c.run_play.ensures.outcome

pub returns-in-Play-clause-untouched : goal.returns-in-Play-clause-untouched
returns-in-Play-clause-untouched g c = λ none. absurd (subst CreatesNone (ap value_of c.in-Play.is) none)

pub returns-in-Certify-clause-outcome : goal.returns-in-Certify-clause-outcome
returns-in-Certify-clause-outcome g c = outcome_at (value_of c.args.command.now) _ _ _ _ _ _ _ (ap value_of c.in-Certify.is)
    c.run_certify.ensures.outcome

pub returns-in-Certify-clause-untouched : goal.returns-in-Certify-clause-untouched
returns-in-Certify-clause-untouched g c = λ none. absurd (subst CreatesNone (ap value_of c.in-Certify.is) none)

pub returns-in-Asm-clause-certified : goal.returns-in-Asm-clause-certified
returns-in-Asm-clause-certified g c = λ done apart.
    subst (Certifies (g.H.Shelf.files c.args.shelf.now) (g.H.Shelf.files c.run_asm.new.shelf)) (sym (ap value_of c.in-Asm.is))
    (c.run_asm.ensures.assembled done)

pub returns-in-Build-clause-certified : goal.returns-in-Build-clause-certified
returns-in-Build-clause-certified g c = λ done apart.
    subst (Certifies (g.H.Shelf.files c.args.shelf.now) (g.H.Shelf.files c.run_build.new.shelf)) (sym (ap value_of c.in-Build.is))
    (c.run_build.ensures.built done)

pub returns-in-Certify-clause-certified : goal.returns-in-Certify-clause-certified
returns-in-Certify-clause-certified g c = λ done apart.
    let same = ap value_of c.in-Certify.is in
    subst (Certifies (g.H.Shelf.files c.args.shelf.now) (g.H.Shelf.files c.run_certify.new.shelf)) (sym same)
    (c.run_certify.ensures.certified done (subst WritesApart same apart))

pub returns-in-Demo-clause-outcome : goal.returns-in-Demo-clause-outcome
returns-in-Demo-clause-outcome g c =
    outcome_at (value_of c.args.command.now) _ _ _ _ _ _ _ (ap value_of c.in-Demo.is)
    (outcome_wider _ _ _ _ _ _ _ inr (c.run_demo.ensures.outcome (g.H.Shelf.files c.args.shelf.now)))

pub returns-in-Migrate-clause-outcome : goal.returns-in-Migrate-clause-outcome
returns-in-Migrate-clause-outcome g c = outcome_at (value_of c.args.command.now) _ _ _ _ _ _ _ (ap value_of c.in-Migrate.is)
    c.run_migrate.ensures.outcome

pub returns-in-Migrate-clause-untouched : goal.returns-in-Migrate-clause-untouched
returns-in-Migrate-clause-untouched g c = λ none. absurd (subst CreatesNone (ap value_of c.in-Migrate.is) none)

pub returns-in-Migrate-clause-certified : goal.returns-in-Migrate-clause-certified
returns-in-Migrate-clause-certified g c = λ done apart.
    subst (Certifies (g.H.Shelf.files c.args.shelf.now) (g.H.Shelf.files c.run_migrate.new.shelf)) (sym (ap value_of c.in-Migrate.is))
    (c.run_migrate.ensures.migrated done)

pub returns-in-Report-clause-outcome : goal.returns-in-Report-clause-outcome
returns-in-Report-clause-outcome g c = outcome_at (value_of c.args.command.now) _ _ _ _ _ _ _ (ap value_of c.in-Report.is)
    c.run_on_pair-in-Report.ensures.outcome

pub returns-in-Timing-clause-outcome : goal.returns-in-Timing-clause-outcome
returns-in-Timing-clause-outcome g c = outcome_at (value_of c.args.command.now) _ _ _ _ _ _ _ (ap value_of c.in-Timing.is)
    c.run_on_pair-in-Timing.ensures.outcome

pub returns-in-Wave-clause-outcome : goal.returns-in-Wave-clause-outcome
returns-in-Wave-clause-outcome g c = outcome_at (value_of c.args.command.now) _ _ _ _ _ _ _ (ap value_of c.in-Wave.is)
    c.run_wave.ensures.outcome

pub returns-in-Wave-clause-untouched : goal.returns-in-Wave-clause-untouched
returns-in-Wave-clause-untouched g c = λ none. absurd (subst CreatesNone (ap value_of c.in-Wave.is) none)

pub returns-in-Wave-clause-certified : goal.returns-in-Wave-clause-certified
returns-in-Wave-clause-certified g c = λ done apart.
    subst (Certifies (g.H.Shelf.files c.args.shelf.now) (g.H.Shelf.files c.run_wave.new.shelf)) (sym (ap value_of c.in-Wave.is))
    (c.run_wave.ensures.heard done)

pub returns-in-Prints-clause-outcome : goal.returns-in-Prints-clause-outcome
returns-in-Prints-clause-outcome g c =
    prints_outcome (value_of c.args.command.now) c.in-Prints.text.now _ _ _ _ _ _ _ _ (ap value_of c.in-Prints.is) inr
    c.as_bytes.ensures.value (c.end_done.ensures.comes (g.H.Shelf.files c.args.shelf.now))

pub returns-in-Find-clause-outcome : goal.returns-in-Find-clause-outcome
returns-in-Find-clause-outcome g c = outcome_at (value_of c.args.command.now) _ _ _ _ _ _ _ (ap value_of c.in-Find.is)
    c.run_find.ensures.outcome

pub returns-in-Find-clause-untouched : goal.returns-in-Find-clause-untouched
returns-in-Find-clause-untouched g c = λ none. absurd (subst CreatesNone (ap value_of c.in-Find.is) none)

pub returns-in-Find-clause-certified : goal.returns-in-Find-clause-certified
returns-in-Find-clause-certified g c = λ done apart.
    subst (Certifies (g.H.Shelf.files c.args.shelf.now) (g.H.Shelf.files c.run_find.new.shelf)) (sym (ap value_of c.in-Find.is))
    (c.run_find.ensures.certified done)

pub returns-in-Hints-clause-outcome : goal.returns-in-Hints-clause-outcome
returns-in-Hints-clause-outcome g c = outcome_at (value_of c.args.command.now) _ _ _ _ _ _ _ (ap value_of c.in-Hints.is)
    c.run_hints.ensures.outcome

pub returns-in-Hints-clause-untouched : goal.returns-in-Hints-clause-untouched
returns-in-Hints-clause-untouched g c = λ none. absurd (subst CreatesNone (ap value_of c.in-Hints.is) none)

pub returns-in-Hints-clause-certified : goal.returns-in-Hints-clause-certified
returns-in-Hints-clause-certified g c = λ done apart.
    subst (Certifies (g.H.Shelf.files c.args.shelf.now) (g.H.Shelf.files c.run_hints.new.shelf)) (sym (ap value_of c.in-Hints.is))
    (c.run_hints.ensures.hinted done)

pub returns-in-Why-clause-outcome : goal.returns-in-Why-clause-outcome
returns-in-Why-clause-outcome g c = outcome_at (value_of c.args.command.now) _ _ _ _ _ _ _ (ap value_of c.in-Why.is)
    c.run_why.ensures.outcome

pub returns-in-Why-clause-certified : goal.returns-in-Why-clause-certified
returns-in-Why-clause-certified g c = λ done apart.
    subst (Certifies (g.H.Shelf.files c.args.shelf.now) (g.H.Shelf.files c.run_why.new.shelf)) (sym (ap value_of c.in-Why.is))
    (c.run_why.ensures.certified done)
