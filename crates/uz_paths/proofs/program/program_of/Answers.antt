use Rattle.std.proofs.Common.{◌∙◌, ◌∷◌, ◌-◌, ap, refl, sym, arith}
use Rattle.std.specs.Prelude.{Some}
use Rattle.uz_schedule.specs.Instances.{entry_instance_at}
use Rattle.uz_schedule.specs.Schedule.{length_of}
use Rattle.uz_paths.specs.ProgramOf.{first_states}
use Rattle.uz_paths.proofs.ProgramLemmas.{program_fits, program_starts}
use Rattle.uz_paths.proofs.Starts.{is_entry}
use Rattle.uz_paths.proofs.program.program_of.Goals as goal

pub frame_of-requires : goal.frame_of-requires
frame_of-requires c = c.requires.lengths.below

pub overflow_sub-size : goal.overflow_sub-size
overflow_sub-size c = let some = c.requires.fits.some in omega (arith, some)

pub returns-clause-fits : goal.returns-clause-fits
returns-clause-fits c =
    program_fits c.args.hints.now c.args.reading _ (c.args.reading.size.lines - 1) c.requires.fits refl c.in-Ok-frame_of.ensures.lines
    c.in-Ok-frame_of.ensures.fall c.requires.lengths c.in-Ok-frame_of.ensures.lengths
    (c.from_vec.ensures ∙ (c.in-Ok-starts_of.ensures ∙ (λ i. entry_instance_at (c.start_entry-entry.ensures i) 1
    ∷ first_states (c.start_entry-entry.ensures i).kind c.args.reading.head.irq (c.last_clock-top.ensures i) c.args.reading.firsts.items)))

pub returns-clause-program : goal.returns-clause-program
returns-clause-program c = λ image irq reading. record {
  start = c.args.reading.start;
  starts_at = reading.start;
  head = reading.head;
  size = reading.size ∙ (λ i. Some (record { lines = sym c.in-Ok-frame_of.ensures.lines i; fall = sym c.in-Ok-frame_of.ensures.fall i }));
  lengths = c.in-Ok-frame_of.ensures.lengths;
  facts = c.in-Ok.ensures;
  starts = program_starts c.args.hints.now irq c.args.reading _ _ _ reading
      (ap (λ n. n - 1) (ap (λ n. length_of c.in-Ok-frame_of.schedule (n - 1)) (sym c.in-Ok-frame_of.ensures.lines)
      ∙ c.in-Ok-frame_of.ensures.lengths _))
      (c.from_vec.ensures ∙ (c.in-Ok-starts_of.ensures ∙ (λ i. entry_instance_at (c.start_entry-entry.ensures i) 1
      ∷ first_states (c.start_entry-entry.ensures i).kind c.args.reading.head.irq (c.last_clock-top.ensures i)
      c.args.reading.firsts.items)));
}

pub returns-clause-start : goal.returns-clause-start
returns-clause-start c =
    is_entry c.args.reading _ _ _ c.requires.fits refl c.start_entry-entry.ensures
    (c.from_vec.ensures ∙ (c.in-Ok-starts_of.ensures ∙ ap (λ e. entry_instance_at e 1 ∷ first_states e.kind c.args.reading.head.irq
    c.last_clock-top.result c.args.reading.firsts.items) c.start_entry-entry.ensures))
