use Rattle.std.proofs.Common.{sym, ◌∙◌, ap}
use Rattle.std.specs.FinMap.{empty_of_len}
use Rattle.uz_shelf.specs.Faults.{Rose}
use Rattle.avr_asm.specs.Assembly.{seen_built}
use Rattle.avr_macro.specs.Answers.{names_of}
use Rattle.uz_files.proofs.HintCount.{few_hints}
use Rattle.uz_files.specs.Answers.{one_line}
use Rattle.uz_files.specs.declared.status.Status.TheVariants.{BadInput}
use Rattle.uz_certificate_commands.specs.HintedValues.{text_of}
use Rattle.uz_certificate_commands.proofs.HintedBytes.{none_within, some_odd}
use Rattle.uz_certificate_commands.proofs.HintedLemmas.{hints_misfit, hints_unbuilt, hints_unread}
use Rattle.uz_certificate_commands.proofs.hinted.read_hints.Goals as goal

pub returns-then-count-eq0-clause-fits : goal.returns-then-count-eq0-clause-fits
returns-then-count-eq0-clause-fits g c = record {
  expands = c.in-Ok.ensures.said;
  assembles = c.in-Ok-assemble_flat.ensures.built;
  within = none_within c.in-Ok-assemble_flat.built.image c.args.image.now c.in_ok-odd.odd c.in_ok-odd.ensures
      (empty_of_len c.in_ok-odd.odd (sym c.count.ensures ∙ c.if-count-eq0.true));
}

pub returns-then-count-eq0-clause-few : goal.returns-then-count-eq0-clause-few
returns-then-count-eq0-clause-few g c =
    few_hints c.in-Ok.source.flat.text.items c.in-Ok-assemble_flat.built c.in-Ok.ensures.short c.in-Ok-assemble_flat.ensures.built

pub returns-in-Err-clause-fails : goal.returns-in-Err-clause-fails
returns-in-Err-clause-fails g c =
    hints_unread (g.H.Shelf.files c.args.shelf.now) (Rose (g.H.Shelf.load_faults c.args.shelf.now)
    (g.H.Shelf.load_faults c.expand_file.new.shelf)) c.args.hints.now c.args.image.now c.in-Err.failure c.in-Err.ensures.fails

pub returns-in-Err-assemble_flat-clause-fails : goal.returns-in-Err-assemble_flat-clause-fails
returns-in-Err-assemble_flat-clause-fails g c =
    hints_unbuilt (g.H.Shelf.files c.args.shelf.now) (Rose (g.H.Shelf.load_faults c.args.shelf.now)
    (g.H.Shelf.load_faults c.expand_file.new.shelf)) c.args.hints.now c.args.image.now (names_of c.in-Ok.source.names)
    (text_of c.in-Ok.source.flat) c.in-Err-assemble_flat.failure c.in-Ok.ensures.said c.in-Err-assemble_flat.ensures.fails

pub returns-clause-fails : goal.returns-clause-fails
returns-clause-fails g c =
    hints_misfit (g.H.Shelf.files c.args.shelf.now) (Rose (g.H.Shelf.load_faults c.args.shelf.now)
    (g.H.Shelf.load_faults c.expand_file.new.shelf)) c.args.hints.now c.args.image.now c.in_ok-odd.odd (names_of c.in-Ok.source.names)
    (text_of c.in-Ok.source.flat) (seen_built c.in-Ok-assemble_flat.built) (one_line BadInput c.in_ok-misfit.field-0.items)
    c.in-Ok.ensures.said c.in-Ok-assemble_flat.ensures.built c.in_ok-odd.ensures
    (some_odd c.in_ok-odd.odd c.count.result c.count.ensures c.if-count-eq0.false) (ap (one_line BadInput) c.in_ok-misfit.ensures)
