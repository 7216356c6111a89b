use Rattle.std.proofs.Common.{sym, subst}
use Rattle.uz_schedule.specs.WellFormed.{WellFormed}
use Rattle.uz_check.specs.Acceptance.{Accepts}
use Rattle.uz_paths.proofs.Complete.{Laws, well_formed, accepted}
use Rattle.uz_paths.proofs.FindLemmas.{found_by}
use Rattle.uz_paths.proofs.finding.certificate.Goals as goal

pub parts_of-requires-clause-start : goal.parts_of-requires-clause-start
parts_of-requires-clause-start c = c.requires.start.start

pub returns-in-Ok-clause-fits : goal.returns-in-Ok-clause-fits
returns-in-Ok-clause-fits c =
    let laws : Laws = record {
      by_line = c.event_by_line.ensures;
      falls = c.ended_falls_once.ensures;
      levels_fit = c.ended_levels_fit.ensures;
      quiet = c.ended_rests_are_quiet.ensures;
      levels = c.ended_levels.ensures;
      enter = c.ended_rests_enter.ensures;
      within = c.ended_within_limits.ensures;
      widens = c.lies_in_widened.ensures;
      tells = c.place_tells.ensures;
      holds = c.place_holds.ensures;
      itself = c.known_in_itself.ensures;
      pass = c.pieces_pass.ensures;
      accepts = c.ended_accepts.ensures;
      stand = c.nodes_are_reached.ensures.stand;
    } in
    subst WellFormed (sym c.certificate_of.ensures)
    (well_formed c.args.image.now c.args.program c.args.entry c.args.found c.in-Ok.parts laws c.requires.fits c.requires.ended
    c.requires.few c.requires.splits c.requires.start c.requires.returns c.in-Ok.ensures)

pub returns-in-Ok-clause-accepted : goal.returns-in-Ok-clause-accepted
returns-in-Ok-clause-accepted c =
    let laws : Laws = record {
      by_line = c.event_by_line.ensures;
      falls = c.ended_falls_once.ensures;
      levels_fit = c.ended_levels_fit.ensures;
      quiet = c.ended_rests_are_quiet.ensures;
      levels = c.ended_levels.ensures;
      enter = c.ended_rests_enter.ensures;
      within = c.ended_within_limits.ensures;
      widens = c.lies_in_widened.ensures;
      tells = c.place_tells.ensures;
      holds = c.place_holds.ensures;
      itself = c.known_in_itself.ensures;
      pass = c.pieces_pass.ensures;
      accepts = c.ended_accepts.ensures;
      stand = c.nodes_are_reached.ensures.stand;
    } in
    subst (Accepts c.args.image.now) (sym c.certificate_of.ensures)
    (accepted c.args.image.now c.args.program c.args.entry c.args.found c.in-Ok.parts laws c.requires.fits c.requires.ended
    c.requires.few c.requires.splits c.requires.start c.requires.returns c.in-Ok.ensures)

pub returns-in-Ok-clause-found : goal.returns-in-Ok-clause-found
returns-in-Ok-clause-found c =
    found_by c.args.image.now c.args.program c.args.entry c.args.found c.in-Ok.parts c.certificate_of.result
    c.certificate_of.ensures c.in-Ok.ensures c.requires.ended
    (λ x among. c.nodes_are_reached.ensures.on_trail c.args.image.now c.args.program c.args.found x c.requires.ended among)
