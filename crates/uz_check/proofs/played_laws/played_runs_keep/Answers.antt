use Rattle.uz_check.proofs.Keeps.{keeps, never_stops}
use Rattle.uz_check.proofs.played_laws.played_runs_keep.Goals as goal

pub returns-clause-keeps : goal.returns-clause-keeps
returns-clause-keeps c = λ image cert start limit clock p certified steady fits in_range flash low enters.
    keeps image cert start limit clock p (c.soundness.ensures.plays image cert certified)
    (record {
      by_line = λ l k. c.event_by_line.ensures cert.schedule l k;
      more = λ q l k n. c.places_go_on.ensures.more cert.schedule q l k n;
      next = λ q l k. c.places_go_on.ensures.next cert.schedule q l k;
      here = λ q l k. c.places_go_on.ensures.events cert.schedule q l k;
      clocks = λ fits l events. c.lines_have_lengths.ensures.events cert.schedule fits l events;
    }) steady fits in_range flash low enters

pub returns-clause-never_stops : goal.returns-clause-never_stops
returns-clause-never_stops c = λ image cert start limit clock p certified in_range flash enters.
    never_stops image cert start limit clock p (c.soundness.ensures.plays image cert certified) in_range flash enters
