-- The certificate of what a search has found, whose points are joined.
use Rattle.std.specs.Prelude.{◌≡◌, map}
use Rattle.uz_schedule.specs.declared.certificate.Cert.{Cert}
use Rattle.uz_schedule.specs.declared.states.Entry.{Entry}
use Rattle.uz_search.specs.declared.found.Found.{Found}
use Rattle.uz_search.specs.declared.program.Program.{Program}
use Rattle.uz_join.specs.Joined.{entry_unnumbered, rest_unnumbered}
use Rattle.uz_join.specs.Coverage.{SaysInstances}
use Rattle.uz_paths.specs.declared.joined.JoinedParts.{JoinedParts}
use Rattle.uz_paths.specs.Kinds.{IsScheduleOf}
use Rattle.uz_paths.specs.Rests.{rests_of}
use Rattle.uz_paths.specs.Splits.{with_split}

-- the schedule of the marks; the rests of the returns and this entry, but for the numbers of their points; and points that say what the
-- instances say, and nothing else
pub record AreJoinedOf (p : Program) (entry : Entry) (found : Found) (parts : JoinedParts) : Type 0 where
  pub schedule : IsScheduleOf found.marks.items p.schedule parts.schedule
  pub rests : map rest_unnumbered parts.rests ≡ map rest_unnumbered (rests_of found.returns.items)
  pub enters : entry_unnumbered parts.entry ≡ entry_unnumbered entry
  pub said : SaysInstances found.nodes.keys parts.points.items

-- with the program's header and splits
abbrev pub joined_cert : Program → JoinedParts → Cert
joined_cert p parts = record {
  head = p.head;
  schedule = parts.schedule;
  rests = parts.rests;
  entry = parts.entry;
  points = map (with_split p.splits) parts.points.items;
}
