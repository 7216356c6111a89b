-- The certificate that an ended search makes.
use Rattle.std.specs.Prelude.{◌≡◌, ◌<◌, ℕ, List, Some, length, map, slice_get}
use Rattle.uz_schedule.specs.Instances.{entry_instance_at}
use Rattle.uz_schedule.specs.Schedule.{response_clocks}
use Rattle.uz_schedule.specs.WellFormed.{EntryFactsFit, EntryKindFits}
use Rattle.uz_schedule.specs.declared.certificate.Cert.{Cert}
use Rattle.uz_schedule.specs.declared.kinds.Kind.TheVariants.{Main}
use Rattle.uz_schedule.specs.declared.states.Entry.{Entry}
use Rattle.uz_schedule.specs.declared.states.Instance.{Instance}
use Rattle.uz_search.specs.declared.found.Found.{Found}
use Rattle.uz_search.specs.declared.program.Program.{Program}
use Rattle.uz_search.specs.Following.{Among, Flash, order_of_program}
use Rattle.uz_search.specs.Returning.{SomeReturn}
use Rattle.uz_search.specs.Limits.{IsWithinLimits}
use Rattle.uz_paths.specs.declared.certificate.Parts.{Parts}
use Rattle.uz_paths.specs.Kinds.{IsScheduleOf}
use Rattle.uz_paths.specs.Linked.{ArePoints, PointsLead}
use Rattle.uz_paths.specs.Numbers.{AreNumbers}
use Rattle.uz_paths.specs.Rests.{rests_of}
use Rattle.uz_paths.specs.Splits.{with_split}

-- Where runs enter

-- the entry is a start of the search, and within a certificate's limits; and so is what is known of each start
pub record IsEntry (p : Program) (entry : Entry) : Type 0 where
  pub start : Among p.starts (entry_instance_at entry 1)
  pub kind : EntryKindFits entry.kind entry
  pub pc : entry.pc < 32768
  pub line : entry.line ≡ 0
  pub clock : entry.clock ≡ 0
  pub facts : EntryFactsFit p.head entry
  pub limits : (x : Instance) → Among p.starts x → IsWithinLimits p x

-- where runs enter main the handler returns somewhere
abbrev pub ReturnsFromMain : Program → Found → Type 0
ReturnsFromMain p found = (x : Instance) → Among p.starts x → x.kind ≡ Main → SomeReturn found.returns.items

-- The parts

-- the number of the point of this instance
pub record IsNumberOf (nodes : List Instance) (numbers : List ℕ) (x : Instance) (n : ℕ) : Type 0 where
  pub place : ℕ
  pub node : slice_get nodes place ≡ Some x
  pub is : slice_get numbers place ≡ Some n

-- the schedule of the marks, the rests of the returns, this entry, and a point for each vector and each other instance, which name what
-- follows them
pub record ArePartsOf (image : Flash) (p : Program) (entry : Entry) (found : Found) (parts : Parts) : Type 0 where
  pub schedule : IsScheduleOf found.marks.items p.schedule parts.schedule
  pub rests : parts.rests.items ≡ rests_of found.returns.items
  pub enters : parts.entry ≡ record entry { id = parts.entry.id }
  pub numbers : List ℕ
  pub entry_number : IsNumberOf found.nodes.keys numbers (entry_instance_at entry 1) parts.entry.id
  pub numbered : AreNumbers (response_clocks p.head.irq) (order_of_program p) parts.rests.items found.nodes.keys numbers
      (length parts.points.items)
  pub points : ArePoints (response_clocks p.head.irq) (order_of_program p) parts.rests.items found.nodes.keys numbers
      (length parts.points.items) parts.points.items
  pub named : PointsLead image p parts.schedule parts.rests.items found.nodes.keys numbers parts.points.items

-- with the program's header and splits
abbrev pub cert_of : Program → Parts → Cert
cert_of p parts = record {
  head = p.head;
  schedule = parts.schedule;
  rests = parts.rests.items;
  entry = parts.entry;
  points = map (with_split p.splits) parts.points.items;
}
