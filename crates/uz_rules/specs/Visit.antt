-- What the local rule keeps of a point while its instances are asked one after another.
use Rattle.std.specs.Prelude.{◌≡◌, ℕ, Bool, true, Some, None, slice_get, if◌then◌else◌}
use Rattle.uz_schedule.specs.declared.states.Point.{Point}
use Rattle.uz_schedule.specs.Instances.{instance_at}
use Rattle.uz_rules.specs.Moving.{IsVarying, IsOfPoint}
use Rattle.uz_transfer.specs.Step.{IsReadAt}
use Rattle.uz_rules.specs.declared.visit.Visit.{Visit}
use Rattle.uz_rules.specs.declared.visit.LastInstance.{LastInstance}

-- where an instance is kept, it is one that the point says, and the places of the facts that depend on the line or the count are noted
pub record Keeps (p : Point) (last : LastInstance) : Type 0 where
  pub instance : last.kept ≡ true → IsOfPoint p last.at
  pub varying : last.kept ≡ true → IsVarying p last.varying

-- the point has this number, and the instruction at its pc is read
pub record IsVisit (visit : Visit) : Type 0 where
  pub point : slice_get visit.cert.now.points visit.id ≡ Some visit.point.now
  pub reads : IsReadAt visit.image.now visit.point.now.pc visit.row

-- the last instance is that at a line and a count, where the point has one there
pub record IsAt (visit : Visit) (l c : ℕ) (there : Bool) (last : LastInstance) : Type 0 where
  pub is : instance_at visit.cert.now visit.id l c ≡ (if there then Some last.at else None)
  pub keeps : Keeps visit.point.now last
