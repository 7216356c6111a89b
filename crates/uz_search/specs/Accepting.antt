-- When a certificate that is made of an ended search is accepted: where its points are the search's instances.
use Rattle.std.specs.Prelude.{◌≡◌, ℕ, ◌≤◌, Contains, true, Some, slice_get}
use Rattle.uz_schedule.specs.Instances.{entry_instance, instance_at, is_in_box, rest_instance}
use Rattle.uz_schedule.specs.Limits.{ScheduleFits}
use Rattle.uz_schedule.specs.declared.certificate.Cert.{Cert}
use Rattle.uz_schedule.specs.declared.kinds.Kind.TheVariants.{Main}
use Rattle.uz_schedule.specs.declared.states.Instance.{Instance}
use Rattle.uz_schedule.specs.declared.states.Point.{Point}
use Rattle.uz_schedule.specs.declared.states.Rest.{Rest}
use Rattle.uz_rules.specs.Successors.{lies_in_point}
use Rattle.uz_check.specs.Acceptance.{Accepts}
use Rattle.uz_search.specs.declared.found.Found.{Found}
use Rattle.uz_search.specs.declared.program.Program.{Program}
use Rattle.uz_search.specs.declared.returns.Return.{Return}
use Rattle.uz_search.specs.Fitting.{ProgramFits}
use Rattle.uz_search.specs.Following.{Among, Flash}
use Rattle.uz_search.specs.Returning.{ReturnAt}
use Rattle.uz_search.specs.Searching.{IsEnded}
use Rattle.uz_search.specs.Complete.{HasSuccessors}
use Rattle.uz_search.specs.Made.{IsMadeOf}

-- at a line and a count of a point's box stands an instance of the search, at the point's program counter, and its results lie in the named
-- successors, or are covered by the values of the point's register
pub record StandsFor (image : Flash) (p : Program) (found : Found) (cert : Cert) (id l c : ℕ) (point : Point) : Type 0 where
  pub x : Instance
  pub is : instance_at cert id l c ≡ Some x
  pub node : Among found.nodes.keys x
  pub pc : x.pc ≡ point.pc
  pub named : HasSuccessors image p cert point.next.items point.split x

-- a rest is a noted return, and the handler's first states lie in its vector's point where they are instances of the search
pub record IsRestOf (found : Found) (cert : Cert) (rest : Rest) : Type 0 where
  pub noted : Return
  pub at : ReturnAt found.returns.items rest.line noted
  pub clock : rest.clock ≡ noted.clock
  pub cells : rest.cells.items ≡ noted.cells.items
  pub vector : (c : ℕ) → c ≤ 3 → Among found.nodes.keys (rest_instance cert rest c)
      → lies_in_point cert rest.vector (rest_instance cert rest c) ≡ true

pub record ArePointsOf (image : Flash) (p : Program) (found : Found) (cert : Cert) : Type 0 where
  pub points : (id l c : ℕ) (point : Point) → slice_get cert.points id ≡ Some point → is_in_box point l c ≡ true → StandsFor image p found
      cert id l c point
  pub rests : (rest : Rest) → Contains cert.rests rest → IsRestOf found cert rest
  pub entry : lies_in_point cert cert.entry.id (entry_instance cert) ≡ true
  pub enters : cert.entry.kind ≡ Main → (rest : Rest) × Contains cert.rests rest

abbrev pub EndedAccepts : Type 0
EndedAccepts = (image : Flash) (p : Program) (found : Found) (cert : Cert) → ProgramFits p → IsEnded image p found → IsMadeOf p found cert
    → ScheduleFits cert.schedule → ArePointsOf image p found cert → Accepts image cert
