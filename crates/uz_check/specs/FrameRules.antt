-- The rules of a certificate's frame: where the handler returns, and where runs enter (this project's profile).
use Rattle.std.specs.Prelude.{◌≡◌, Contains, ℕ, ◌+◌, ◌<◌, ◌≤◌, true, Some, None}
use Rattle.uz_schedule.specs.Schedule.{length_of, start_of, next_line, event_at, response_clocks}
use Rattle.uz_schedule.specs.Instances.{entry_instance, rest_instance}
use Rattle.uz_schedule.specs.declared.kinds.Kind.TheVariants.{Main}
use Rattle.uz_schedule.specs.declared.lines.EventKind.TheVariants.{Leave}
use Rattle.uz_schedule.specs.declared.states.Rest.{Rest}
use Rattle.uz_schedule.specs.declared.certificate.Cert.{Cert}
use Rattle.uz_rules.specs.Successors.{lies_in_point}

-- The rest's clock is one of its line. The handler's return stands at it, and no event after it on its line; nothing stands
-- on the next line up to the latest end of an interrupt's entry; and the handler's first state lies in the vector's point,
-- whatever the latency
pub record RestPasses (cert : Cert) (rest : Rest) : Type 0 where
  pub within : rest.clock < length_of cert.schedule rest.line
  pub leave : event_at cert.schedule (start_of cert.schedule rest.line + rest.clock) ≡ Some Leave
  pub quiet : (k : ℕ) → rest.clock < k → k < length_of cert.schedule rest.line → event_at cert.schedule
      (start_of cert.schedule rest.line + k) ≡ None
  pub quiet_next : (k : ℕ) → k ≤ response_clocks cert.head.irq + 3 → event_at cert.schedule
      (start_of cert.schedule (next_line cert.schedule rest.line) + k) ≡ None
  pub vector : (c : ℕ) → c ≤ 3 → lies_in_point cert rest.vector (rest_instance cert rest c) ≡ true

-- a main entry has a rest, and the entry's state lies in its point
pub record EntryPasses (cert : Cert) : Type 0 where
  pub rest : cert.entry.kind ≡ Main → (rest : Rest) × Contains cert.rests rest
  pub lies : lies_in_point cert cert.entry.id (entry_instance cert) ≡ true
