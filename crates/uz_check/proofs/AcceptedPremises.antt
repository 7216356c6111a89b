-- What is accepted meets all premises of the induction.
use Rattle.uz_check.proofs.Common.{◌≡◌, ◌<◌, Contains, ℕ, refl, Some, slice_get, nat_cmp, FinMap, IsFlash, PadHistory, IsState, State}
use Rattle.uz_check.proofs.Common.{EntryCondition, instance_in, instance_at, entry_instance, rest_instance, WellFormed, Kind, Main, Handler}
use Rattle.uz_check.proofs.Common.{Alone, Rest, Instance, Cert, length_of, IsSteady, RestPasses, Accepts}
use Rattle.uz_schedule.specs.WellFormed.{EntryKindFits}
use Rattle.uz_check.proofs.Fits.{HasRest}
use Rattle.uz_check.proofs.Premises.{LocalHolds, RestHolds, RuleLaws, Premises}
use Rattle.uz_check.proofs.Fitting.{opened, of_point}
use Rattle.uz_check.proofs.LocalTells.{covered, local_tells}
use Rattle.uz_check.proofs.LimitsTell.{limits_of, entry_limits}
use Rattle.uz_check.proofs.NotEmpty.{some_state}

rest_holds : (laws : RuleLaws) (cert : Cert) (rest : Rest) → RestPasses cert rest → RestHolds cert rest
rest_holds laws cert rest h = record {
  within = h.within;
  quiet = h.quiet;
  quiet_next = h.quiet_next;
  vector = λ c few. covered laws.lies cert rest.vector (rest_instance cert rest c) (h.vector c few);
}

local_holds : (image : FinMap nat_cmp ℕ) (cert : Cert) → Accepts image cert → (id l c : ℕ) (inst : Instance)
    → instance_at cert id l c ≡ Some inst → LocalHolds image cert inst
local_holds image cert h id l c inst e =
    let point = opened (λ p. instance_in cert.schedule p l c) (slice_get cert.points id) inst e in
    local_tells image cert id l c inst (h.points id l c point.0 point.1 (of_point cert point.0 l c inst point.2).box) e

pub premises_hold : (laws : RuleLaws) (image : FinMap nat_cmp ℕ) (cert : Cert) → WellFormed cert → Accepts image cert → Premises image cert
premises_hold laws image cert formed h = record {
  laws = laws;
  limits = limits_of cert formed;
  local = local_holds image cert h;
  rests = λ rest has. rest_holds laws cert rest (h.rests rest has);
  entry = covered laws.lies cert cert.entry.id (entry_instance cert) h.entry.lies;
}

-- Some state enters

pub some_enters : (image : FinMap nat_cmp ℕ) (cert : Cert) → IsFlash image → WellFormed cert → IsSteady cert.schedule
    → (cert.entry.kind ≡ Main → (rest : Rest) × Contains cert.rests rest × (rest.clock < length_of cert.schedule rest.line))
    → (s : State PadHistory) × (p : ℕ) × IsState s × (s.image ≡ image) × EntryCondition cert s p
some_enters image cert flash formed steady rest = some_state image cert flash (limits_of cert formed) (entry_limits cert formed) steady
    (has_rest cert.entry.kind refl formed.entry.kind)
  where
    has_rest : (kind : Kind) → cert.entry.kind ≡ kind → EntryKindFits kind cert.entry → HasRest cert kind
    has_rest Main is h = rest is
    has_rest Handler is h = absurd h
    has_rest Alone is h = tt
