-- The certificate of an ended search is accepted.
use Rattle.uz_search.proofs.Common.{◌≡◌, ℕ, ◌<◌, ◌≤◌, ◌+◌, None, Some, sym, ap, ◌∙◌, subst, slice_get, arith, Contains, true}
use Rattle.uz_search.proofs.Common.{slice_get_within, length_of, start_of, event_at, response_clocks, Head, IsReadAt, lines_of}
use Rattle.uz_schedule.specs.Instances.{is_in_box}
use Rattle.uz_schedule.specs.declared.states.Point.{Point}
use Rattle.uz_schedule.specs.declared.states.Rest.{Rest}
use Rattle.uz_rules.specs.Local.{IsLocal, local_fail}
use Rattle.uz_check.specs.FrameRules.{RestPasses}
use Rattle.uz_search.proofs.Frame.{falls_once, rests_are_quiet, rests_enter}
use Rattle.uz_search.proofs.LocalHolds.{passes_local}
use Rattle.uz_search.specs.Accepting.{EndedAccepts}
use Rattle.uz_search.proofs.SteadyLines.{steady}
use Rattle.uz_search.proofs.Coverage as cover

pub accepted : EndedAccepts
accepted image p found cert fits ended made schedule of = record {
  steady = steady p found.marks.items cert.schedule schedule made.schedule fits
      (falls_once image p found cert.schedule fits ended made.schedule);
  rests = rest_passes;
  entry = record { rest = of.enters; lies = of.entry };
  points = point_passes;
}
  where
    rest_passes : (rest : Rest) → Contains cert.rests rest → RestPasses cert rest
    rest_passes rest there =
        let r = of.rests rest there in
        let line : rest.line < lines_of p = (let w = slice_get_within found.returns.items rest.line (Some r.noted) r.at in
        let n = ended.lines in omega (arith, w, n)) in
        let q = rests_are_quiet image p found cert.schedule rest.line r.noted fits ended made.schedule line r.at in
        record {
          within = subst (λ k. k < length_of cert.schedule rest.line) (sym r.clock) q.in_line;
          leave = ap (λ k. event_at cert.schedule (start_of cert.schedule rest.line + k)) r.clock ∙ q.leave;
          quiet = λ k after in_line. q.quiet k (subst (λ c. c < k) r.clock after) in_line;
          quiet_next = λ k few. q.quiet_next k (subst (λ (h : Head). k ≤ response_clocks h.irq + 3) made.head few);
          vector = λ c few. r.vector c few (rests_enter image p found cert rest r.noted c fits ended made.head made.schedule r.at r.cells
              few);
        }

    point_passes : (id l c : ℕ) (point : Point) → slice_get cert.points id ≡ Some point → is_in_box point l c ≡ true → IsLocal image cert id
        l c None
    point_passes id l c point at box =
        let s = of.points id l c point at box in
        let t = cover.treated (record { image = image; program = p; fits = fits; found = found; s = ended }) s.x s.node in
        record {
          point = point;
          is_point = at;
          row = t.after.row;
          reads = subst (λ pc. IsReadAt image pc t.after.row) s.pc t.after.reads;
          is = sym (ap (local_fail image cert point.next.items point.split t.after.row) s.is ∙ passes_local image p found cert
              point.next.items point.split t.after.row s.x fits ended made s.node s.named t.after.reads);
        }
