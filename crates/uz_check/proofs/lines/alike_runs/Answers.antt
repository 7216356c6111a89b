use Rattle.uz_check.proofs.Common.{◌≡◌, ◌+◌, ◌-◌, ◌<◌, ◌≤◌, ◌∙◌, length, subst, sym, arith, slice_set, IsRun, RunsFrom}
use Rattle.uz_check.proofs.Runs.{set_length, runs_more}
use Rattle.uz_check.proofs.lines.alike_runs.Goals as goal

pub each-preserved : goal.each-preserved
each-preserved c =
    let cert = c.args.cert.now in
    let n = length cert.schedule.lines in
    let back = c.each.back in
    let e = c.run_end-end.result in
    let inv = c.each.invariant in
    let l = n - (back + 1) in
    let low : back + 1 ≤ n = omega (arith, c.each-test.true, c.len-count.ensures) in
    let next : n - back ≡ l + 1 = omega (arith, low) in
    let place : c.from.result ≡ l = omega (arith, c.from.ensures, c.len-count.ensures) in
    let run : IsRun cert n l e = subst (λ k. IsRun cert n k e) (omega (arith, c.len-count.ensures)) c.run_end-end.ensures in
    let room : l < length c.each.runs = omega (arith, low, inv.all, c.requires.schedule.lines.few) in
    record {
      all = set_length c.each.runs c.from.result e ∙ inv.all;
      run = run;
      each = subst (λ k. RunsFrom cert (slice_set c.each.runs k e) l) (sym place)
          (runs_more cert c.each.runs l e room run (subst (RunsFrom cert c.each.runs) next inv.each));
    }
