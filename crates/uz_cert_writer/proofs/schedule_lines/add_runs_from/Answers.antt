use Rattle.uz_cert_writer.proofs.{Common.ℕ, Common.◌+◌, Common.◌≤◌, Common.arith, Common.get_or, Common.refl, Runs.run_taken}
use Rattle.uz_cert_writer.proofs.schedule_lines.add_runs_from.Goals as goal

one_more : (new old lines : ℕ) → new ≤ old + 1 → old ≤ lines + 1 → new ≤ lines + 1 + 1
one_more new old lines h i = omega (arith, h, i)

pub loop-next-preserved : goal.loop-next-preserved
loop-next-preserved c = record {
  few = one_more c.in_ok-count.count c.loop-next.count c.loop-next.next-index c.in_ok-count.ensures.few c.loop-next.invariant.few;
  left = run_taken c.loop-next.text.items c.add_line.new.text.items _ c.loop-next.count c.in_ok-count.count c.loop-next.kind
      (get_or c.args.others.now c.loop-next.next-index 0) c.loop-next.next-index c.args.others.now c.loop-next-test.true refl
      c.in_ok-count.ensures.runs c.loop-next.invariant.left;
}
