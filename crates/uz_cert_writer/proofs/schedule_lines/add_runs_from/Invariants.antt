use Rattle.uz_cert_writer.proofs.Common.{◌≡◌, ◌≤◌, ◌++◌, ◌+◌, ◌∷◌, drop, ended, run_lines, run_on, runs_of}
use Rattle.uz_cert_writer.proofs.schedule_lines.add_runs_from.Given as goal

-- what is written, the run so far, and what is left
abbrev pub invariant-loop-next : goal.invariant-loop-next
invariant-loop-next l = record {
  few : l.count ≤ l.next-index + 1;
  left :
      l.text.items ++ ended (run_lines (run_on l.count l.kind (runs_of (drop l.next-index l.others))))
      ≡ l.initial.text.items ++ ended (run_lines (runs_of (l.first ∷ l.others)));
}
