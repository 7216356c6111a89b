use Rattle.uz_cert_writer.proofs.Common.{◌≡◌, map, length}
use Rattle.std.proofs.Common.{take}
use Rattle.uz_cert_lines.specs.Defaults.{range_fact}
use Rattle.uz_cert_writer.proofs.items.facts_of.Given as goal

abbrev pub invariant-loop-span : goal.invariant-loop-span
invariant-loop-span l = record {
  room : length l.facts.items ≡ l.span-index;
  done : l.facts.items ≡ map range_fact (take l.span-index l.spans);
}
