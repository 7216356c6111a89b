use Rattle.std.proofs.Common.{◌≡◌, ◌++◌}
use Rattle.uz_report.specs.Places.{words_below}
use Rattle.uz_report.proofs.places.put_places.Given as goal

abbrev pub invariant-loop-place : goal.invariant-loop-place
invariant-loop-place l = l.text.items ≡ l.initial.text.items ++ words_below l.numbers l.number l.place
