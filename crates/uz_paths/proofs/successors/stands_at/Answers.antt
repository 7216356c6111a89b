use Rattle.std.proofs.Common.{◌≡◌, ◌≤◌, List, ap, arith, false, length, nat_lt, sym, ℕ}
use Rattle.std.specs.Prelude.{slice_get}
use Rattle.std.proofs.lemmas.Bool.Decides.{nat_tests}
use Rattle.std.proofs.lemmas.Option.{slice_get_past}
use Rattle.uz_paths.specs.Successors.{is_number}
use Rattle.uz_paths.proofs.successors.stands_at.Goals as goal

absent : (number : ℕ) (numbers : List ℕ) (place : ℕ) → false ≡ nat_lt place (length numbers)
    → false ≡ is_number number (slice_get numbers place)
absent number numbers place e =
    let past : length numbers ≤ place = grind (arith, nat_tests, e) in
    sym (ap (is_number number) (slice_get_past numbers place past))

pub returns-in-None : goal.returns-in-None
returns-in-None c = absent c.args.number c.args.numbers.now c.args.place c.in-None.ensures.lookup.0
