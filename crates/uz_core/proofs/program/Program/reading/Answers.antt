use Rattle.std.proofs.Common.{rules, ◌≡◌, subst, sym, Some}
use Rattle.std.proofs.lemmas.Option.{slice_get_read}
use Rattle.std.specs.Prelude.{slice_get}
use Rattle.uz_core.specs.Programs.{IsReading}
use Rattle.uz_core.proofs.program.Program.reading.Goals as goal

pub returns : goal.returns
returns c =
    let got : slice_get c.self.inside.readings.items c.args.at ≡ Some c.index-as_slice-at.result =
    slice_get_read c.self.inside.readings.items 32768 c.args.at c.index-as_slice-at.result (sym c.self.invariant.0) (search rules)
    (search rules) in
    subst (λ image. IsReading image c.args.at c.index-as_slice-at.result) c.self.view_is
    (c.self.invariant.1 c.args.at c.index-as_slice-at.result got)
