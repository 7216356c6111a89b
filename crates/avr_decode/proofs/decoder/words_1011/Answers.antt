use Rattle.std.proofs.Common.{◌≡◌, ◌/◌, refl, arith}
use Rattle.avr_table.specs.Pattern.{spelled}
use Rattle.avr_table.specs.Rows.{pattern_of}
use Rattle.avr_table.specs.declared.Instr.TheVariants.{In, Out}
use Rattle.avr_decode.proofs.Leaves.{by_shift}
use Rattle.avr_decode.proofs.Letters.{run_spelled, runs_spelled}
use Rattle.avr_decode.proofs.decoder.words_1011.Goals as goal

pub returns-in-22 : goal.returns-in-22
unfolding spelled
returns-in-22 c = λ second below. record {
  fixed = by_shift (pattern_of (In c.run-register.result c.runs-a.result)) 11 22 c.args.first
      second (omega arith) c.ranges.first.fits below refl refl c.in-22.is;
  letters = (
    run_spelled c.args.first second 4 5 below c.run-register.ensures,
    (runs_spelled c.args.first second 9 2 0 4 below c.runs-a.ensures, tt),
  );
}

pub returns-in_default : goal.returns-in_default
unfolding spelled
returns-in_default c =
    let e : c.args.first / 2048 ≡ 23 = omega arith in
    λ second below. record {
      fixed = by_shift (pattern_of (Out c.runs-a.result c.run-register.result)) 11 23 c.args.first second
          (omega arith) c.ranges.first.fits below refl refl e;
      letters = (
        runs_spelled c.args.first second 9 2 0 4 below c.runs-a.ensures,
        (run_spelled c.args.first second 4 5 below c.run-register.ensures, tt),
      );
    }
