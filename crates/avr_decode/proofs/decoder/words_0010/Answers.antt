use Rattle.std.proofs.Common.{◌≡◌, ◌/◌, refl, arith}
use Rattle.avr_table.specs.Pattern.{spelled}
use Rattle.avr_table.specs.Rows.{pattern_of}
use Rattle.avr_table.specs.declared.Instr.TheVariants.{And, Or, Eor, Mov}
use Rattle.avr_decode.proofs.Leaves.{by_shift}
use Rattle.avr_decode.proofs.Letters.{run_spelled, runs_spelled}
use Rattle.avr_decode.proofs.decoder.words_0010.Goals as goal

pub returns-in-8 : goal.returns-in-8
unfolding spelled
returns-in-8 c = λ second below. record {
  fixed = by_shift (pattern_of (And c.run-d.result c.runs-r.result)) 10 8 c.args.first second
      (omega arith) c.ranges.first.fits below refl refl c.in-8.is;
  letters = (
    run_spelled c.args.first second 4 5 below c.run-d.ensures,
    (runs_spelled c.args.first second 9 1 0 4 below c.runs-r.ensures, tt),
  );
}

pub returns-in-9 : goal.returns-in-9
unfolding spelled
returns-in-9 c = λ second below. record {
  fixed = by_shift (pattern_of (Eor c.run-d.result c.runs-r.result)) 10 9 c.args.first second
      (omega arith) c.ranges.first.fits below refl refl c.in-9.is;
  letters = (
    run_spelled c.args.first second 4 5 below c.run-d.ensures,
    (runs_spelled c.args.first second 9 1 0 4 below c.runs-r.ensures, tt),
  );
}

pub returns-in-10 : goal.returns-in-10
unfolding spelled
returns-in-10 c = λ second below. record {
  fixed = by_shift (pattern_of (Or c.run-d.result c.runs-r.result)) 10 10 c.args.first second
      (omega arith) c.ranges.first.fits below refl refl c.in-10.is;
  letters = (
    run_spelled c.args.first second 4 5 below c.run-d.ensures,
    (runs_spelled c.args.first second 9 1 0 4 below c.runs-r.ensures, tt),
  );
}

pub returns-in_default : goal.returns-in_default
unfolding spelled
returns-in_default c =
    let e : c.args.first / 1024 ≡ 11 = omega arith in
    λ second below. record {
      fixed = by_shift (pattern_of (Mov c.run-d.result c.runs-r.result)) 10 11 c.args.first second (omega arith)
          c.ranges.first.fits below refl refl e;
      letters = (
        run_spelled c.args.first second 4 5 below c.run-d.ensures,
        (runs_spelled c.args.first second 9 1 0 4 below c.runs-r.ensures, tt),
      );
    }
