use Rattle.std.proofs.Common.{◌≡◌, ◌/◌, refl, arith}
use Rattle.avr_table.specs.Pattern.{spelled}
use Rattle.avr_table.specs.Rows.{pattern_of}
use Rattle.avr_table.specs.declared.Instr.TheVariants.{Adiw, Sbiw, Mul, Sbic, Sbis, Sbi, Cbi}
use Rattle.avr_decode.proofs.Leaves.{by_shift}
use Rattle.avr_decode.proofs.Letters.{run_spelled, runs_spelled}
use Rattle.avr_decode.proofs.decoder.words_1001_upper.Goals as goal

pub returns-in-150 : goal.returns-in-150
unfolding spelled
returns-in-150 c = λ second below. record {
  fixed = by_shift (pattern_of (Adiw c.run.result c.runs.result)) 8 150 c.args.first second
      (omega arith) c.ranges.first.fits below refl refl c.in-150.is;
  letters = (
    run_spelled c.args.first second 4 2 below c.run.ensures,
    (runs_spelled c.args.first second 6 2 0 4 below c.runs.ensures, tt),
  );
}

pub returns-in-151 : goal.returns-in-151
unfolding spelled
returns-in-151 c = λ second below. record {
  fixed = by_shift (pattern_of (Sbiw c.run-in-151.result c.runs-in-151.result)) 8 151 c.args.first
      second (omega arith) c.ranges.first.fits below refl refl c.in-151.is;
  letters = (
    run_spelled c.args.first second 4 2 below c.run-in-151.ensures,
    (runs_spelled c.args.first second 6 2 0 4 below c.runs-in-151.ensures, tt),
  );
}

pub returns-in-152 : goal.returns-in-152
unfolding spelled
returns-in-152 c = λ second below. record {
  fixed = by_shift (pattern_of (Cbi c.run-a.result c.run-b.result)) 8 152 c.args.first second
      (omega arith) c.ranges.first.fits below refl refl c.in-152.is;
  letters = (
    run_spelled c.args.first second 3 5 below c.run-a.ensures,
    (run_spelled c.args.first second 0 3 below c.run-b.ensures, tt),
  );
}

pub returns-in-153 : goal.returns-in-153
unfolding spelled
returns-in-153 c = λ second below. record {
  fixed = by_shift (pattern_of (Sbic c.run-a.result c.run-b.result)) 8 153 c.args.first second
      (omega arith) c.ranges.first.fits below refl refl c.in-153.is;
  letters = (
    run_spelled c.args.first second 3 5 below c.run-a.ensures,
    (run_spelled c.args.first second 0 3 below c.run-b.ensures, tt),
  );
}

pub returns-in-154 : goal.returns-in-154
unfolding spelled
returns-in-154 c = λ second below. record {
  fixed = by_shift (pattern_of (Sbi c.run-a.result c.run-b.result)) 8 154 c.args.first second
      (omega arith) c.ranges.first.fits below refl refl c.in-154.is;
  letters = (
    run_spelled c.args.first second 3 5 below c.run-a.ensures,
    (run_spelled c.args.first second 0 3 below c.run-b.ensures, tt),
  );
}

pub returns-in-155 : goal.returns-in-155
unfolding spelled
returns-in-155 c = λ second below. record {
  fixed = by_shift (pattern_of (Sbis c.run-a.result c.run-b.result)) 8 155 c.args.first second
      (omega arith) c.ranges.first.fits below refl refl c.in-155.is;
  letters = (
    run_spelled c.args.first second 3 5 below c.run-a.ensures,
    (run_spelled c.args.first second 0 3 below c.run-b.ensures, tt),
  );
}

pub returns-in_default : goal.returns-in_default
unfolding spelled
returns-in_default c =
    let e : c.args.first / 1024 ≡ 39 = omega arith in
    λ second below. record {
      fixed = by_shift (pattern_of (Mul c.run-in_default.result c.runs-in_default.result)) 10 39 c.args.first second
          (omega arith) c.ranges.first.fits below refl refl e;
      letters = (
        run_spelled c.args.first second 4 5 below c.run-in_default.ensures,
        (runs_spelled c.args.first second 9 1 0 4 below c.runs-in_default.ensures, tt),
      );
    }
