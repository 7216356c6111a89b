use Rattle.std.proofs.Common.{◌≡◌, ◌/◌, refl, arith}
use Rattle.avr_table.specs.Pattern.{spelled}
use Rattle.avr_table.specs.Rows.{pattern_of}
use Rattle.avr_table.specs.declared.Instr.TheVariants.{Subi, Sbci, Andi, Ori, Cpi}
use Rattle.avr_decode.proofs.Leaves.{by_shift}
use Rattle.avr_decode.proofs.Letters.{run_spelled, runs_spelled}
use Rattle.avr_decode.proofs.decoder.immediate.Goals as goal

pub returns-in-3 : goal.returns-in-3
unfolding spelled
returns-in-3 c = λ second below. record {
  fixed = by_shift (pattern_of (Cpi c.run-d.result c.runs-k.result)) 12 3 c.args.first second
      (omega arith) c.ranges.first.fits below refl refl c.in-3.is;
  letters = (
    run_spelled c.args.first second 4 4 below c.run-d.ensures,
    (runs_spelled c.args.first second 8 4 0 4 below c.runs-k.ensures, tt),
  );
}

pub returns-in-4 : goal.returns-in-4
unfolding spelled
returns-in-4 c = λ second below. record {
  fixed = by_shift (pattern_of (Sbci c.run-d.result c.runs-k.result)) 12 4 c.args.first second
      (omega arith) c.ranges.first.fits below refl refl c.in-4.is;
  letters = (
    run_spelled c.args.first second 4 4 below c.run-d.ensures,
    (runs_spelled c.args.first second 8 4 0 4 below c.runs-k.ensures, tt),
  );
}

pub returns-in-5 : goal.returns-in-5
unfolding spelled
returns-in-5 c = λ second below. record {
  fixed = by_shift (pattern_of (Subi c.run-d.result c.runs-k.result)) 12 5 c.args.first second
      (omega arith) c.ranges.first.fits below refl refl c.in-5.is;
  letters = (
    run_spelled c.args.first second 4 4 below c.run-d.ensures,
    (runs_spelled c.args.first second 8 4 0 4 below c.runs-k.ensures, tt),
  );
}

pub returns-in-6 : goal.returns-in-6
unfolding spelled
returns-in-6 c = λ second below. record {
  fixed = by_shift (pattern_of (Ori c.run-d.result c.runs-k.result)) 12 6 c.args.first second
      (omega arith) c.ranges.first.fits below refl refl c.in-6.is;
  letters = (
    run_spelled c.args.first second 4 4 below c.run-d.ensures,
    (runs_spelled c.args.first second 8 4 0 4 below c.runs-k.ensures, tt),
  );
}

pub returns-in_default : goal.returns-in_default
unfolding spelled
returns-in_default c =
    let e : c.args.first / 4096 ≡ 7 = omega arith in
    λ second below. record {
      fixed = by_shift (pattern_of (Andi c.run-d.result c.runs-k.result)) 12 7 c.args.first second (omega arith)
          c.ranges.first.fits below refl refl e;
      letters = (
        run_spelled c.args.first second 4 4 below c.run-d.ensures,
        (runs_spelled c.args.first second 8 4 0 4 below c.runs-k.ensures, tt),
      );
    }
