use Rattle.std.proofs.Common.{refl, arith}
use Rattle.avr_table.specs.Pattern.{spelled}
use Rattle.avr_table.specs.Rows.{pattern_of}
use Rattle.avr_table.specs.declared.Instr.TheVariants.{Add, Sbc, Cpc}
use Rattle.avr_decode.proofs.Leaves.{some_read, by_shift}
use Rattle.avr_decode.proofs.Letters.{run_spelled, runs_spelled}
use Rattle.avr_decode.proofs.decoder.words_0000.Goals as goal

pub returns-in-1 : goal.returns-in-1
unfolding spelled
returns-in-1 c = λ second below. some_read c.args.first second (Cpc c.run-d.result c.runs-r.result)
    (record {
      fixed = by_shift (pattern_of (Cpc c.run-d.result c.runs-r.result)) 10 1 c.args.first second (omega arith) c.ranges.first.fits
          below refl refl c.in-1.is;
      letters = (
        run_spelled c.args.first second 4 5 below c.run-d.ensures,
        (runs_spelled c.args.first second 9 1 0 4 below c.runs-r.ensures, tt),
      );
    })

pub returns-in-2 : goal.returns-in-2
unfolding spelled
returns-in-2 c = λ second below. some_read c.args.first second (Sbc c.run-d.result c.runs-r.result)
    (record {
      fixed = by_shift (pattern_of (Sbc c.run-d.result c.runs-r.result)) 10 2 c.args.first second (omega arith) c.ranges.first.fits
          below refl refl c.in-2.is;
      letters = (
        run_spelled c.args.first second 4 5 below c.run-d.ensures,
        (runs_spelled c.args.first second 9 1 0 4 below c.runs-r.ensures, tt),
      );
    })

pub returns-in-3 : goal.returns-in-3
unfolding spelled
returns-in-3 c = λ second below. some_read c.args.first second (Add c.run-d.result c.runs-r.result)
    (record {
      fixed = by_shift (pattern_of (Add c.run-d.result c.runs-r.result)) 10 3 c.args.first second (omega arith) c.ranges.first.fits
          below refl refl c.in-3.is;
      letters = (
        run_spelled c.args.first second 4 5 below c.run-d.ensures,
        (runs_spelled c.args.first second 9 1 0 4 below c.runs-r.ensures, tt),
      );
    })
