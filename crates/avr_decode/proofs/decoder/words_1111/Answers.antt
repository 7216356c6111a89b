use Rattle.std.proofs.Common.{refl, arith}
use Rattle.avr_table.specs.Pattern.{spelled}
use Rattle.avr_table.specs.Rows.{pattern_of}
use Rattle.avr_table.specs.declared.Instr.TheVariants.{Brbs, Brbc}
use Rattle.avr_decode.proofs.Leaves.{some_read, by_shift}
use Rattle.avr_decode.proofs.Letters.{run_spelled}
use Rattle.avr_decode.proofs.decoder.words_1111.Goals as goal

pub returns-in-60 : goal.returns-in-60
unfolding spelled
returns-in-60 c = λ second below. some_read c.args.first second (Brbs c.run-s.result c.run-k.result)
    (record {
      fixed = by_shift (pattern_of (Brbs c.run-s.result c.run-k.result)) 10 60 c.args.first second (omega arith) c.ranges.first.fits
          below refl refl c.in-60.is;
      letters = (
        run_spelled c.args.first second 0 3 below c.run-s.ensures,
        (run_spelled c.args.first second 3 7 below c.run-k.ensures, tt),
      );
    })

pub returns-in-61 : goal.returns-in-61
unfolding spelled
returns-in-61 c = λ second below. some_read c.args.first second (Brbc c.run-s.result c.run-k.result)
    (record {
      fixed = by_shift (pattern_of (Brbc c.run-s.result c.run-k.result)) 10 61 c.args.first second (omega arith) c.ranges.first.fits
          below refl refl c.in-61.is;
      letters = (
        run_spelled c.args.first second 0 3 below c.run-s.ensures,
        (run_spelled c.args.first second 3 7 below c.run-k.ensures, tt),
      );
    })
