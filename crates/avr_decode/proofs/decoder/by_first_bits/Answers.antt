use Rattle.std.proofs.Common.{◌≡◌, ℕ, ◌*◌, ◌/◌, ◌<◌, bit_and, refl, arith}
use Rattle.avr_table.specs.Pattern.{spelled}
use Rattle.avr_table.specs.Rows.{pattern_of}
use Rattle.avr_table.specs.declared.Instr.TheVariants.{Rjmp, Rcall, Ldi}
use Rattle.avr_decode.proofs.Leaves.{some_read, by_shift, part, begins}
use Rattle.avr_decode.proofs.Letters.{run_spelled, runs_spelled}
use Rattle.avr_decode.proofs.decoder.by_first_bits.Goals as goal

pub returns-in-12 : goal.returns-in-12
unfolding spelled
returns-in-12 c = some_read c.args.first c.args.second (Rjmp c.run.result)
    (record {
      fixed = by_shift (pattern_of (Rjmp c.run.result)) 12 12 c.args.first c.args.second (omega arith) c.ranges.first.fits
          c.ranges.second.fits refl refl c.in-12.is;
      letters = (
        run_spelled c.args.first c.args.second 0 12 c.ranges.second.fits c.run.ensures,
        tt,
      );
    })

pub returns-in-13 : goal.returns-in-13
unfolding spelled
returns-in-13 c = some_read c.args.first c.args.second (Rcall c.run-in-13.result)
    (record {
      fixed = by_shift (pattern_of (Rcall c.run-in-13.result)) 12 13 c.args.first c.args.second (omega arith) c.ranges.first.fits
          c.ranges.second.fits refl refl c.in-13.is;
      letters = (run_spelled c.args.first c.args.second 0 12 c.ranges.second.fits c.run-in-13.ensures, tt);
    })

pub returns-in-14 : goal.returns-in-14
unfolding spelled
returns-in-14 c = some_read c.args.first c.args.second (Ldi c.run-in-14.result c.runs.result)
    (record {
      fixed = by_shift (pattern_of (Ldi c.run-in-14.result c.runs.result)) 12 14 c.args.first c.args.second (omega arith)
          c.ranges.first.fits c.ranges.second.fits refl refl c.in-14.is;
      letters = (
        run_spelled c.args.first c.args.second 4 4 c.ranges.second.fits c.run-in-14.ensures,
        (runs_spelled c.args.first c.args.second 8 4 0 4 c.ranges.second.fits c.runs.ensures, tt),
      );
    })

-- words that begin with 10, and have a 0 in bit 12
displaced_word : (first v : ℕ) → first < 65536 → first / 4096 ≡ v → bit_and (v * 4096) 53248 ≡ 32768 → bit_and first 53248 ≡ 32768
displaced_word first v f e k = part first 61440 (v * 4096) 53248 32768 refl k (begins first 12 v (omega arith) f e)

pub displaced-requires : goal.displaced-requires
displaced-requires c = displaced_word c.args.first 8 c.ranges.first.fits c.in-8.is refl

pub displaced-requires-in-10 : goal.displaced-requires-in-10
displaced-requires-in-10 c = displaced_word c.args.first 10 c.ranges.first.fits c.in-10.is refl
