use Rattle.std.proofs.Common.{◌≡◌, ◌≢◌, ℕ, ◌+◌, ◌*◌, ◌<◌, bit_and, refl}
use Rattle.avr_table.specs.Pattern.{places, spelled}
use Rattle.avr_table.specs.Rows.{pattern_of, padded, ReadsAt}
use Rattle.avr_table.specs.declared.Instr.{Instr}
use Rattle.avr_table.specs.declared.Instr.TheVariants.{Ldd, Std}
use Rattle.avr_table.proofs.Apart.{apart_not}
use Rattle.avr_decode.proofs.Leaves.{some_read, none_read, by_mask, not_mask}
use Rattle.avr_decode.proofs.Letters.{run_spelled, displacement_spelled}
use Rattle.avr_decode.proofs.decoder.displaced.Goals as goal

pub returns-in-32768 : goal.returns-in-32768
unfolding spelled
returns-in-32768 c = λ second below. some_read c.args.first second (Ldd c.run-register.result c.run-y.result c.displacement-q.result)
    (record {
      fixed = by_mask (pattern_of (Ldd c.run-register.result c.run-y.result c.displacement-q.result)) 53760 32768 c.args.first
          second below refl refl c.in-32768.is;
      letters = (
        run_spelled c.args.first second 4 5 below c.run-register.ensures,
        (
          run_spelled c.args.first second 3 1 below c.run-y.ensures,
          (
            displacement_spelled c.args.first second below c.displacement-q.ensures,
            tt,
          ),
        ),
      );
    })

pub returns-in-33280 : goal.returns-in-33280
unfolding spelled
returns-in-33280 c = λ second below. some_read c.args.first second (Std c.run-y.result c.displacement-q.result c.run-register.result)
    (record {
      fixed = by_mask (pattern_of (Std c.run-y.result c.displacement-q.result c.run-register.result)) 53760 33280 c.args.first
          second below refl refl c.in-33280.is;
      letters = (
        run_spelled c.args.first second 3 1 below c.run-y.ensures,
        (
          displacement_spelled c.args.first second below c.displacement-q.ensures,
          (run_spelled c.args.first second 4 5 below c.run-register.ensures, tt),
        ),
      );
    })

-- no row of the table is left
none : (first second : ℕ) → first < 65536 → second < 65536 → bit_and first 53248 ≡ 32768 → bit_and first 53760 ≢ 32768 → bit_and first 53760
    ≢ 33280 → (i : Instr) → ReadsAt (first * 65536 + second) i → ⊥
none first second f below top h0 h1 (Ldd d y q) h = not_mask (pattern_of (Ldd d y q)) 53760 32768 first second below refl refl h0 h.fixed
none first second f below top h0 h1 (Std y q r) h = not_mask (pattern_of (Std y q r)) 53760 33280 first second below refl refl h1 h.fixed
none first second f below top h0 h1 i h = apart_not (padded (places "10-0")) (pattern_of i) (first * 65536 + second) refl
    (by_mask (padded (places "10-0")) 53248 32768 first second below refl refl top) h.fixed

pub returns-in_default : goal.returns-in_default
returns-in_default c = λ second below. none_read c.args.first second (none c.args.first second c.ranges.first.fits below c.requires
    (assumption c) (assumption c))
