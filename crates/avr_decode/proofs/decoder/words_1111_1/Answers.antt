use Rattle.std.proofs.Common.{◌≡◌, ◌≢◌, ℕ, ◌+◌, ◌*◌, ◌/◌, ◌<◌, bit_and, refl, arith}
use Rattle.avr_table.specs.Pattern.{places, spelled}
use Rattle.avr_table.specs.Rows.{pattern_of, padded, ReadsAt}
use Rattle.avr_table.specs.declared.Instr.{Instr}
use Rattle.avr_table.specs.declared.Instr.TheVariants.{Sbrc, Sbrs, Bst, Bld}
use Rattle.avr_table.proofs.Apart.{apart_not}
use Rattle.avr_decode.proofs.Leaves.{some_read, none_read, by_mask, by_shift, not_mask}
use Rattle.avr_decode.proofs.Letters.{run_spelled}
use Rattle.avr_decode.proofs.decoder.words_1111_1.Goals as goal

pub returns-in-63488 : goal.returns-in-63488
unfolding spelled
returns-in-63488 c = λ second below. some_read c.args.first second (Bld c.run-register.result c.run-b.result)
    (record {
      fixed = by_mask (pattern_of (Bld c.run-register.result c.run-b.result)) 65032 63488 c.args.first second below refl refl
          c.in-63488.is;
      letters = (
        run_spelled c.args.first second 4 5 below c.run-register.ensures,
        (run_spelled c.args.first second 0 3 below c.run-b.ensures, tt),
      );
    })

pub returns-in-64000 : goal.returns-in-64000
unfolding spelled
returns-in-64000 c = λ second below. some_read c.args.first second (Bst c.run-register.result c.run-b.result)
    (record {
      fixed = by_mask (pattern_of (Bst c.run-register.result c.run-b.result)) 65032 64000 c.args.first second below refl refl
          c.in-64000.is;
      letters = (
        run_spelled c.args.first second 4 5 below c.run-register.ensures,
        (run_spelled c.args.first second 0 3 below c.run-b.ensures, tt),
      );
    })

pub returns-in-64512 : goal.returns-in-64512
unfolding spelled
returns-in-64512 c = λ second below. some_read c.args.first second (Sbrc c.run-register.result c.run-b.result)
    (record {
      fixed = by_mask (pattern_of (Sbrc c.run-register.result c.run-b.result)) 65032 64512 c.args.first second below refl refl
          c.in-64512.is;
      letters = (
        run_spelled c.args.first second 4 5 below c.run-register.ensures,
        (run_spelled c.args.first second 0 3 below c.run-b.ensures, tt),
      );
    })

pub returns-in-65024 : goal.returns-in-65024
unfolding spelled
returns-in-65024 c = λ second below. some_read c.args.first second (Sbrs c.run-register.result c.run-b.result)
    (record {
      fixed = by_mask (pattern_of (Sbrs c.run-register.result c.run-b.result)) 65032 65024 c.args.first second below refl refl
          c.in-65024.is;
      letters = (
        run_spelled c.args.first second 4 5 below c.run-register.ensures,
        (run_spelled c.args.first second 0 3 below c.run-b.ensures, tt),
      );
    })

-- no row of the table is left
none : (first second : ℕ) → first < 65536 → second < 65536 → first / 2048 ≡ 31 → bit_and first 65032 ≢ 63488 → bit_and first 65032 ≢ 64000
    → bit_and first 65032 ≢ 64512 → bit_and first 65032 ≢ 65024 → (i : Instr) → ReadsAt (first * 65536 + second) i → ⊥
none first second f below top h0 h1 h2 h3 (Bld d b) h = not_mask (pattern_of (Bld d b)) 65032 63488 first second below refl refl h0 h.fixed
none first second f below top h0 h1 h2 h3 (Bst d b) h = not_mask (pattern_of (Bst d b)) 65032 64000 first second below refl refl h1 h.fixed
none first second f below top h0 h1 h2 h3 (Sbrc r b) h = not_mask (pattern_of (Sbrc r b)) 65032 64512 first second below refl refl h2
    h.fixed
none first second f below top h0 h1 h2 h3 (Sbrs r b) h = not_mask (pattern_of (Sbrs r b)) 65032 65024 first second below refl refl h3
    h.fixed
none first second f below top h0 h1 h2 h3 i h = apart_not (padded (places "1111 1")) (pattern_of i) (first * 65536 + second) refl
    (by_shift (padded (places "1111 1")) 11 31 first second (omega arith) f below refl refl top) h.fixed

pub returns-in_default : goal.returns-in_default
returns-in_default c = λ second below. none_read c.args.first second (none c.args.first second c.ranges.first.fits below c.requires
    (assumption c) (assumption c) (assumption c) (assumption c))
