use Rattle.std.proofs.Common.{◌≡◌, ◌≢◌, ℕ, ◌+◌, ◌*◌, ◌/◌, ◌<◌, bit_and, refl, arith}
use Rattle.avr_table.specs.Pattern.{places, spelled}
use Rattle.avr_table.specs.Rows.{pattern_of, padded, ReadsAt}
use Rattle.avr_table.specs.declared.Instr.{Instr}
use Rattle.avr_table.specs.declared.Instr.TheVariants.{Mulsu, Fmul, Fmuls, Fmulsu}
use Rattle.avr_table.proofs.Apart.{apart_not}
use Rattle.avr_decode.proofs.Leaves.{some_read, none_read, by_mask, by_shift, not_mask}
use Rattle.avr_decode.proofs.Letters.{run_spelled}
use Rattle.avr_decode.proofs.decoder.words_0000_0011.Goals as goal

pub returns-in-768 : goal.returns-in-768
unfolding spelled
returns-in-768 c = λ second below. some_read c.args.first second (Mulsu c.run-d.result c.run-r.result)
    (record {
      fixed = by_mask (pattern_of (Mulsu c.run-d.result c.run-r.result)) 65416 768 c.args.first second below refl refl c.in-768.is;
      letters = (
        run_spelled c.args.first second 4 3 below c.run-d.ensures,
        (
          run_spelled c.args.first second 0 3 below c.run-r.ensures,
          tt,
        ),
      );
    })

pub returns-in-776 : goal.returns-in-776
unfolding spelled
returns-in-776 c = λ second below. some_read c.args.first second (Fmul c.run-d.result c.run-r.result)
    (record {
      fixed = by_mask (pattern_of (Fmul c.run-d.result c.run-r.result)) 65416 776 c.args.first second below refl refl c.in-776.is;
      letters = (
        run_spelled c.args.first second 4 3 below c.run-d.ensures,
        (
          run_spelled c.args.first second 0 3 below c.run-r.ensures,
          tt,
        ),
      );
    })

pub returns-in-896 : goal.returns-in-896
unfolding spelled
returns-in-896 c = λ second below. some_read c.args.first second (Fmuls c.run-d.result c.run-r.result)
    (record {
      fixed = by_mask (pattern_of (Fmuls c.run-d.result c.run-r.result)) 65416 896 c.args.first second below refl refl c.in-896.is;
      letters = (
        run_spelled c.args.first second 4 3 below c.run-d.ensures,
        (
          run_spelled c.args.first second 0 3 below c.run-r.ensures,
          tt,
        ),
      );
    })

pub returns-in-904 : goal.returns-in-904
unfolding spelled
returns-in-904 c = λ second below. some_read c.args.first second (Fmulsu c.run-d.result c.run-r.result)
    (record {
      fixed = by_mask (pattern_of (Fmulsu c.run-d.result c.run-r.result)) 65416 904 c.args.first second below refl refl c.in-904.is;
      letters = (
        run_spelled c.args.first second 4 3 below c.run-d.ensures,
        (
          run_spelled c.args.first second 0 3 below c.run-r.ensures,
          tt,
        ),
      );
    })

-- no row of the table is left
none : (first second : ℕ) → first < 65536 → second < 65536 → first / 256 ≡ 3 → bit_and first 65416 ≢ 768 → bit_and first 65416 ≢ 776
    → bit_and first 65416 ≢ 896 → bit_and first 65416 ≢ 904 → (i : Instr) → ReadsAt (first * 65536 + second) i → ⊥
none first second f below top h0 h1 h2 h3 (Mulsu d r) h = not_mask (pattern_of (Mulsu d r)) 65416 768 first second below refl refl h0
    h.fixed
none first second f below top h0 h1 h2 h3 (Fmul d r) h = not_mask (pattern_of (Fmul d r)) 65416 776 first second below refl refl h1 h.fixed
none first second f below top h0 h1 h2 h3 (Fmuls d r) h = not_mask (pattern_of (Fmuls d r)) 65416 896 first second below refl refl h2
    h.fixed
none first second f below top h0 h1 h2 h3 (Fmulsu d r) h = not_mask (pattern_of (Fmulsu d r)) 65416 904 first second below refl refl h3
    h.fixed
none first second f below top h0 h1 h2 h3 i h = apart_not (padded (places "0000 0011")) (pattern_of i) (first * 65536 + second) refl
    (by_shift (padded (places "0000 0011")) 8 3 first second (omega arith) f below refl refl top) h.fixed

pub returns-in_default : goal.returns-in_default
returns-in_default c = λ second below. none_read c.args.first second (none c.args.first second c.ranges.first.fits below c.requires
    (assumption c) (assumption c) (assumption c) (assumption c))
