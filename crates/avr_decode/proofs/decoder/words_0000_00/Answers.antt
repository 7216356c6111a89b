use Rattle.std.proofs.Common.{◌≡◌, ◌≢◌, ℕ, ◌+◌, ◌*◌, ◌/◌, ◌<◌, refl, arith}
use Rattle.avr_table.specs.Pattern.{places, spelled}
use Rattle.avr_table.specs.Rows.{pattern_of, padded, ReadsAt}
use Rattle.avr_table.specs.declared.Instr.{Instr}
use Rattle.avr_table.specs.declared.Instr.TheVariants.{Muls, Mulsu, Fmul, Fmuls, Fmulsu, Movw, Nop}
use Rattle.avr_table.proofs.Apart.{apart_not}
use Rattle.avr_decode.proofs.Leaves.{some_read, none_read, by_shift, by_word, not_part, not_begins, not_word}
use Rattle.avr_decode.proofs.Letters.{run_spelled}
use Rattle.avr_decode.proofs.decoder.words_0000_00.Goals as goal

pub returns-in-1 : goal.returns-in-1
unfolding spelled
returns-in-1 c = λ second below. some_read c.args.first second (Movw c.run-d.result c.run-r.result)
    (record {
      fixed = by_shift (pattern_of (Movw c.run-d.result c.run-r.result)) 8 1 c.args.first second (omega arith) c.ranges.first.fits
          below refl refl c.in-1.is;
      letters = (
        run_spelled c.args.first second 4 4 below c.run-d.ensures,
        (run_spelled c.args.first second 0 4 below c.run-r.ensures, tt),
      );
    })

pub returns-in-2 : goal.returns-in-2
unfolding spelled
returns-in-2 c = λ second below. some_read c.args.first second (Muls c.run-d.result c.run-r.result)
    (record {
      fixed = by_shift (pattern_of (Muls c.run-d.result c.run-r.result)) 8 2 c.args.first second (omega arith) c.ranges.first.fits
          below refl refl c.in-2.is;
      letters = (
        run_spelled c.args.first second 4 4 below c.run-d.ensures,
        (run_spelled c.args.first second 0 4 below c.run-r.ensures, tt),
      );
    })

pub returns-in_default : goal.returns-in_default
returns-in_default c = λ second below. some_read c.args.first second Nop
    (record {
      fixed = by_word (pattern_of Nop) 0 c.args.first second c.ranges.first.fits below refl refl c.if-first-eq0.true;
      letters = tt;
    })

-- no row of the table is left
none : (first second : ℕ) → first < 65536 → second < 65536 → first / 1024 ≡ 0 → first / 256 ≢ 1 → first / 256 ≢ 2 → first / 256 ≢ 3
    → first ≢ 0 → (i : Instr) → ReadsAt (first * 65536 + second) i → ⊥
none first second f below top h0 h1 h2 h3 (Movw d r) h = not_part (pattern_of (Movw d r)) 65280 256 65280 256 first second below refl refl
    refl refl (not_begins first 8 1 (omega arith) f h0) h.fixed
none first second f below top h0 h1 h2 h3 (Muls d r) h = not_part (pattern_of (Muls d r)) 65280 512 65280 512 first second below refl refl
    refl refl (not_begins first 8 2 (omega arith) f h1) h.fixed
none first second f below top h0 h1 h2 h3 (Mulsu d r) h = not_part (pattern_of (Mulsu d r)) 65416 768 65280 768 first second below refl refl
    refl refl (not_begins first 8 3 (omega arith) f h2) h.fixed
none first second f below top h0 h1 h2 h3 (Fmul d r) h = not_part (pattern_of (Fmul d r)) 65416 776 65280 768 first second below refl refl
    refl refl (not_begins first 8 3 (omega arith) f h2) h.fixed
none first second f below top h0 h1 h2 h3 (Fmuls d r) h = not_part (pattern_of (Fmuls d r)) 65416 896 65280 768 first second below refl refl
    refl refl (not_begins first 8 3 (omega arith) f h2) h.fixed
none first second f below top h0 h1 h2 h3 (Fmulsu d r) h = not_part (pattern_of (Fmulsu d r)) 65416 904 65280 768 first second below refl
    refl refl refl (not_begins first 8 3 (omega arith) f h2) h.fixed
none first second f below top h0 h1 h2 h3 Nop h = not_word (pattern_of Nop) 0 first second f below refl refl h3 h.fixed
none first second f below top h0 h1 h2 h3 i h = apart_not (padded (places "0000 00")) (pattern_of i) (first * 65536 + second) refl
    (by_shift (padded (places "0000 00")) 10 0 first second (omega arith) f below refl refl top) h.fixed

pub returns-in_default-2 : goal.returns-in_default-2
returns-in_default-2 c = λ second below. none_read c.args.first second (none c.args.first second c.ranges.first.fits below c.requires
    (assumption c) (assumption c) (assumption c) (assumption c))
