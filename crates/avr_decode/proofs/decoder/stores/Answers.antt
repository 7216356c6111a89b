use Rattle.std.proofs.Common.{◌≡◌, ◌≢◌, ℕ, ◌+◌, ◌*◌, ◌/◌, ◌<◌, bit_and, refl, ◌∙◌, arith}
use Rattle.avr_table.specs.Pattern.{places, spelled}
use Rattle.avr_table.specs.Rows.{pattern_of, padded, ReadsAt}
use Rattle.avr_table.specs.declared.Instr.{Instr}
use Rattle.avr_table.specs.declared.Instr.TheVariants.{StX, StXInc, StXDec, StYInc, StYDec, StZInc, StZDec, Sts, Push}
use Rattle.avr_table.proofs.Apart.{apart_not}
use Rattle.avr_decode.proofs.Leaves.{some_read, none_read, by_mask, by_shift, not_mask}
use Rattle.avr_decode.proofs.Letters.{run_spelled, second_spelled}
use Rattle.avr_decode.proofs.decoder.stores.Goals as goal

pub returns-in-37376 : goal.returns-in-37376
unfolding spelled
returns-in-37376 c = some_read c.args.first c.args.second (Sts c.whole-k.result c.run-r.result)
    (record {
      fixed = by_mask (pattern_of (Sts c.whole-k.result c.run-r.result)) 65039 37376 c.args.first c.args.second c.ranges.second.fits
          refl refl c.in-37376.is;
      letters = (
        c.whole-k.ensures ∙ second_spelled c.args.first c.args.second c.ranges.second.fits,
        (run_spelled c.args.first c.args.second 4 5 c.ranges.second.fits c.run-r.ensures, tt),
      );
    })

pub returns-in-37377 : goal.returns-in-37377
unfolding spelled
returns-in-37377 c = some_read c.args.first c.args.second (StZInc c.run-r.result)
    (record {
      fixed = by_mask (pattern_of (StZInc c.run-r.result)) 65039 37377 c.args.first c.args.second c.ranges.second.fits refl refl
          c.in-37377.is;
      letters = (run_spelled c.args.first c.args.second 4 5 c.ranges.second.fits c.run-r.ensures, tt);
    })

pub returns-in-37378 : goal.returns-in-37378
unfolding spelled
returns-in-37378 c = some_read c.args.first c.args.second (StZDec c.run-r.result)
    (record {
      fixed = by_mask (pattern_of (StZDec c.run-r.result)) 65039 37378 c.args.first c.args.second c.ranges.second.fits refl refl
          c.in-37378.is;
      letters = (run_spelled c.args.first c.args.second 4 5 c.ranges.second.fits c.run-r.ensures, tt);
    })

pub returns-in-37385 : goal.returns-in-37385
unfolding spelled
returns-in-37385 c = some_read c.args.first c.args.second (StYInc c.run-r.result)
    (record {
      fixed = by_mask (pattern_of (StYInc c.run-r.result)) 65039 37385 c.args.first c.args.second c.ranges.second.fits refl refl
          c.in-37385.is;
      letters = (run_spelled c.args.first c.args.second 4 5 c.ranges.second.fits c.run-r.ensures, tt);
    })

pub returns-in-37386 : goal.returns-in-37386
unfolding spelled
returns-in-37386 c = some_read c.args.first c.args.second (StYDec c.run-r.result)
    (record {
      fixed = by_mask (pattern_of (StYDec c.run-r.result)) 65039 37386 c.args.first c.args.second c.ranges.second.fits refl refl
          c.in-37386.is;
      letters = (run_spelled c.args.first c.args.second 4 5 c.ranges.second.fits c.run-r.ensures, tt);
    })

pub returns-in-37388 : goal.returns-in-37388
unfolding spelled
returns-in-37388 c = some_read c.args.first c.args.second (StX c.run-r.result)
    (record {
      fixed = by_mask (pattern_of (StX c.run-r.result)) 65039 37388 c.args.first c.args.second c.ranges.second.fits refl refl
          c.in-37388.is;
      letters = (run_spelled c.args.first c.args.second 4 5 c.ranges.second.fits c.run-r.ensures, tt);
    })

pub returns-in-37389 : goal.returns-in-37389
unfolding spelled
returns-in-37389 c = some_read c.args.first c.args.second (StXInc c.run-r.result)
    (record {
      fixed = by_mask (pattern_of (StXInc c.run-r.result)) 65039 37389 c.args.first c.args.second c.ranges.second.fits refl refl
          c.in-37389.is;
      letters = (run_spelled c.args.first c.args.second 4 5 c.ranges.second.fits c.run-r.ensures, tt);
    })

pub returns-in-37390 : goal.returns-in-37390
unfolding spelled
returns-in-37390 c = some_read c.args.first c.args.second (StXDec c.run-r.result)
    (record {
      fixed = by_mask (pattern_of (StXDec c.run-r.result)) 65039 37390 c.args.first c.args.second c.ranges.second.fits refl refl
          c.in-37390.is;
      letters = (run_spelled c.args.first c.args.second 4 5 c.ranges.second.fits c.run-r.ensures, tt);
    })

pub returns-in-37391 : goal.returns-in-37391
unfolding spelled
returns-in-37391 c = some_read c.args.first c.args.second (Push c.run-r.result)
    (record {
      fixed = by_mask (pattern_of (Push c.run-r.result)) 65039 37391 c.args.first c.args.second c.ranges.second.fits refl refl
          c.in-37391.is;
      letters = (run_spelled c.args.first c.args.second 4 5 c.ranges.second.fits c.run-r.ensures, tt);
    })

-- no row of the table is left
none : (first second : ℕ) → first < 65536 → second < 65536 → first / 512 ≡ 73 → bit_and first 65039 ≢ 37376 → bit_and first 65039 ≢ 37377
    → bit_and first 65039 ≢ 37378 → bit_and first 65039 ≢ 37385 → bit_and first 65039 ≢ 37386 → bit_and first 65039 ≢ 37388 → bit_and first
    65039 ≢ 37389 → bit_and first 65039 ≢ 37390 → bit_and first 65039 ≢ 37391 → (i : Instr) → ReadsAt (first * 65536 + second) i → ⊥
none first second f below top h0 h1 h2 h3 h4 h5 h6 h7 h8 (Sts k r) h = not_mask (pattern_of (Sts k r)) 65039 37376 first second below refl
    refl h0 h.fixed
none first second f below top h0 h1 h2 h3 h4 h5 h6 h7 h8 (StZInc r) h = not_mask (pattern_of (StZInc r)) 65039 37377 first second below refl
    refl h1 h.fixed
none first second f below top h0 h1 h2 h3 h4 h5 h6 h7 h8 (StZDec r) h = not_mask (pattern_of (StZDec r)) 65039 37378 first second below refl
    refl h2 h.fixed
none first second f below top h0 h1 h2 h3 h4 h5 h6 h7 h8 (StYInc r) h = not_mask (pattern_of (StYInc r)) 65039 37385 first second below refl
    refl h3 h.fixed
none first second f below top h0 h1 h2 h3 h4 h5 h6 h7 h8 (StYDec r) h = not_mask (pattern_of (StYDec r)) 65039 37386 first second below refl
    refl h4 h.fixed
none first second f below top h0 h1 h2 h3 h4 h5 h6 h7 h8 (StX r) h = not_mask (pattern_of (StX r)) 65039 37388 first second below refl refl
    h5 h.fixed
none first second f below top h0 h1 h2 h3 h4 h5 h6 h7 h8 (StXInc r) h = not_mask (pattern_of (StXInc r)) 65039 37389 first second below refl
    refl h6 h.fixed
none first second f below top h0 h1 h2 h3 h4 h5 h6 h7 h8 (StXDec r) h = not_mask (pattern_of (StXDec r)) 65039 37390 first second below refl
    refl h7 h.fixed
none first second f below top h0 h1 h2 h3 h4 h5 h6 h7 h8 (Push r) h = not_mask (pattern_of (Push r)) 65039 37391 first second below refl
    refl h8 h.fixed
none first second f below top h0 h1 h2 h3 h4 h5 h6 h7 h8 i h = apart_not (padded (places "1001 001")) (pattern_of i)
    (first * 65536 + second) refl (by_shift (padded (places "1001 001")) 9 73 first second (omega arith) f below refl refl top) h.fixed

pub returns-in_default : goal.returns-in_default
returns-in_default c = none_read c.args.first c.args.second (none c.args.first c.args.second c.ranges.first.fits c.ranges.second.fits
    c.requires (assumption c) (assumption c) (assumption c) (assumption c) (assumption c) (assumption c) (assumption c) (assumption c)
    (assumption c))
