use Rattle.std.proofs.Common.{◌≡◌, ◌≢◌, ℕ, ◌+◌, ◌*◌, ◌/◌, ◌<◌, bit_and, refl, ◌∙◌, arith}
use Rattle.avr_table.specs.Pattern.{places, spelled}
use Rattle.avr_table.specs.Rows.{pattern_of, padded, ReadsAt}
use Rattle.avr_table.specs.declared.Instr.{Instr}
use Rattle.avr_table.specs.declared.Instr.TheVariants.{LdX, LdXInc, LdXDec, LdYInc, LdYDec, LdZInc, LdZDec, Lds, LpmZ, LpmZInc, Pop}
use Rattle.avr_table.proofs.Apart.{apart_not}
use Rattle.avr_decode.proofs.Leaves.{some_read, none_read, by_mask, by_shift, not_mask}
use Rattle.avr_decode.proofs.Letters.{run_spelled, second_spelled}
use Rattle.avr_decode.proofs.decoder.loads.Goals as goal

pub returns-in-36864 : goal.returns-in-36864
unfolding spelled
returns-in-36864 c = some_read c.args.first c.args.second (Lds c.run-d.result c.whole-k.result)
    (record {
      fixed = by_mask (pattern_of (Lds c.run-d.result c.whole-k.result)) 65039 36864 c.args.first c.args.second c.ranges.second.fits
          refl refl c.in-36864.is;
      letters = (
        run_spelled c.args.first c.args.second 4 5 c.ranges.second.fits c.run-d.ensures,
        (c.whole-k.ensures ∙ second_spelled c.args.first c.args.second c.ranges.second.fits, tt),
      );
    })

pub returns-in-36865 : goal.returns-in-36865
unfolding spelled
returns-in-36865 c = some_read c.args.first c.args.second (LdZInc c.run-d.result)
    (record {
      fixed = by_mask (pattern_of (LdZInc c.run-d.result)) 65039 36865 c.args.first c.args.second c.ranges.second.fits refl refl
          c.in-36865.is;
      letters = (run_spelled c.args.first c.args.second 4 5 c.ranges.second.fits c.run-d.ensures, tt);
    })

pub returns-in-36866 : goal.returns-in-36866
unfolding spelled
returns-in-36866 c = some_read c.args.first c.args.second (LdZDec c.run-d.result)
    (record {
      fixed = by_mask (pattern_of (LdZDec c.run-d.result)) 65039 36866 c.args.first c.args.second c.ranges.second.fits refl refl
          c.in-36866.is;
      letters = (run_spelled c.args.first c.args.second 4 5 c.ranges.second.fits c.run-d.ensures, tt);
    })

pub returns-in-36868 : goal.returns-in-36868
unfolding spelled
returns-in-36868 c = some_read c.args.first c.args.second (LpmZ c.run-d.result)
    (record {
      fixed = by_mask (pattern_of (LpmZ c.run-d.result)) 65039 36868 c.args.first c.args.second c.ranges.second.fits refl refl
          c.in-36868.is;
      letters = (run_spelled c.args.first c.args.second 4 5 c.ranges.second.fits c.run-d.ensures, tt);
    })

pub returns-in-36869 : goal.returns-in-36869
unfolding spelled
returns-in-36869 c = some_read c.args.first c.args.second (LpmZInc c.run-d.result)
    (record {
      fixed = by_mask (pattern_of (LpmZInc c.run-d.result)) 65039 36869 c.args.first c.args.second c.ranges.second.fits refl refl
          c.in-36869.is;
      letters = (run_spelled c.args.first c.args.second 4 5 c.ranges.second.fits c.run-d.ensures, tt);
    })

pub returns-in-36873 : goal.returns-in-36873
unfolding spelled
returns-in-36873 c = some_read c.args.first c.args.second (LdYInc c.run-d.result)
    (record {
      fixed = by_mask (pattern_of (LdYInc c.run-d.result)) 65039 36873 c.args.first c.args.second c.ranges.second.fits refl refl
          c.in-36873.is;
      letters = (run_spelled c.args.first c.args.second 4 5 c.ranges.second.fits c.run-d.ensures, tt);
    })

pub returns-in-36874 : goal.returns-in-36874
unfolding spelled
returns-in-36874 c = some_read c.args.first c.args.second (LdYDec c.run-d.result)
    (record {
      fixed = by_mask (pattern_of (LdYDec c.run-d.result)) 65039 36874 c.args.first c.args.second c.ranges.second.fits refl refl
          c.in-36874.is;
      letters = (run_spelled c.args.first c.args.second 4 5 c.ranges.second.fits c.run-d.ensures, tt);
    })

pub returns-in-36876 : goal.returns-in-36876
unfolding spelled
returns-in-36876 c = some_read c.args.first c.args.second (LdX c.run-d.result)
    (record {
      fixed = by_mask (pattern_of (LdX c.run-d.result)) 65039 36876 c.args.first c.args.second c.ranges.second.fits refl refl
          c.in-36876.is;
      letters = (run_spelled c.args.first c.args.second 4 5 c.ranges.second.fits c.run-d.ensures, tt);
    })

pub returns-in-36877 : goal.returns-in-36877
unfolding spelled
returns-in-36877 c = some_read c.args.first c.args.second (LdXInc c.run-d.result)
    (record {
      fixed = by_mask (pattern_of (LdXInc c.run-d.result)) 65039 36877 c.args.first c.args.second c.ranges.second.fits refl refl
          c.in-36877.is;
      letters = (run_spelled c.args.first c.args.second 4 5 c.ranges.second.fits c.run-d.ensures, tt);
    })

pub returns-in-36878 : goal.returns-in-36878
unfolding spelled
returns-in-36878 c = some_read c.args.first c.args.second (LdXDec c.run-d.result)
    (record {
      fixed = by_mask (pattern_of (LdXDec c.run-d.result)) 65039 36878 c.args.first c.args.second c.ranges.second.fits refl refl
          c.in-36878.is;
      letters = (run_spelled c.args.first c.args.second 4 5 c.ranges.second.fits c.run-d.ensures, tt);
    })

pub returns-in-36879 : goal.returns-in-36879
unfolding spelled
returns-in-36879 c = some_read c.args.first c.args.second (Pop c.run-d.result)
    (record {
      fixed = by_mask (pattern_of (Pop c.run-d.result)) 65039 36879 c.args.first c.args.second c.ranges.second.fits refl refl
          c.in-36879.is;
      letters = (run_spelled c.args.first c.args.second 4 5 c.ranges.second.fits c.run-d.ensures, tt);
    })

-- no row of the table is left
none : (first second : ℕ) → first < 65536 → second < 65536 → first / 512 ≡ 72 → bit_and first 65039 ≢ 36864 → bit_and first 65039 ≢ 36865
    → bit_and first 65039 ≢ 36866 → bit_and first 65039 ≢ 36868 → bit_and first 65039 ≢ 36869 → bit_and first 65039 ≢ 36873 → bit_and first
    65039 ≢ 36874 → bit_and first 65039 ≢ 36876 → bit_and first 65039 ≢ 36877 → bit_and first 65039 ≢ 36878 → bit_and first 65039 ≢ 36879
    → (i : Instr) → ReadsAt (first * 65536 + second) i → ⊥
none first second f below top h0 h1 h2 h3 h4 h5 h6 h7 h8 h9 h10 (Lds d k) h = not_mask (pattern_of (Lds d k)) 65039 36864 first second below
    refl refl h0 h.fixed
none first second f below top h0 h1 h2 h3 h4 h5 h6 h7 h8 h9 h10 (LdZInc d) h = not_mask (pattern_of (LdZInc d)) 65039 36865 first second
    below refl refl h1 h.fixed
none first second f below top h0 h1 h2 h3 h4 h5 h6 h7 h8 h9 h10 (LdZDec d) h = not_mask (pattern_of (LdZDec d)) 65039 36866 first second
    below refl refl h2 h.fixed
none first second f below top h0 h1 h2 h3 h4 h5 h6 h7 h8 h9 h10 (LpmZ d) h = not_mask (pattern_of (LpmZ d)) 65039 36868 first second below
    refl refl h3 h.fixed
none first second f below top h0 h1 h2 h3 h4 h5 h6 h7 h8 h9 h10 (LpmZInc d) h = not_mask (pattern_of (LpmZInc d)) 65039 36869 first second
    below refl refl h4 h.fixed
none first second f below top h0 h1 h2 h3 h4 h5 h6 h7 h8 h9 h10 (LdYInc d) h = not_mask (pattern_of (LdYInc d)) 65039 36873 first second
    below refl refl h5 h.fixed
none first second f below top h0 h1 h2 h3 h4 h5 h6 h7 h8 h9 h10 (LdYDec d) h = not_mask (pattern_of (LdYDec d)) 65039 36874 first second
    below refl refl h6 h.fixed
none first second f below top h0 h1 h2 h3 h4 h5 h6 h7 h8 h9 h10 (LdX d) h = not_mask (pattern_of (LdX d)) 65039 36876 first second below
    refl refl h7 h.fixed
none first second f below top h0 h1 h2 h3 h4 h5 h6 h7 h8 h9 h10 (LdXInc d) h = not_mask (pattern_of (LdXInc d)) 65039 36877 first second
    below refl refl h8 h.fixed
none first second f below top h0 h1 h2 h3 h4 h5 h6 h7 h8 h9 h10 (LdXDec d) h = not_mask (pattern_of (LdXDec d)) 65039 36878 first second
    below refl refl h9 h.fixed
none first second f below top h0 h1 h2 h3 h4 h5 h6 h7 h8 h9 h10 (Pop d) h = not_mask (pattern_of (Pop d)) 65039 36879 first second below
    refl refl h10 h.fixed
none first second f below top h0 h1 h2 h3 h4 h5 h6 h7 h8 h9 h10 i h = apart_not (padded (places "1001 000")) (pattern_of i)
    (first * 65536 + second) refl (by_shift (padded (places "1001 000")) 9 72 first second (omega arith) f below refl refl top) h.fixed

pub returns-in_default : goal.returns-in_default
returns-in_default c = none_read c.args.first c.args.second (none c.args.first c.args.second c.ranges.first.fits c.ranges.second.fits
    c.requires (assumption c) (assumption c) (assumption c) (assumption c) (assumption c) (assumption c) (assumption c) (assumption c)
    (assumption c) (assumption c) (assumption c))
