use Rattle.std.proofs.Common.{◌≡◌, ◌≢◌, ℕ, ◌+◌, ◌*◌, ◌<◌, bit_and, refl}
use Rattle.avr_table.specs.Pattern.{places, spelled}
use Rattle.avr_table.specs.Rows.{pattern_of, padded, ReadsAt}
use Rattle.avr_table.specs.declared.Instr.{Instr}
use Rattle.avr_table.specs.declared.Instr.TheVariants.{Ret, Reti, Lpm, Spm, Bset, Bclr, Break, Sleep, Wdr}
use Rattle.avr_table.proofs.Apart.{apart_not}
use Rattle.avr_decode.proofs.Leaves.{some_read, none_read, by_mask, by_word, not_mask, not_word}
use Rattle.avr_decode.proofs.Letters.{run_spelled}
use Rattle.avr_decode.proofs.decoder.control.Goals as goal

pub returns-in-37896 : goal.returns-in-37896
unfolding spelled
returns-in-37896 c = λ second below. some_read c.args.first second (Bset c.run.result)
    (record {
      fixed = by_mask (pattern_of (Bset c.run.result)) 65423 37896 c.args.first second below refl refl c.in-37896.is;
      letters = (run_spelled c.args.first second 4 3 below c.run.ensures, tt);
    })

pub returns-in-38024 : goal.returns-in-38024
unfolding spelled
returns-in-38024 c = λ second below. some_read c.args.first second (Bclr c.run-in-38024.result)
    (record {
      fixed = by_mask (pattern_of (Bclr c.run-in-38024.result)) 65423 38024 c.args.first second below refl refl c.in-38024.is;
      letters = (run_spelled c.args.first second 4 3 below c.run-in-38024.ensures, tt);
    })

pub returns-in-38152 : goal.returns-in-38152
returns-in-38152 c = λ second below. some_read c.args.first second Ret
    (record { fixed = by_word (pattern_of Ret) 38152 c.args.first second c.ranges.first.fits below refl refl c.in-38152.is; letters = tt })

pub returns-in-38168 : goal.returns-in-38168
returns-in-38168 c = λ second below. some_read c.args.first second Reti
    (record { fixed = by_word (pattern_of Reti) 38168 c.args.first second c.ranges.first.fits below refl refl c.in-38168.is; letters = tt })

pub returns-in-38280 : goal.returns-in-38280
returns-in-38280 c = λ second below. some_read c.args.first second Sleep
    (record {
      fixed = by_word (pattern_of Sleep) 38280 c.args.first second c.ranges.first.fits below refl refl c.in-38280.is;
      letters = tt;
    })

pub returns-in-38296 : goal.returns-in-38296
returns-in-38296 c = λ second below. some_read c.args.first second Break
    (record {
      fixed = by_word (pattern_of Break) 38296 c.args.first second c.ranges.first.fits below refl refl c.in-38296.is;
      letters = tt;
    })

pub returns-in-38312 : goal.returns-in-38312
returns-in-38312 c = λ second below. some_read c.args.first second Wdr
    (record { fixed = by_word (pattern_of Wdr) 38312 c.args.first second c.ranges.first.fits below refl refl c.in-38312.is; letters = tt })

pub returns-in-38344 : goal.returns-in-38344
returns-in-38344 c = λ second below. some_read c.args.first second Lpm
    (record { fixed = by_word (pattern_of Lpm) 38344 c.args.first second c.ranges.first.fits below refl refl c.in-38344.is; letters = tt })

pub returns-in-38376 : goal.returns-in-38376
returns-in-38376 c = λ second below. some_read c.args.first second Spm
    (record { fixed = by_word (pattern_of Spm) 38376 c.args.first second c.ranges.first.fits below refl refl c.in-38376.is; letters = tt })

-- no row of the table is left
none : (first second : ℕ) → first < 65536 → second < 65536 → bit_and first 65039 ≡ 37896 → bit_and first 65423 ≢ 37896 → bit_and first 65423
    ≢ 38024 → first ≢ 38152 → first ≢ 38168 → first ≢ 38280 → first ≢ 38296 → first ≢ 38312 → first ≢ 38344 → first ≢ 38376 → (i : Instr)
    → ReadsAt (first * 65536 + second) i → ⊥
none first second f below top h0 h1 h2 h3 h4 h5 h6 h7 h8 (Bset s) h = not_mask (pattern_of (Bset s)) 65423 37896 first second below refl
    refl h0 h.fixed
none first second f below top h0 h1 h2 h3 h4 h5 h6 h7 h8 (Bclr s) h = not_mask (pattern_of (Bclr s)) 65423 38024 first second below refl
    refl h1 h.fixed
none first second f below top h0 h1 h2 h3 h4 h5 h6 h7 h8 Ret h = not_word (pattern_of Ret) 38152 first second f below refl refl h2 h.fixed
none first second f below top h0 h1 h2 h3 h4 h5 h6 h7 h8 Reti h = not_word (pattern_of Reti) 38168 first second f below refl refl h3 h.fixed
none first second f below top h0 h1 h2 h3 h4 h5 h6 h7 h8 Sleep h = not_word (pattern_of Sleep) 38280 first second f below refl refl h4
    h.fixed
none first second f below top h0 h1 h2 h3 h4 h5 h6 h7 h8 Break h = not_word (pattern_of Break) 38296 first second f below refl refl h5
    h.fixed
none first second f below top h0 h1 h2 h3 h4 h5 h6 h7 h8 Wdr h = not_word (pattern_of Wdr) 38312 first second f below refl refl h6 h.fixed
none first second f below top h0 h1 h2 h3 h4 h5 h6 h7 h8 Lpm h = not_word (pattern_of Lpm) 38344 first second f below refl refl h7 h.fixed
none first second f below top h0 h1 h2 h3 h4 h5 h6 h7 h8 Spm h = not_word (pattern_of Spm) 38376 first second f below refl refl h8 h.fixed
none first second f below top h0 h1 h2 h3 h4 h5 h6 h7 h8 i h = apart_not (padded (places "1001 010- ---- 1000")) (pattern_of i)
    (first * 65536 + second) refl (by_mask (padded (places "1001 010- ---- 1000")) 65039 37896 first second below refl refl top) h.fixed

pub returns-in_default-first : goal.returns-in_default-first
returns-in_default-first c = λ second below. none_read c.args.first second (none c.args.first second c.ranges.first.fits below c.requires
    (assumption c) (assumption c) (assumption c) (assumption c) (assumption c) (assumption c) (assumption c) (assumption c) (assumption c))
