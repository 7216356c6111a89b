use Rattle.std.proofs.Common.{◌≡◌, ◌≢◌, ℕ, ◌+◌, ◌*◌, ◌/◌, ◌<◌, bit_and, refl, arith}
use Rattle.avr_table.specs.Pattern.{places, spelled}
use Rattle.avr_table.specs.Rows.{pattern_of, padded, ReadsAt}
use Rattle.avr_table.specs.declared.Instr.{Instr}
use Rattle.avr_table.specs.declared.Instr.TheVariants.{Com, Neg, Inc, Dec, Ijmp, Jmp, Icall, Call, Ret, Reti, Lpm, Spm, Lsr, Ror, Asr, Swap}
use Rattle.avr_table.specs.declared.Instr.TheVariants.{Bset, Bclr, Break, Sleep, Wdr}
use Rattle.avr_table.proofs.Apart.{apart_not}
use Rattle.avr_decode.proofs.Leaves.{some_read, none_read, by_mask, by_shift, not_part, not_mask, not_word, target_back}
use Rattle.avr_decode.proofs.Letters.{run_spelled}
use Rattle.avr_decode.proofs.decoder.one_register.Goals as goal

pub returns-in-37888 : goal.returns-in-37888
unfolding spelled
returns-in-37888 c = λ second below. some_read c.args.first second (Com c.run-d.result)
    (record {
      fixed = by_mask (pattern_of (Com c.run-d.result)) 65039 37888 c.args.first second below refl refl c.in-37888.is;
      letters = (run_spelled c.args.first second 4 5 below c.run-d.ensures, tt);
    })

pub returns-in-37889 : goal.returns-in-37889
unfolding spelled
returns-in-37889 c = λ second below. some_read c.args.first second (Neg c.run-d.result)
    (record {
      fixed = by_mask (pattern_of (Neg c.run-d.result)) 65039 37889 c.args.first second below refl refl c.in-37889.is;
      letters = (run_spelled c.args.first second 4 5 below c.run-d.ensures, tt);
    })

pub returns-in-37890 : goal.returns-in-37890
unfolding spelled
returns-in-37890 c = λ second below. some_read c.args.first second (Swap c.run-d.result)
    (record {
      fixed = by_mask (pattern_of (Swap c.run-d.result)) 65039 37890 c.args.first second below refl refl c.in-37890.is;
      letters = (run_spelled c.args.first second 4 5 below c.run-d.ensures, tt);
    })

pub returns-in-37891 : goal.returns-in-37891
unfolding spelled
returns-in-37891 c = λ second below. some_read c.args.first second (Inc c.run-d.result)
    (record {
      fixed = by_mask (pattern_of (Inc c.run-d.result)) 65039 37891 c.args.first second below refl refl c.in-37891.is;
      letters = (run_spelled c.args.first second 4 5 below c.run-d.ensures, tt);
    })

pub returns-in-37893 : goal.returns-in-37893
unfolding spelled
returns-in-37893 c = λ second below. some_read c.args.first second (Asr c.run-d.result)
    (record {
      fixed = by_mask (pattern_of (Asr c.run-d.result)) 65039 37893 c.args.first second below refl refl c.in-37893.is;
      letters = (run_spelled c.args.first second 4 5 below c.run-d.ensures, tt);
    })

pub returns-in-37894 : goal.returns-in-37894
unfolding spelled
returns-in-37894 c = λ second below. some_read c.args.first second (Lsr c.run-d.result)
    (record {
      fixed = by_mask (pattern_of (Lsr c.run-d.result)) 65039 37894 c.args.first second below refl refl c.in-37894.is;
      letters = (run_spelled c.args.first second 4 5 below c.run-d.ensures, tt);
    })

pub returns-in-37895 : goal.returns-in-37895
unfolding spelled
returns-in-37895 c = λ second below. some_read c.args.first second (Ror c.run-d.result)
    (record {
      fixed = by_mask (pattern_of (Ror c.run-d.result)) 65039 37895 c.args.first second below refl refl c.in-37895.is;
      letters = (run_spelled c.args.first second 4 5 below c.run-d.ensures, tt);
    })

pub returns-in-37898 : goal.returns-in-37898
unfolding spelled
returns-in-37898 c = λ second below. some_read c.args.first second (Dec c.run-d.result)
    (record {
      fixed = by_mask (pattern_of (Dec c.run-d.result)) 65039 37898 c.args.first second below refl refl c.in-37898.is;
      letters = (run_spelled c.args.first second 4 5 below c.run-d.ensures, tt);
    })

-- no row of the table is left
none : (first second : ℕ) → first < 65536 → second < 65536 → first / 512 ≡ 74 → bit_and first 65039 ≢ 37888 → bit_and first 65039 ≢ 37889
    → bit_and first 65039 ≢ 37890 → bit_and first 65039 ≢ 37891 → bit_and first 65039 ≢ 37893 → bit_and first 65039 ≢ 37894 → bit_and first
    65039 ≢ 37895 → bit_and first 65039 ≢ 37898 → bit_and first 65039 ≢ 37896 → first ≢ 37897 → first ≢ 38153 → first ≢ 37900
    → first ≢ 37902 → (i : Instr) → ReadsAt (first * 65536 + second) i → ⊥
none first second f below top h0 h1 h2 h3 h4 h5 h6 h7 h8 h9 h10 h11 h12 (Com d) h = not_mask (pattern_of (Com d)) 65039 37888 first second
    below refl refl h0 h.fixed
none first second f below top h0 h1 h2 h3 h4 h5 h6 h7 h8 h9 h10 h11 h12 (Neg d) h = not_mask (pattern_of (Neg d)) 65039 37889 first second
    below refl refl h1 h.fixed
none first second f below top h0 h1 h2 h3 h4 h5 h6 h7 h8 h9 h10 h11 h12 (Swap d) h = not_mask (pattern_of (Swap d)) 65039 37890 first second
    below refl refl h2 h.fixed
none first second f below top h0 h1 h2 h3 h4 h5 h6 h7 h8 h9 h10 h11 h12 (Inc d) h = not_mask (pattern_of (Inc d)) 65039 37891 first second
    below refl refl h3 h.fixed
none first second f below top h0 h1 h2 h3 h4 h5 h6 h7 h8 h9 h10 h11 h12 (Asr d) h = not_mask (pattern_of (Asr d)) 65039 37893 first second
    below refl refl h4 h.fixed
none first second f below top h0 h1 h2 h3 h4 h5 h6 h7 h8 h9 h10 h11 h12 (Lsr d) h = not_mask (pattern_of (Lsr d)) 65039 37894 first second
    below refl refl h5 h.fixed
none first second f below top h0 h1 h2 h3 h4 h5 h6 h7 h8 h9 h10 h11 h12 (Ror d) h = not_mask (pattern_of (Ror d)) 65039 37895 first second
    below refl refl h6 h.fixed
none first second f below top h0 h1 h2 h3 h4 h5 h6 h7 h8 h9 h10 h11 h12 (Dec d) h = not_mask (pattern_of (Dec d)) 65039 37898 first second
    below refl refl h7 h.fixed
none first second f below top h0 h1 h2 h3 h4 h5 h6 h7 h8 h9 h10 h11 h12 (Bset s) h = not_part (pattern_of (Bset s)) 65423 37896 65039 37896
    first second below refl refl refl refl h8 h.fixed
none first second f below top h0 h1 h2 h3 h4 h5 h6 h7 h8 h9 h10 h11 h12 (Bclr s) h = not_part (pattern_of (Bclr s)) 65423 38024 65039 37896
    first second below refl refl refl refl h8 h.fixed
none first second f below top h0 h1 h2 h3 h4 h5 h6 h7 h8 h9 h10 h11 h12 Ret h = not_part (pattern_of Ret) 65535 38152 65039 37896 first
    second below refl refl refl refl h8 h.fixed
none first second f below top h0 h1 h2 h3 h4 h5 h6 h7 h8 h9 h10 h11 h12 Reti h = not_part (pattern_of Reti) 65535 38168 65039 37896 first
    second below refl refl refl refl h8 h.fixed
none first second f below top h0 h1 h2 h3 h4 h5 h6 h7 h8 h9 h10 h11 h12 Sleep h = not_part (pattern_of Sleep) 65535 38280 65039 37896 first
    second below refl refl refl refl h8 h.fixed
none first second f below top h0 h1 h2 h3 h4 h5 h6 h7 h8 h9 h10 h11 h12 Break h = not_part (pattern_of Break) 65535 38296 65039 37896 first
    second below refl refl refl refl h8 h.fixed
none first second f below top h0 h1 h2 h3 h4 h5 h6 h7 h8 h9 h10 h11 h12 Wdr h = not_part (pattern_of Wdr) 65535 38312 65039 37896 first
    second below refl refl refl refl h8 h.fixed
none first second f below top h0 h1 h2 h3 h4 h5 h6 h7 h8 h9 h10 h11 h12 Lpm h = not_part (pattern_of Lpm) 65535 38344 65039 37896 first
    second below refl refl refl refl h8 h.fixed
none first second f below top h0 h1 h2 h3 h4 h5 h6 h7 h8 h9 h10 h11 h12 Spm h = not_part (pattern_of Spm) 65535 38376 65039 37896 first
    second below refl refl refl refl h8 h.fixed
none first second f below top h0 h1 h2 h3 h4 h5 h6 h7 h8 h9 h10 h11 h12 Ijmp h = not_word (pattern_of Ijmp) 37897 first second f below refl
    refl h9 h.fixed
none first second f below top h0 h1 h2 h3 h4 h5 h6 h7 h8 h9 h10 h11 h12 Icall h = not_word (pattern_of Icall) 38153 first second f below
    refl refl h10 h.fixed
none first second f below top h0 h1 h2 h3 h4 h5 h6 h7 h8 h9 h10 h11 h12 (Jmp k) h =
    h11 (target_back (pattern_of (Jmp k)) 37900 first second f below refl refl h.fixed).0
none first second f below top h0 h1 h2 h3 h4 h5 h6 h7 h8 h9 h10 h11 h12 (Call k) h =
    h12 (target_back (pattern_of (Call k)) 37902 first second f below refl refl h.fixed).0
none first second f below top h0 h1 h2 h3 h4 h5 h6 h7 h8 h9 h10 h11 h12 i h = apart_not (padded (places "1001 010")) (pattern_of i)
    (first * 65536 + second) refl (by_shift (padded (places "1001 010")) 9 74 first second (omega arith) f below refl refl top) h.fixed

pub returns-in_default : goal.returns-in_default
returns-in_default c = λ second below. none_read c.args.first second (none c.args.first second c.ranges.first.fits below c.requires.begins
    (assumption c) (assumption c) (assumption c) (assumption c) (assumption c) (assumption c) (assumption c) (assumption c) (assumption c)
    (assumption c) (assumption c) (assumption c) (assumption c))
