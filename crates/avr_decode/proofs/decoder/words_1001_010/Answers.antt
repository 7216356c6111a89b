use Rattle.std.proofs.Common.{◌≡◌, ℕ, ◌+◌, ◌*◌, ◌<◌, ◌≤◌, refl, sym, subst, ◌∙◌, arith}
use Rattle.avr_table.specs.Pattern.{places, spelled}
use Rattle.avr_table.specs.Rows.{pattern_of, padded, ReadsAt}
use Rattle.avr_table.specs.declared.Instr.{Instr}
use Rattle.avr_table.specs.declared.Instr.TheVariants.{Ijmp, Jmp, Icall, Call}
use Rattle.avr_table.proofs.Apart.{apart_not}
use Rattle.avr_decode.specs.Decoded.{Decoded}
use Rattle.avr_decode.proofs.Leaves.{some_read, none_read, by_word, by_target, target_back}
use Rattle.avr_decode.proofs.Letters.{target_spelled}
use Rattle.avr_decode.proofs.decoder.words_1001_010.Goals as goal

pub returns-in-37897 : goal.returns-in-37897
returns-in-37897 c = some_read c.args.first c.args.second Ijmp
    (record {
      fixed = by_word (pattern_of Ijmp) 37897 c.args.first c.args.second c.ranges.first.fits c.ranges.second.fits refl refl
          c.in-37897.is;
      letters = tt;
    })

pub returns-in-38153 : goal.returns-in-38153
returns-in-38153 c = some_read c.args.first c.args.second Icall
    (record {
      fixed = by_word (pattern_of Icall) 38153 c.args.first c.args.second c.ranges.first.fits c.ranges.second.fits refl refl
          c.in-38153.is;
      letters = tt;
    })

-- JMP with a target that is no word of the flash
none_jmp : (first second : ℕ) → first < 65536 → second < 65536 → first ≡ 37900 → 32768 ≤ second → (i : Instr)
    → ReadsAt (first * 65536 + second) i → ⊥
none_jmp first second f below e far (Jmp k) h = let b : second < 32768 = (target_back (pattern_of (Jmp k)) 37900 first second f below refl
    refl h.fixed).1 in omega arith
none_jmp first second f below e far i h = apart_not (padded (places "1001 0100 0000 1100")) (pattern_of i) (first * 65536 + second) refl
    (by_word (padded (places "1001 0100 0000 1100")) 37900 first second f below refl refl e) h.fixed

pub returns-in_err-target-in-37900 : goal.returns-in_err-target-in-37900
returns-in_err-target-in-37900 c =
    subst (Decoded c.args.first c.args.second) (sym c.from_residual.ensures)
    (none_read c.args.first c.args.second (none_jmp c.args.first c.args.second c.ranges.first.fits c.ranges.second.fits c.in-37900.is
    c.in_err-target-in-37900.ensures.none))

pub returns-in_ok-target-in-37900 : goal.returns-in_ok-target-in-37900
unfolding spelled
returns-in_ok-target-in-37900 c =
    let below : c.args.second < 32768 = omega (arith, c.in_ok-target-in-37900.ensures.some, c.in_ok-target-in-37900.field-0.in_range) in
    some_read c.args.first c.args.second (Jmp c.in_ok-target-in-37900.field-0)
    (record {
      fixed = by_target (pattern_of (Jmp c.in_ok-target-in-37900.field-0)) 37900 c.args.first c.args.second c.ranges.first.fits below refl
          refl c.in-37900.is;
      letters = (c.in_ok-target-in-37900.ensures.some ∙ target_spelled c.args.first c.args.second below, tt);
    })

-- CALL with a target that is no word of the flash
none_call : (first second : ℕ) → first < 65536 → second < 65536 → first ≡ 37902 → 32768 ≤ second → (i : Instr)
    → ReadsAt (first * 65536 + second) i → ⊥
none_call first second f below e far (Call k) h = let b : second < 32768 = (target_back (pattern_of (Call k)) 37902 first second f below
    refl refl h.fixed).1 in omega arith
none_call first second f below e far i h = apart_not (padded (places "1001 0100 0000 1110")) (pattern_of i) (first * 65536 + second) refl
    (by_word (padded (places "1001 0100 0000 1110")) 37902 first second f below refl refl e) h.fixed

pub returns-in_err-target-in-37902 : goal.returns-in_err-target-in-37902
returns-in_err-target-in-37902 c =
    subst (Decoded c.args.first c.args.second) (sym c.from_residual-in_err-target-in-37902.ensures)
    (none_read c.args.first c.args.second (none_call c.args.first c.args.second c.ranges.first.fits c.ranges.second.fits c.in-37902.is
    c.in_err-target-in-37902.ensures.none))

pub returns-in_ok-target-in-37902 : goal.returns-in_ok-target-in-37902
unfolding spelled
returns-in_ok-target-in-37902 c =
    let below : c.args.second < 32768 = omega (arith, c.in_ok-target-in-37902.ensures.some, c.in_ok-target-in-37902.field-0.in_range) in
    some_read c.args.first c.args.second (Call c.in_ok-target-in-37902.field-0)
    (record {
      fixed = by_target (pattern_of (Call c.in_ok-target-in-37902.field-0)) 37902 c.args.first c.args.second c.ranges.first.fits below refl
          refl c.in-37902.is;
      letters = (c.in_ok-target-in-37902.ensures.some ∙ target_spelled c.args.first c.args.second below, tt);
    })
