use Rattle.std.proofs.Common.{◌≡◌, ℕ, ◌+◌, ◌*◌, ◌/◌, ◌%◌, subst, arith}
use Rattle.avr_table.specs.Rows.{ReadsAt}
use Rattle.avr_table.specs.declared.Instr.{Instr}
use Rattle.avr_decode.proofs.SameWords.{same_first, same_second}
use Rattle.avr_decode.proofs.encoder.encode.Goals as goal

parts : (n : ℕ) (i : Instr) → ReadsAt n i → ReadsAt (n / 65536 * 65536 + n % 65536) i
parts n i h = let e : n ≡ n / 65536 * 65536 + n % 65536 = omega arith in subst (λ k. ReadsAt k i) e h

pub returns-clause-same_first : goal.returns-clause-same_first
returns-clause-same_first c = λ first second f s read.
    same_first c.args.i.now (c.both_words-number.result / 65536) (c.both_words-number.result % 65536) first second
    (omega (arith, c.both_words-number.type_inv)) (omega arith) f s
    (parts c.both_words-number.result c.args.i.now c.both_words-number.ensures.reads) read

pub returns-clause-same_second : goal.returns-clause-same_second
returns-clause-same_second c = λ first second f s read two.
    same_second c.args.i.now (c.both_words-number.result / 65536) (c.both_words-number.result % 65536) first second two
    (omega (arith, c.both_words-number.type_inv)) (omega arith) f s
    (parts c.both_words-number.result c.args.i.now c.both_words-number.ensures.reads) read
