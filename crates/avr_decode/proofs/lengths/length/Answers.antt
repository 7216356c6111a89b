use Rattle.std.proofs.Common.{◌∙◌, sym}
use Rattle.avr_decode.proofs.FirstWords.{lds_length, sts_length, jmp_length, call_length, one_length, length_read}
use Rattle.avr_decode.proofs.lengths.length.Goals as goal

pub returns-in-36864-clause-value : goal.returns-in-36864-clause-value
returns-in-36864-clause-value c = sym (lds_length c.args.first c.in-36864.is)

pub returns-in-36864-clause-words : goal.returns-in-36864-clause-words
returns-in-36864-clause-words c = λ second i below read. sym (lds_length c.args.first c.in-36864.is) ∙ length_read c.args.first second i
    c.ranges.first.fits below read

pub returns-in-37376-clause-value : goal.returns-in-37376-clause-value
returns-in-37376-clause-value c = sym (sts_length c.args.first c.in-37376.is)

pub returns-in-37376-clause-words : goal.returns-in-37376-clause-words
returns-in-37376-clause-words c = λ second i below read. sym (sts_length c.args.first c.in-37376.is) ∙ length_read c.args.first second i
    c.ranges.first.fits below read

pub returns-in-37900-clause-value : goal.returns-in-37900-clause-value
returns-in-37900-clause-value c = sym (jmp_length c.args.first c.in-37900.is)

pub returns-in-37900-clause-words : goal.returns-in-37900-clause-words
returns-in-37900-clause-words c = λ second i below read. sym (jmp_length c.args.first c.in-37900.is) ∙ length_read c.args.first second i
    c.ranges.first.fits below read

pub returns-in-37902-clause-value : goal.returns-in-37902-clause-value
returns-in-37902-clause-value c = sym (call_length c.args.first c.in-37902.is)

pub returns-in-37902-clause-words : goal.returns-in-37902-clause-words
returns-in-37902-clause-words c = λ second i below read. sym (call_length c.args.first c.in-37902.is) ∙ length_read c.args.first second i
    c.ranges.first.fits below read

pub returns-in_default-2-clause-value : goal.returns-in_default-2-clause-value
returns-in_default-2-clause-value c = sym (one_length c.args.first (assumption c) (assumption c) (assumption c) (assumption c))

pub returns-in_default-2-clause-words : goal.returns-in_default-2-clause-words
returns-in_default-2-clause-words c = λ second i below read. sym (one_length c.args.first (assumption c) (assumption c) (assumption c)
    (assumption c)) ∙ length_read c.args.first second i c.ranges.first.fits below read
