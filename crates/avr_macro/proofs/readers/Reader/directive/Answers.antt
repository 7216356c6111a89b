use Rattle.std.proofs.Common.{◌∙◌, ap}
use Rattle.avr_macro.specs.Directives.{named_word}
use Rattle.avr_macro.proofs.Reading.{directive_read}
use Rattle.avr_macro.proofs.readers.Reader.directive.Goals as goal

pub returns-in_ok-name-in-Some : goal.returns-in_ok-name-in-Some
returns-in_ok-name-in-Some c =
    c.named_word.ensures ∙ ap named_word c.as_slice.ensures.value ∙ c.in_ok-name-in-Some.ensures ∙ directive_read _ _ _ _ _ _ _ _ _ _
    c.next-next.ensures c.in-Some.is c.past_blanks.ensures c.if-byte-ne46.false c.next-next-in-Some.ensures c.past_blanks-next.ensures
