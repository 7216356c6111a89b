use Rattle.std.proofs.Common.{length, sym, ◌∙◌, ap}
use Rattle.avr_macro.proofs.Reading.{letters_more, letters_told, nothing_left}
use Rattle.avr_macro.proofs.readers.Reader.name.Goals as goal

pub loop-byte-preserved : goal.loop-byte-preserved
loop-byte-preserved c = record {
  letters = letters_more (length c.as_slice.result.now) c.loop-byte.ahead _ _ _ _ _ _ _ _ c.letter.ensures c.in-Some.is
      c.in_ok-push.ensures.items c.next-ahead.ensures c.loop-byte.invariant.letters;
  ended = nothing_left _ _ _ c.next-ahead.ensures;
}

pub returns : goal.returns
returns c =
    letters_told (length c.as_slice.result.now) c.loop-byte.ahead _ _ _ (sym c.in_default.is ∙ c.letter.ensures)
    (ap length c.as_slice.ensures.value) c.loop-byte.invariant.ended c.loop-byte.invariant.letters
