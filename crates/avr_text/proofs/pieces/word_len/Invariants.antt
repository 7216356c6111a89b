use Rattle.std.proofs.Common.{◌≡◌, ◌+◌, drop}
use Rattle.std.specs.List.{prefix_len}
use Rattle.avr_text.specs.Characters.{is_word}
use Rattle.avr_text.proofs.pieces.word_len.Given as goal

-- the bytes so far, and what passes of the rest
abbrev pub invariant-loop-n : goal.invariant-loop-n
invariant-loop-n l = prefix_len is_word l.text ≡ l.n + prefix_len is_word (drop l.n l.text)
