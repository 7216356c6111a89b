use Rattle.std.proofs.Common.{All, length, ◌-◌, ◌≡◌, ◌+◌, ◌≤◌, drop}
use Rattle.avr_text.specs.Tokens.{cut_from, tokens_of, Lies}
use Rattle.avr_text.proofs.Cuts.{with_front}
use Rattle.avr_text.proofs.lexer.cut.Given as goal

-- the tokens so far, and those of the rest
abbrev pub invariant-loop-at : goal.invariant-loop-at
invariant-loop-at l = record {
  line : l.line ≤ l.at + 1;
  within : l.at ≤ length l.text;
  lie : All (Lies (length l.text)) l.tokens.items;
  left : with_front l.tokens.items (cut_from 0 l.at l.line (drop l.at l.text)) ≡ tokens_of l.text;
}

abbrev pub decreases-loop-at : goal.decreases-loop-at
decreases-loop-at l = length l.text - l.at
