use Rattle.std.proofs.Common.{◌≡◌, ◌+◌, drop}
use Rattle.std.specs.List.{prefix_len}
use Rattle.avr_asm.specs.Lines.{is_content}
use Rattle.avr_asm.proofs.lines.content_len.Given as goal

-- the tokens so far, and those of the rest
abbrev pub invariant-loop-n : goal.invariant-loop-n
invariant-loop-n l = prefix_len is_content l.tokens ≡ l.n + prefix_len is_content (drop l.n l.tokens)
