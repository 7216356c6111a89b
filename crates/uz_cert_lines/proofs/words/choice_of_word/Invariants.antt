use Rattle.std.proofs.Common.{◌≡◌, drop, map}
use Rattle.uz_cert_lines.specs.Grammar.{choice_from}
use Rattle.uz_cert_lines.proofs.words.choice_of_word.Given as goal

-- what is left answers for all
abbrev pub invariant-loop-i : goal.invariant-loop-i
invariant-loop-i l = choice_from l.i (map (λ w. w.now) (drop l.i l.wanted)) l.word ≡ choice_from 0 (map (λ w. w.now) l.wanted) l.word
