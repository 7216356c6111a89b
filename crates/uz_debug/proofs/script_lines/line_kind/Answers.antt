use Rattle.std.proofs.Common.{arith, map, List, ℕ, Bor, ◌∙◌}
use Rattle.std.proofs.lemmas.List.{length-map}
use Rattle.uz_debug.proofs.ScriptLemmas.{many_words, one_word_kind, one_number_kind, two_numbers_kind}
use Rattle.uz_debug.proofs.script_lines.line_kind.Goals as goal

pub returns-in-len1-clause-line : goal.returns-in-len1-clause-line
returns-in-len1-clause-line c = c.one_word.ensures.line ∙ one_word_kind c.args.words.now _ c.in-len1.len_at_least c.in-len1.len_below

pub returns-in-len2-clause-line : goal.returns-in-len2-clause-line
returns-in-len2-clause-line c = c.one_number.ensures.line ∙ one_number_kind c.args.words.now _ _ c.in-len2.len_at_least c.in-len2.len_below

pub returns-in-len3-clause-line : goal.returns-in-len3-clause-line
returns-in-len3-clause-line c =
    c.two_numbers.ensures.line ∙ two_numbers_kind c.args.words.now _ _ _ c.in-len3.len_at_least c.in-len3.len_below

pub returns-in_default-clause-line : goal.returns-in_default-clause-line
returns-in_default-clause-line c =
    many_words (map (λ (word : Bor (List ℕ)). word.now) c.args.words.now)
    (omega (arith, c.in_default.len_at_least, length-map c.args.words.now (λ (word : Bor (List ℕ)). word.now)))
