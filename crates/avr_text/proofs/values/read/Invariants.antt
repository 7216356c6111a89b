use Rattle.std.proofs.Common.{◌≡◌, drop}
use Rattle.avr_text.specs.Reading.{run, beginning}
use Rattle.avr_text.proofs.values.read.Given as goal

-- the tokens that are left bring the reader where all of them do
abbrev pub invariant-loop-at : goal.invariant-loop-at
invariant-loop-at l = run l.text l.tokens l.symbols l.dot l.at (drop l.at l.tokens) l.reader ≡ run l.text l.tokens l.symbols l.dot 0
    l.tokens beginning
