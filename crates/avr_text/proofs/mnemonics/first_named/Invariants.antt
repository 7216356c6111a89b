use Rattle.std.proofs.Common.{◌≡◌, drop, map}
use Rattle.avr_text.specs.Mnemonics.{first_named}
use Rattle.avr_text.proofs.mnemonics.first_named.Given as goal

-- the names that are left tell
abbrev pub invariant-loop-name : goal.invariant-loop-name
invariant-loop-name l =
    first_named l.word (map (λ n. (n.0.now, n.1)) (drop l.name-index l.names)) ≡ first_named l.word (map (λ n. (n.0.now, n.1)) l.names)
