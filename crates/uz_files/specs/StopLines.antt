-- The line of a run that is stopped.
use Rattle.std.specs.Prelude.{ℕ, List, ◌++◌, codes}
use Rattle.uz_core.specs.declared.step.Why.{Why}
use Rattle.uz_core.specs.declared.step.Why.TheVariants.{Opcode, Spm}
use Rattle.uz_hex.specs.Hexadecimals.{hex_word}

-- the word that stopped the machine; SPM is 1001 0101 1110 1000 (AVR Instruction Set Manual)
abbrev pub stopping_word : Why → ℕ
stopping_word (Opcode word) = word
stopping_word Spm = 0x95E8

abbrev pub stopped_at_line : ℕ → ℕ → List ℕ
stopped_at_line pc word = codes "stopped pc 0x" ++ hex_word pc ++ codes " word 0x" ++ hex_word word ++ codes "\n"

abbrev pub stopped_line : ℕ → Why → List ℕ
stopped_line pc why = stopped_at_line pc (stopping_word why)
