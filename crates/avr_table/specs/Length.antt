-- How many words an instruction has, by its first word alone.
use Rattle.std.specs.Prelude.{ℕ, Bool, ◌||◌, if◌then◌else◌}
use Rattle.avr_table.specs.Pattern.{places, stands}

-- the first words of LDS, STS, JMP and CALL, as the AVR Instruction Set Manual prints them: any bits of k
abbrev pub begins_two : ℕ → Bool
begins_two first = stands (places "1001 000d dddd 0000") first || stands (places "1001 001r rrrr 0000") first
    || stands (places "1001 010k kkkk 110k") first || stands (places "1001 010k kkkk 111k") first

abbrev pub length_of : ℕ → ℕ
length_of first = if begins_two first then 2 else 1
