-- The text of a session: a line for each command, and two for `show`.
use Rattle.std.specs.Prelude.{◌≡◌, ℕ, zero, suc, ◌+◌, ◌%◌, nat_eq, if◌then◌else◌, List, [], ◌∷◌, ◌++◌, codes, decimal}
use Rattle.uz_core.specs.PadLine.{PadHistory}
use Rattle.uz_core.specs.Space.{history_wiring}
use Rattle.uz_core.specs.Turn.{State, state_byte}
use Rattle.uz_hex.specs.Hexadecimals.{hex_byte, hex_word}
use Rattle.uz_debug.specs.declared.command.Command.{Command}
use Rattle.uz_debug.specs.declared.command.Command.TheVariants.{Show, Mem}
use Rattle.uz_debug.specs.declared.command.DebugWhy.{DebugWhy}
use Rattle.uz_debug.specs.declared.command.DebugWhy.TheVariants.{Limit, Far, Breaks, Unset}
use Rattle.uz_debug.specs.declared.command.Reply.{Reply}
use Rattle.uz_debug.specs.declared.command.Reply.TheVariants as reply
use Rattle.uz_debug.specs.Sessions.{Session, Acts, IsAfter}

-- where the debugger is, without its LF
abbrev pub at_text : ℕ → ℕ → ℕ → List ℕ
at_text turn clock pc = codes "at " ++ decimal turn ++ (codes " clock " ++ decimal clock) ++ (codes " pc 0x" ++ hex_word pc)

abbrev pub stopped_at : ℕ → ℕ → List ℕ
stopped_at turn pc = codes "stopped at " ++ decimal turn ++ (codes " pc 0x" ++ hex_word pc)

abbrev pub stopped_line : ℕ → ℕ → ℕ → List ℕ
stopped_line turn pc word = stopped_at turn pc ++ (codes " word 0x" ++ hex_word word) ++ codes "\n"

abbrev pub why_name : DebugWhy → List ℕ
why_name Limit = codes "Limit"
why_name Far = codes "Far"
why_name Breaks = codes "Breaks"
why_name Unset = codes "Unset"

-- what stands before byte number n of a row
abbrev pub gap : ℕ → List ℕ
gap n = if nat_eq n 0 then [] else codes " "

-- so many bytes of a data space from an address on, with a space between. Addresses go on from 65,535 to 0
abbrev pub bytes_text : (ℕ → ℕ) → ℕ → ℕ → List ℕ
bytes_text read at zero = []
bytes_text read at (suc n) = bytes_text read at n ++ gap n ++ hex_byte (read ((at + n) % 65536))

-- the status register and the stack pointer, by their data addresses (ATmega644 data sheet, "Register Summary")
abbrev pub status_text : (ℕ → ℕ) → List ℕ
status_text read = codes " sreg 0x" ++ hex_byte (read 0x5F) ++ (codes " sp 0x" ++ hex_byte (read 0x5E)) ++ hex_byte (read 0x5D)
    ++ codes "\n"

-- where the debugger is, with these, and the 32 registers, which are the first bytes of the data space
abbrev pub show_text : ℕ → ℕ → ℕ → (ℕ → ℕ) → List ℕ
show_text turn clock pc read = at_text turn clock pc ++ status_text read ++ bytes_text read 0 32 ++ codes "\n"

-- what a command shows of a data space
abbrev pub shown_text : Command → ℕ → ℕ → ℕ → (ℕ → ℕ) → List ℕ
shown_text Show turn clock pc read = show_text turn clock pc read
shown_text (Mem at count) turn clock pc read = bytes_text read at count ++ codes "\n"
shown_text other turn clock pc read = []

-- the line of a reply, where the debugger is at a turn after it
abbrev pub IsLineOf : State PadHistory → ℕ → Command → Reply → List ℕ → Type 0
IsLineOf start turn command (reply.At n clock pc) line = line ≡ at_text n clock pc ++ codes "\n"
IsLineOf start turn command (reply.Stopped n pc word) line = line ≡ stopped_line n pc word
IsLineOf start turn command reply.Fine line = line ≡ codes "ok\n"
IsLineOf start turn command reply.Shown line = (s : State PadHistory) × IsAfter start turn s
    × (line ≡ shown_text command turn s.clock s.core.pc (state_byte history_wiring s))
IsLineOf start turn command (reply.Refused why) line = line ≡ codes "refused " ++ why_name why ++ codes "\n"

-- a text with the line of a reply at its end
abbrev pub AddsLine : State PadHistory → ℕ → Command → Reply → List ℕ → List ℕ → Type 0
AddsLine start turn command answer old new = (line : List ℕ) × IsLineOf start turn command answer line × (new ≡ old ++ line)

-- the lines of commands, from a state of the debugger to the next
abbrev pub Prints : State PadHistory → Session → List Command → List ℕ → Session → Type 0
Prints start old [] text new = (text ≡ []) × (new ≡ old)
Prints start old (command ∷ commands) text new =
    (answer : Reply) × (mid : Session) × (line : List ℕ) × (rest : List ℕ) ×
    Acts start old command answer mid × IsLineOf start mid.turn command answer line × Prints start mid commands rest new
    × (text ≡ line ++ rest)
