-- Where the blocks of one kind end, read from the last line back.
use Rattle.std.specs.Prelude.{ℕ, ◌+◌, ◌-◌, ◌==◌, ◌&&◌, nat_le, nat_lt, List, [], ◌∷◌, drop, Option, Some, None, if◌then◌else◌}
use Rattle.avr_macro.specs.declared.directives.Word.{Word}
use Rattle.avr_macro.specs.declared.directives.Word.TheVariants.{Else}
use Rattle.avr_macro.specs.declared.ends.Block.{Block}
use Rattle.avr_macro.specs.declared.ends.Closing.{Closing}
use Rattle.avr_macro.specs.Blocks.{same_word}
use Rattle.avr_macro.specs.Directives.{directive_of}

-- the innermost block that is closed further on has an `.else` at a line, of which the first one counts
abbrev pub parted : ℕ → List Closing → List Closing
parted at [] = []
parted at (closing ∷ pending) = record { end = closing.end; part = Some at } ∷ pending

-- The ends of the blocks that are open before a line of a word, the innermost first, by those that are open after it.
abbrev pub open_before : Word → Word → Word → ℕ → List Closing → List Closing
open_before word opens closes at pending =
    if same_word word opens then drop 1 pending
    else if same_word word closes then record { end = at; part = None } ∷ pending
    else if same_word word Else then parted at pending
    else pending

-- those before the first of some lines, which stands at a place
unfoldable pub open_from : Word → Word → ℕ → List (List ℕ) → List Closing
open_from opens closes at [] = []
open_from opens closes at (line ∷ lines) = open_before (directive_of line) opens closes at (open_from opens closes (at + 1) lines)

-- the blocks from a line of a word on, by the blocks after it and the ends of those that are open after it
abbrev pub blocks_before : Word → Word → ℕ → List Closing → List Block → List Block
blocks_before word opens at [] blocks = blocks
blocks_before word opens at (closing ∷ pending) blocks =
    if same_word word opens then record { line = at; closing = closing } ∷ blocks else blocks

-- the blocks of some lines that are closed, in their order
unfoldable pub blocks_from : Word → Word → ℕ → List (List ℕ) → List Block
blocks_from opens closes at [] = []
blocks_from opens closes at (line ∷ lines) =
    blocks_before (directive_of line) opens at (open_from opens closes (at + 1) lines) (blocks_from opens closes (at + 1) lines)

-- where the block that begins at a line is closed
abbrev pub closing_at : ℕ → List Block → Option Closing
closing_at line [] = None
closing_at line (block ∷ blocks) = if block.line == line then Some block.closing else closing_at line blocks

abbrev pub closing_here : ℕ → Option Block → Option Closing
closing_here line None = None
closing_here line (Some block) = if block.line == line then Some block.closing else None

-- how many lines from a place on stand before an `.else`, and before the end of a block that ends before another place
abbrev pub part_within : ℕ → Option ℕ → Option ℕ
part_within start None = None
part_within start (Some at) = if nat_le start at then Some (at - start) else None

abbrev pub closing_within : ℕ → ℕ → Option Closing → Option Closing
closing_within start end None = None
closing_within start end (Some closing) =
    if nat_le start closing.end && nat_lt closing.end end
    then Some (record { end = closing.end - start; part = part_within start closing.part }) else None
