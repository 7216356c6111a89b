-- Instructions that take a given number of clocks and change nothing but R31 and flags: loops on R31, and NOPs.
use Rattle.std.specs.Prelude.{ℕ, zero, suc, ◌+◌, ◌*◌, ◌/◌, ◌%◌, ◌==◌, List, [], ◌++◌, codes, decimal, if◌then◌else◌}

-- `ldi rR,n`
abbrev pub set : ℕ → ℕ → List ℕ
set register n = codes "  ldi r" ++ decimal register ++ codes "," ++ decimal n ++ codes "\n"

-- the label of block k, and a branch to it
abbrev pub turn : ℕ → List ℕ
turn k = codes "d" ++ decimal k ++ codes ": dec r31\n  brne d" ++ decimal k ++ codes "\n"

-- block k: a loop of n turns, n being 1 to 255
abbrev pub block : ℕ → ℕ → List ℕ
block k n = set 31 n ++ turn k

-- blocks 0, 1, .. of 250 turns, so many
abbrev pub whole_blocks : ℕ → List ℕ
whole_blocks zero = []
whole_blocks (suc k) = whole_blocks k ++ block k 250

-- block k of n turns, where there are some
abbrev pub last_block : ℕ → ℕ → List ℕ
last_block k n = if n == 0 then [] else block k n

abbrev pub nops : ℕ → List ℕ
nops zero = []
nops (suc n) = nops n ++ codes "  nop\n"

-- A wait of d clocks: a block of 250 turns for each whole 750 in d, a block of a third of the rest, and NOPs for what is left.
abbrev pub wait : ℕ → List ℕ
wait d = whole_blocks (d / 750) ++ last_block (d / 750) (d % 750 / 3) ++ nops (d % 750 % 3)

-- What they take, by the AVR Instruction Set Manual: LDI, DEC and NOP 1 clock, BRNE 2 where it is taken and 1 where it isn't. It is
-- taken in each turn but the last.
abbrev pub block_clocks : ℕ → ℕ
block_clocks zero = 0
block_clocks (suc n) = 1 + n * (1 + 2) + (1 + 1)

abbrev pub wait_clocks : ℕ → ℕ
wait_clocks d = d / 750 * block_clocks 250 + block_clocks (d % 750 / 3) + d % 750 % 3
