-- What is hashed of an instance's parts: a choice of speed.
use Rattle.std.specs.Prelude.{◌+◌, ◌*◌, ◌++◌}
use Rattle.std.specs.Hash.{HashWrites, slice, u8, u16, u32}
use Rattle.uz_schedule.specs.Ends.{Ends}
use Rattle.uz_schedule.specs.declared.facts.Val.{Val}
use Rattle.uz_schedule.specs.declared.facts.Val.TheVariants.{Range, Old, OldFlags}
use Rattle.uz_schedule.specs.declared.states.Instance.{Instance}

-- of a range of bytes both ends in one
abbrev pub bytes_writes : Ends → HashWrites
bytes_writes e = u16 (e.lo + 256 * e.hi)

-- of a range of 16-bit numbers both ends in one
abbrev pub ends_writes : Ends → HashWrites
ends_writes e = u32 (e.lo + 65536 * e.hi)

-- of what is known of a byte one
abbrev pub val_writes : Val → HashWrites
val_writes (Range e) = u8 e.lo
val_writes (Old r) = u8 r
val_writes OldFlags = u8 255

-- of an instance its place, its pairs, its registers, its stack and its cells
abbrev pub instance_writes : Instance → HashWrites
instance_writes x =
    u16 x.pc ++ u16 x.line ++ u16 x.clock ++ slice ends_writes x.pairs ++ slice val_writes x.regs ++ slice val_writes x.stack.items
    ++ slice bytes_writes x.cells.items
