use Rattle.std.proofs.Common.{◌≡◌, drop}
use Rattle.uz_shelf.specs.InMemory.{bytes_of}
use Rattle.uz_shelf.proofs.memory_shelf.bytes_under.Given as goal

-- what is left answers for all
abbrev pub invariant-loop-file : goal.invariant-loop-file
invariant-loop-file l = bytes_of (drop l.file-index l.files) l.name ≡ bytes_of l.files l.name
