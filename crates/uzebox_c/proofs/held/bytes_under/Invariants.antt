use Rattle.std.proofs.Common.{◌≡◌, drop}
use Rattle.uzebox_c.specs.Held.{bytes_of, files_of}
use Rattle.uzebox_c.proofs.held.bytes_under.Given as goal

-- what is left answers for all
abbrev pub invariant-loop-file : goal.invariant-loop-file
invariant-loop-file l = bytes_of (files_of (drop l.file-index l.files)) l.name ≡ bytes_of (files_of l.files) l.name
