use Rattle.std.proofs.Common.{◌≡◌, drop}
use Rattle.uzebox_c.specs.Held.{bytes_of, given_files}
use Rattle.uzebox_c.proofs.changes.given_under.Given as goal

-- what is left answers for all
abbrev pub invariant-loop-file : goal.invariant-loop-file
invariant-loop-file l = bytes_of (given_files (drop l.file-index l.given)) l.name ≡ bytes_of (given_files l.given) l.name
