use Rattle.std.proofs.Common.{◌≡◌, take}
use Rattle.std.specs.Prelude.{None}
use Rattle.uzebox_c.specs.Held.{files_of, given_files, open_in}
use Rattle.uzebox_c.proofs.held.HeldFiles.new.Given as goal

abbrev pub invariant-loop-file : goal.invariant-loop-file
invariant-loop-file l =
    record {
      files : files_of l.files.items ≡ given_files (take l.file-index l.given);
      closed : open_in l.files.items ≡ None;
    }
