-- The lines of a verdict.
use Rattle.std.specs.Prelude.{ℕ, List, ◌++◌, length, codes, decimal, slice_get, unwrap_or}
use Rattle.std.specs.Option.{option_map}
use Rattle.uz_schedule.specs.Schedule.{frame_of}
use Rattle.uz_schedule.specs.declared.certificate.Cert.{Cert}
use Rattle.uz_check.specs.declared.refusal.RefusedWhy.{RefusedWhy}
use Rattle.uz_check.specs.declared.refusal.RefusedWhy.TheVariants.{Schedule, Rest, Entry, Point}
use Rattle.uz_transfer.specs.declared.fail.Fail.{Fail}
use Rattle.uz_transfer.specs.declared.fail.Fail.TheVariants as fail
use Rattle.uz_hex.specs.Hexadecimals.{hex_word}

-- a reason of the local rule is printed by its name
abbrev pub fail_name : Fail → List ℕ
fail_name fail.Opcode = codes "Opcode"
fail_name fail.Box = codes "Box"
fail_name fail.Flag = codes "Flag"
fail_name fail.Mask = codes "Mask"
fail_name fail.Stack = codes "Stack"
fail_name fail.Return = codes "Return"
fail_name fail.Store = codes "Store"
fail_name fail.Io = codes "Io"
fail_name fail.Edge = codes "Edge"
fail_name fail.Clock = codes "Clock"
fail_name fail.Successor = codes "Successor"
fail_name fail.Restore = codes "Restore"

-- the word address of a point (0 where there is none of that number)
abbrev pub point_pc : Cert → ℕ → ℕ
point_pc cert id = unwrap_or (option_map (λ p. p.pc) (slice_get cert.points id)) 0

-- how many lines a frame has, and how many clocks
abbrev pub accepted_line : Cert → List ℕ
accepted_line cert =
    codes "accepted lines " ++ decimal (length cert.schedule.lines) ++ codes " clocks " ++ decimal (frame_of cert.schedule) ++ codes "\n"

-- the first failing item
abbrev pub refused_line : Cert → RefusedWhy → List ℕ
refused_line cert (Schedule line clock) = codes "refused schedule line " ++ decimal line ++ codes " clock " ++ decimal clock ++ codes "\n"
refused_line cert (Rest line) = codes "refused rest line " ++ decimal line ++ codes "\n"
refused_line cert Entry = codes "refused entry\n"
refused_line cert (Point id l c why) =
    codes "refused point " ++ decimal id ++ codes " pc 0x" ++ hex_word (point_pc cert id) ++ codes " line " ++ decimal l ++ codes " count "
    ++ decimal c ++ codes " " ++ fail_name why ++ codes "\n"
