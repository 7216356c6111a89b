use Rattle.std.proofs.Common.{◌++◌, Some, subst, sym}
use Rattle.uz_scan.specs.Pictures.{newest_first}
use Rattle.uz_player.specs.declared.recorder.Record.TheVariants.{Row, End}
use Rattle.uz_player.specs.Endings.{played_of}
use Rattle.uz_player.specs.Playing.{IsNearer, IsNext, IsRecordOf, Plays}
use Rattle.uz_player.proofs.PlayerLaws.{ends_near, next_from, starts_records}
use Rattle.uz_player.proofs.player.Player.advance.Goals as goal

pub returns-in-Some-Row-clause-next : goal.returns-in-Some-Row-clause-next
returns-in-Some-Row-clause-next c =
    let told : IsRecordOf c.turns.self c.next_record.new.self (Some (Row c.in-Some-Row.line)) =
    subst (λ r. IsRecordOf c.turns.self c.next_record.new.self (Some r)) c.in-Some-Row.field-0-is c.in-Some-Row.ensures.record in
    λ start handed plays.
    subst (λ bytes. Plays c.next_record.new.self start (handed ++ bytes)) (sym c.row_record.ensures)
    (told start handed c.row-row.result.now (c.turns.invariant.plays start handed plays)
    (λ edges seen. c.row-row.ensures (newest_first edges) seen.scanner))

pub returns-in-Some-End-clause-next : goal.returns-in-Some-End-clause-next
returns-in-Some-End-clause-next c =
    let told : IsRecordOf c.turns.self c.next_record.new.self (Some (End c.in-Some-End.frame)) =
    subst (λ r. IsRecordOf c.turns.self c.next_record.new.self (Some r)) c.in-Some-End.field-0-is c.in-Some-End.ensures.record in
    λ start handed plays.
    subst (λ bytes. Plays c.next_record.new.self start (handed ++ bytes)) (sym c.end_record.ensures)
    (told start handed (c.turns.invariant.plays start handed plays))

pub returns-in-Some-clause-next : goal.returns-in-Some-clause-next
returns-in-Some-clause-next c =
    subst (IsNext c.args.self.now c.go_on.new.self) (sym c.ended.ensures)
    (next_from c.args.self.now c.next_record.new.self c.go_on.new.self (played_of c.in-Some.ending)
    (λ start handed plays. c.in-None.ensures.record start handed (c.turns.invariant.plays start handed plays))
    c.in-Some.ensures.further)

pub returns-in-Some-Row-clause-part : goal.returns-in-Some-Row-clause-part
returns-in-Some-Row-clause-part c = starts_records c.next_record.new.self

pub returns-in-Some-End-clause-part : goal.returns-in-Some-End-clause-part
returns-in-Some-End-clause-part c = starts_records c.next_record.new.self

pub returns-in-Some-clause-part : goal.returns-in-Some-clause-part
returns-in-Some-clause-part c = starts_records c.go_on.new.self

pub returns-in-Some-clause-nearer : goal.returns-in-Some-clause-nearer
returns-in-Some-clause-nearer c = subst (IsNearer c.args.self.now c.go_on.new.self) (sym c.ended.ensures)
    (ends_near c.args.self.now c.go_on.new.self c.in-Some.ending)
