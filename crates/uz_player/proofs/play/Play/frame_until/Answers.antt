use Rattle.std.proofs.Common.{◌++◌, [], append-nil, ap, sym}
use Rattle.uz_player.proofs.PlayLaws.{goes_again, more_quietly, put_again, stays}
use Rattle.uz_player.proofs.play.Play.frame_until.Goals as goal

pub records-init : goal.records-init
records-init c = ([], sym (append-nil c.args.out.now.items), stays c.args.self.now)

pub records-preserved : goal.records-preserved
records-preserved c =
    let before = c.records.invariant in (
      before.0 ++ c.in-Row.row,
      put_again c.args.out.now.items c.records.out.items c.extend_from_slice.new.self.items before.0 c.in-Row.row before.1
          c.in_ok-extend_from_slice-in-Row.ensures.items,
      goes_again c.args.self.now c.records.self c.advance.new.self before.0 c.in-Row.row before.2 c.in-Row.ensures.0,
    )

pub returns-in-End : goal.returns-in-End
returns-in-End c =
    let before = c.records.invariant in
    record {
      bytes = before.0 ++ c.in-End.end;
      put = put_again c.args.out.now.items c.records.out.items c.extend_from_slice-in-End.new.self.items before.0 c.in-End.end before.1
          c.in_ok-extend_from_slice-in-End.ensures.items;
      goes = goes_again c.args.self.now c.records.self c.advance.new.self before.0 c.in-End.end before.2 c.in-End.ensures.0;
      ends = (before.0, c.in-End.ensures.2.0, ap (λ b. before.0 ++ b) c.in-End.ensures.2.1);
    }

pub returns-in-Quiet : goal.returns-in-Quiet
returns-in-Quiet c =
    let before = c.records.invariant in
    record {
      bytes = before.0;
      put = before.1;
      goes = more_quietly c.args.self.now c.records.self c.advance.new.self before.0 before.2 c.in-Quiet.ensures.0;
      ends = (c.in-Quiet.ensures.1, c.in-Quiet.ensures.2);
    }

pub returns-in-Stopped : goal.returns-in-Stopped
returns-in-Stopped c =
    let before = c.records.invariant in
    record {
      bytes = before.0;
      put = before.1;
      goes = more_quietly c.args.self.now c.records.self c.advance.new.self before.0 before.2 c.in-Stopped.ensures.0;
      ends = (c.in-Stopped.ensures.1, c.in-Stopped.ensures.2, c.in-Stopped.ensures.3);
    }
