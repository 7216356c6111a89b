use Rattle.uz_demo.proofs.Joining.{put, put_last}
use Rattle.uz_demo.proofs.source.add_opening.Goals as goal

pub returns : goal.returns
returns c =
    let names = rw c.in_ok-add_lines.was at c.add_lines.ensures in
    let frame = rw c.in_ok-add_frame.was at c.add_frame.ensures in
    put_last _ _ _ _ _ _ (put _ _ _ _ _ names frame) c.add_lines-2.ensures
