use Rattle.uz_demo.proofs.Joining.{put, put_last}
use Rattle.uz_demo.proofs.source.add_closing.Goals as goal

pub returns : goal.returns
returns c =
    let gap = rw c.gap_clocks.ensures at (rw c.in_ok-add_wait.was at c.add_wait.ensures) in
    let next = rw c.in_ok-add_lines.was at c.add_lines.ensures in
    put_last _ _ _ _ _ _ (put _ _ _ _ _ gap next) c.add_lines-2.ensures
