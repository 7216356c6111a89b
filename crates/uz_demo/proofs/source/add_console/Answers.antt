use Rattle.uz_demo.proofs.Joining.{put, put_last}
use Rattle.uz_demo.proofs.source.add_console.Goals as goal

pub returns : goal.returns
returns c =
    let reset = rw c.in_ok-add_lines.was at c.add_lines.ensures in
    let main_loop = rw c.in_ok-add_lines-2.was at c.add_lines-2.ensures in
    let handler = rw c.in_ok-add_lines-3.was at c.add_lines-3.ensures in
    put_last _ _ _ _ _ _ (put _ _ _ _ _ (put _ _ _ _ _ reset main_loop) handler) c.add_lines-4.ensures
