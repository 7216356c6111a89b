use Rattle.uz_demo.proofs.Joining.{put, put_last}
use Rattle.uz_demo.proofs.source.add_picture.Goals as goal

pub returns : goal.returns
returns c =
    let draw = rw c.in_ok-add_lines.was at c.add_lines.ensures in
    let shown = rw c.lines_shown.ensures at (rw c.in_ok-add_set.was at c.add_set.ensures) in
    let row = rw c.in_ok-add_lines-2.was at c.add_lines-2.ensures in
    let pixels = rw c.pixels_shown.ensures.pixels at (rw c.in_ok-add_set-2.was at c.add_set-2.ensures) in
    put_last _ _ _ _ _ _ (put _ _ _ _ _ (put _ _ _ _ _ (put _ _ _ _ _ draw shown) row) pixels) c.add_lines-3.ensures
