use Rattle.uz_cert_writer.specs.Joined.{point_box, point_steps}
use Rattle.uz_cert_writer.proofs.Steps.{added_both}
use Rattle.uz_cert_writer.proofs.state_lines.add_place.Goals as goal

pub returns : goal.returns
returns c = added_both c.args.text.now.items _ _ (point_box c.args.point.now) (point_steps c.args.point.now) c.in_ok-add_box.ensures
    c.in_ok-add_steps.ensures
