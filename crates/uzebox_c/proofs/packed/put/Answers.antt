use Rattle.std.proofs.Common.{◌++◌, ap, ◌∙◌}
use Rattle.uzebox_c.proofs.PackedLaws.{put_behind}
use Rattle.uzebox_c.proofs.packed.put.Goals as goal

pub returns : goal.returns
returns c = put_behind c.args.bytes.now.items c.extend_from_slice.new.self.items c.extend_from_slice-2.new.self.items c.args.text.now
    (c.in_ok-extend_from_slice.ensures.items ∙ ap (λ n. c.args.bytes.now.items ++ n) c.to_le_bytes.ensures) c.in_ok-extend_from_slice-2.ensures.items
