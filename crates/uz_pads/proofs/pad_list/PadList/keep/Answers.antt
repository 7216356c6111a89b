use Rattle.std.proofs.Common.{◌≡◌, ◌≤◌, ◌-◌, ◌∙◌, ap, arith, length, min, take}
use Rattle.uz_pads.proofs.PadLists.{taken_after}
use Rattle.uz_pads.proofs.pad_list.PadList.keep.Goals as goal

pub returns-else-size-len : goal.returns-else-size-len
returns-else-size-len c =
    let first = c.self.inside.first.items in
    let past : length first ≤ c.args.size = omega arith in
    let left : c.min-self-inside.result ≡ min c.self.inside.times (c.args.size - length first) = omega arith in
    taken_after c.args.size c.self.inside.times c.min-self-inside.result first c.self.inside.held past left
    ∙ ap (take c.args.size) c.self.view_is
