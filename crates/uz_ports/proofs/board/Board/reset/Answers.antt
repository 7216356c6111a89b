use Rattle.std.proofs.Common.{◌∙◌, List, ap, ℕ, replicate, rules}
use Rattle.uz_core.specs.Space.{Space}
use Rattle.uz_core.specs.Timer.{Timer}
use Rattle.uz_pads.specs.declared.pads.Pads.{Pads}
use Rattle.uz_ports.proofs.board.Board.reset.Goals as goal

pub returns-clause-space : goal.returns-clause-space
returns-clause-space c =
    let items = c.in_ok-vec.ensures.items_if_clones_equal (search rules) in
    ap (λ (bytes : List ℕ). let space : Space Pads = record { bytes = bytes; timer = c.reset.result; pads = c.args.pads } in space) items ∙
    ap (λ (timer : Timer). let space : Space Pads = record { bytes = replicate 4352 0; timer = timer; pads = c.args.pads } in space)
    c.reset.ensures
