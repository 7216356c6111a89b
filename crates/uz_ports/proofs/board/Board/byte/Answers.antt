use Rattle.std.proofs.Common.{◌∙◌, ap, if◌then◌else◌}
use Rattle.uz_core.specs.Core.{is_core_address}
use Rattle.uz_ports.specs.Boards.{space_of}
use Rattle.uz_ports.proofs.PadBytes.{byte_over}
use Rattle.uz_ports.proofs.board.Board.byte.Goals as goal

pub returns : goal.returns
returns c = record {
  own = c.own_byte.ensures;
  stands = λ history h. c.own_byte.ensures ∙ ap (λ x. if is_core_address c.args.at then 0 else x)
      (byte_over (space_of c.args.self.now) history c.args.at h);
}
