use Rattle.std.proofs.Common.{◌≡◌, take}
use Rattle.uz_player.proofs.player.Player.take_turn.Given as goal

-- the edges so far are the page, and all else is as it was
abbrev pub invariant-loop-edge : goal.invariant-loop-edge
invariant-loop-edge l = record {
  copied : l.self.page.items ≡ take l.edge-index l.edge-items;
  console : l.self.console ≡ l.initial.self.console;
  cert : l.self.cert ≡ l.initial.self.cert;
  limit : l.self.limit ≡ l.initial.self.limit;
  recorder : l.self.recorder ≡ l.initial.self.recorder;
}
