-- What the board reads over its own pads is what the pads that they stand for give.
use Rattle.std.proofs.Common.{◌≡◌, ℕ, refl}
use Rattle.uz_core.specs.PadLine.{PadHistory}
use Rattle.uz_core.specs.Space.{Space, byte_at, history_wiring}
use Rattle.uz_core.proofs.Wirings.{Alike, same_byte}
use Rattle.uz_pads.specs.declared.pads.Pads.{Pads}
use Rattle.uz_pads.specs.Pads.{pads_wiring, StandsFor}
use Rattle.uz_pads.proofs.History.{stands_after, lines_stand}
use Rattle.uz_ports.specs.Boards.{with_pads}

pub pads_alike : Alike pads_wiring history_wiring StandsFor
pads_alike = record { lines = lines_stand; with_level = λ n p history r. stands_after p history n r }

pub byte_over : (space : Space Pads) (history : PadHistory) (at : ℕ) → StandsFor space.pads history →
    byte_at pads_wiring space at ≡ byte_at history_wiring (with_pads history space) at
byte_over space history at h =
    same_byte pads_wiring history_wiring StandsFor pads_alike space (with_pads history space) at
    (record { bytes = refl; timer = refl; pads = h })
