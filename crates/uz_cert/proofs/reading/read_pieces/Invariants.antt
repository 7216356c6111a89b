use Rattle.uz_cert.proofs.Common.{◌≡◌, ◌+◌, ◌<◌, ◌^◌, first_draft, Kept, bytes_left, pieces_left, read_from}
use Rattle.uz_cert.proofs.reading.read_pieces.Given as goal

-- what is left leads where all of it does
abbrev pub invariant-loop-left : goal.invariant-loop-left
invariant-loop-left l = record {
  same : read_from l.draft (pieces_left l.left) ≡ read_from (first_draft l.fn.version) (pieces_left l.fn.text);
  kept : Kept l.draft;
  few : l.draft.read + bytes_left l.left < 2 ^ 32;
}

abbrev pub decreases-loop-left : goal.decreases-loop-left
decreases-loop-left l = bytes_left l.left
