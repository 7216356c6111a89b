-- One more line of a pad file is read.
use Rattle.std.proofs.Common.{◌≡◌, ◌≢◌, ℕ, ◌+◌, ◌<◌, ◌≤◌, List, [], ◌∷◌, ◌++◌, length, take, map, Bor, sym, ap, subst}
use Rattle.uz_pads.specs.declared.pads.Pad.{Pad}
use Rattle.uz_pads.specs.declared.lines.Line.TheVariants.{Blank, Pair, Faulty}
use Rattle.uz_pads.specs.declared.errors.PadWhy.TheVariants.{Digits, Count}
use Rattle.uz_pads.specs.Lines.{HasFault, IsFault, IsFirstFault, IsRead, is_good_line, is_well_formed, kind_of, pads_of, pads_on}
use Rattle.uz_hex.specs.Lines.{line_at, lines_of_pieces}
use Rattle.uz_pads.proofs.ItemLemmas.{blank_read, faulty_at, item_read, nothing_read, whole_read}

pub read_none : (pieces : List (Bor (List ℕ))) → IsRead (take 0 (lines_of_pieces (map (λ piece. piece.now) pieces))) []
read_none pieces = nothing_read pads_on is_good_line pieces

pub read_blank : (pieces : List (Bor (List ℕ))) (at : ℕ) (pads : List Pad) → at < length pieces
    → kind_of (line_at (map (λ piece. piece.now) pieces) at) ≡ Blank →
    IsRead (take at (lines_of_pieces (map (λ piece. piece.now) pieces))) pads
    → IsRead (take (at + 1) (lines_of_pieces (map (λ piece. piece.now) pieces))) pads
read_blank pieces at pads h e r = blank_read pads_on is_good_line pieces at pads h (ap pads_of e) (ap is_well_formed e) r

pub read_pair : (pieces : List (Bor (List ℕ))) (at : ℕ) (pads : List Pad) (pad : Pad) → at < length pieces
    → kind_of (line_at (map (λ piece. piece.now) pieces) at) ≡ Pair pad → length pads ≢ 65536 →
    IsRead (take at (lines_of_pieces (map (λ piece. piece.now) pieces))) pads
    → IsRead (take (at + 1) (lines_of_pieces (map (λ piece. piece.now) pieces))) (pads ++ pad ∷ [])
read_pair pieces at pads pad h e ne r = item_read pads_on is_good_line pieces at pads pad h (ap pads_of e) (ap is_well_formed e) ne r

pub read_all : (pieces : List (Bor (List ℕ))) (at : ℕ) (pads : List Pad) → length pieces ≤ at
    → IsRead (take at (lines_of_pieces (map (λ piece. piece.now) pieces))) pads →
    IsRead (lines_of_pieces (map (λ piece. piece.now) pieces)) pads
read_all pieces at pads h r = whole_read pads_on is_good_line pieces at pads h r

pub digits_fault : (pieces : List (Bor (List ℕ))) (at : ℕ) (pads : List Pad) → at < length pieces
    → kind_of (line_at (map (λ piece. piece.now) pieces) at) ≡ Faulty →
    IsRead (take at (lines_of_pieces (map (λ piece. piece.now) pieces))) pads
    → IsFirstFault (lines_of_pieces (map (λ piece. piece.now) pieces)) (at + 1) Digits
digits_fault pieces at pads h e r = faulty_at pads_on is_good_line HasFault pieces at pads Digits h
    (subst (λ line. IsFault line (length pads) Digits) (sym e) tt) r

pub count_fault : (pieces : List (Bor (List ℕ))) (at : ℕ) (pads : List Pad) (pad : Pad) → at < length pieces
    → kind_of (line_at (map (λ piece. piece.now) pieces) at) ≡ Pair pad → length pads ≡ 65536 →
    IsRead (take at (lines_of_pieces (map (λ piece. piece.now) pieces))) pads
    → IsFirstFault (lines_of_pieces (map (λ piece. piece.now) pieces)) (at + 1) Count
count_fault pieces at pads pad h e full r = faulty_at pads_on is_good_line HasFault pieces at pads Count h
    (subst (λ line. IsFault line (length pads) Count) (sym e) full) r

-- what of a pad file is read with one more line, and what is wrong with it
pub ruleset readings = (read_none, read_blank, read_pair, read_all, digits_fault, count_fault)
