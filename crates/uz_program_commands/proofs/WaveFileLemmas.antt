-- A sound file, written in three pieces.
use Rattle.std.proofs.Common.{◌≡◌, ℕ, List, ◌++◌, length, ap, ◌∙◌, subst}
use Rattle.std.specs.Prelude.{Option, Some, Result, Ok, Err, OnOk, OnErr}
use Rattle.uz_shelf.specs.Files.{AppendsAll, AppendsPrefix, FileMap, WritesFile}
use Rattle.uz_core.specs.declared.machine.Edge.{Edge}
use Rattle.uz_report.specs.declared.sound_file.Wave.{Wave}
use Rattle.uz_report.specs.Waves.{Holds, header_bytes, pad_after, samples, wave_bytes}
use Rattle.uz_files.specs.Writing.{WritesSome}
use Rattle.uz_files.proofs.WriteLemmas.{write_append, write_append_part, write_some_more}

-- the pieces, whatever edges the file has seen
pub record ArePieces (wave : Wave) (head all pad : List ℕ) : Type 0 where
  pub heads : (edges : List Edge) → Holds wave edges → head ≡ header_bytes (length (samples edges))
  pub alls : (edges : List Edge) → Holds wave edges → all ≡ samples edges
  pub pads : (edges : List Edge) → Holds wave edges → pad ≡ pad_after (length (samples edges))

module _ (wave : Wave) (head all pad : List ℕ) (pieces : ArePieces wave head all pad) (old : Option FileMap) (name : List ℕ) where
  whole : (edges : List Edge) → Holds wave edges → (head ++ all) ++ pad ≡ wave_bytes (samples edges)
  whole edges holds =
      let n = length (samples edges) in
      ap (λ h. (h ++ all) ++ pad) (pieces.heads edges holds)
      ∙ (ap (λ a. (header_bytes n ++ a) ++ pad) (pieces.alls edges holds)
      ∙ ap (λ p. (header_bytes n ++ samples edges) ++ p) (pieces.pads edges holds))

  abbrev IsWhole : Option FileMap → Type 0
  IsWhole new = (edges : List Edge) → Holds wave edges → WritesFile old name (wave_bytes (samples edges)) new

  abbrev IsPart : Option FileMap → Type 0
  IsPart new = (edges : List Edge) → Holds wave edges → WritesSome old name (wave_bytes (samples edges)) new

  is_whole : (new : Option FileMap) → WritesFile old name ((head ++ all) ++ pad) new → IsWhole new
  is_whole new written edges holds = subst (λ t. WritesFile old name t new) (whole edges holds) written

  is_part : (new : Option FileMap) → WritesSome old name ((head ++ all) ++ pad) new → IsPart new
  is_part new part edges holds = subst (λ t. WritesSome old name t new) (whole edges holds) part

  -- the head is cut
  pub head_cut : (new : Option FileMap) → WritesSome old name head new → IsPart new
  head_cut new part = is_part new (write_some_more old new name (head ++ all) pad (write_some_more old new name head all part))

  -- the samples are cut
  pub samples_cut : (mid new : Option FileMap) (opened : Option (List ℕ)) → WritesFile old name head mid → opened ≡ Some name
      → AppendsPrefix mid opened all new → IsPart new
  samples_cut mid new opened written is appends =
      is_part new (write_some_more old new name (head ++ all) pad (write_append_part old mid new opened name head all written is appends))

  module _ {A E : Type 0} (r : Result A E) (first mid new : Option FileMap) (opened open_still : Option (List ℕ))
      (written : WritesFile old name head first) (is : opened ≡ Some name) (appends : AppendsAll first opened all mid)
      (still : open_still ≡ Some name) where
    abbrev both : WritesFile old name (head ++ all) mid
    both = write_append old first mid opened name head all written is appends

    -- the last byte comes
    pub pad_written : OnOk r (AppendsAll mid open_still pad new) → OnOk r (IsWhole new)
    pad_written = by r
      where
        by : (s : Result A E) → OnOk s (AppendsAll mid open_still pad new) → OnOk s (IsWhole new)
        by (Ok x) last = is_whole new (write_append old mid new open_still name (head ++ all) pad both still last)
        by (Err e) last = tt

    -- or it doesn't
    pub pad_cut : OnErr r (AppendsPrefix mid open_still pad new) → OnErr r (IsPart new)
    pad_cut = by r
      where
        by : (s : Result A E) → OnErr s (AppendsPrefix mid open_still pad new) → OnErr s (IsPart new)
        by (Ok x) last = tt
        by (Err e) last = is_part new (write_append_part old mid new open_still name (head ++ all) pad both still last)
