-- What an edge adds to the samples.
use Rattle.std.proofs.Common.{◌≡◌, ℕ, Bool, true, false, List, [], ◌∷◌, ◌++◌, if◌then◌else◌, sym, ap, ◌∙◌, append-nil}
use Rattle.uz_core.specs.declared.machine.Edge.{Edge}
use Rattle.uz_scan.specs.declared.records.LineInfo.{LineInfo}
use Rattle.uz_scan.specs.declared.records.FrameInfo.{FrameInfo}
use Rattle.uz_scan.specs.declared.scanner.Scan.{Scan}
use Rattle.uz_scan.specs.declared.scanner.Scan.TheVariants.{More, Line, Frame}
use Rattle.uz_scan.specs.Lines.{ends_line}
use Rattle.uz_scan.specs.Pictures.{ends_frame, frame_ended, line_ended, shown_by}
use Rattle.uz_report.specs.Waves.{heard, samples}

by_end : (t u : Bool) (xs : List ℕ) (line : LineInfo) (frame : FrameInfo) (shown : Scan)
    → shown ≡ (if t then Line line else (if u then Frame frame else More))
    → (if t then xs ++ line.sound ∷ [] else xs) ≡ xs ++ heard shown
by_end true u xs line frame shown is = ap (λ s. xs ++ heard s) (sym is)
by_end false true xs line frame shown is = sym (append-nil xs) ∙ ap (λ s. xs ++ heard s) (sym is)
by_end false false xs line frame shown is = sym (append-nil xs) ∙ ap (λ s. xs ++ heard s) (sym is)

pub heard_at : (e : Edge) (before : List Edge) (shown : Scan) → shown ≡ shown_by e before → samples (e ∷ before) ≡ samples before
    ++ heard shown
heard_at e before shown is =
    by_end (ends_line e before) (ends_frame e before) (samples before) (line_ended e before) (frame_ended before) shown is
