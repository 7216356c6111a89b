-- A scanner that is made anew of what one knew stands for the same edges.
use Rattle.std.proofs.Common.{◌≡◌, ℕ, ◌+◌, ◌*◌, ◌≤◌, ◌<◌, Option, List, slice_index, refl, sym, ◌∙◌, ap, subst}
use Rattle.std.specs.Prelude.{Some, None}
use Rattle.uz_core.specs.declared.machine.Edge.{Edge}
use Rattle.uz_scan.specs.declared.scanner.Scanner.{Scanner}
use Rattle.uz_scan.specs.declared.sampler.Sampler.{Sampler}
use Rattle.uz_scan.specs.declared.states.ScanState.{ScanState}
use Rattle.uz_scan.specs.Lines.{last_clock, line_start}
use Rattle.uz_scan.specs.Pictures.{pixel_at}
use Rattle.uz_scan.specs.ScanStates.{HasSeen, IsOf}
use Rattle.uz_scan.specs.Scanning.{IsSampled, SamplesLine, StandsFor, Tracks}

pub seen_by : (s : ScanState) (scanner : Scanner) → IsOf s scanner → (edges : List Edge) → StandsFor scanner edges → HasSeen s edges
seen_by s scanner is edges h = (scanner, is, h)

same_samples : (start : Option ℕ) (a b : Sampler) (edges : List Edge) → b.filled ≡ a.filled → b.samples ≡ a.samples → b.value ≡ a.value
    → SamplesLine start a edges → SamplesLine start b edges
same_samples None a b edges filled samples value h = filled ∙ h
same_samples (Some start) a b edges filled samples value h = record {
  filled = λ k below. ap (λ xs. slice_index xs k) samples ∙ h.filled k (subst (λ n. k < n) filled below);
  passed = λ k below. h.passed k (subst (λ n. k < n) filled below);
  rest = λ k from within. h.rest k (subst (λ n. n ≤ k) filled from) within ∙ sym value;
}

same_scanner : (s : ScanState) (a b : Scanner) → IsOf s a → IsOf s b → (edges : List Edge) → StandsFor a edges → StandsFor b edges
same_scanner s a b of_a of_b edges h = record {
  clock = sym of_b.clock ∙ (of_a.clock ∙ h.clock);
  order = h.order;
  tracks = subst (λ t. Tracks t edges) (sym of_a.tracker ∙ of_b.tracker) h.tracks;
  value = λ clock last. h.value clock last ∙ (sym of_a.value ∙ of_b.value);
  samples = same_samples (line_start edges) a.sampler b.sampler edges (sym of_b.filled ∙ of_a.filled) (sym of_b.samples ∙ of_a.samples)
      (sym of_b.value ∙ of_a.value) h.samples;
  row = sym of_b.row ∙ (of_a.row ∙ h.row);
}

pub seen_again : (s : ScanState) (new : Scanner) → (s.filled ≤ 455 → IsOf s new) → (edges : List Edge) → HasSeen s edges
    → StandsFor new edges
seen_again s new is edges seen = same_scanner s seen.0 new seen.1 (is (seen.1).within) edges seen.2
