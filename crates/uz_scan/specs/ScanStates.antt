-- What a scanner knows, as plain values.
use Rattle.std.specs.Prelude.{◌≡◌, ℕ, ◌≤◌, List}
use Rattle.uz_core.specs.declared.machine.Edge.{Edge}
use Rattle.uz_scan.specs.declared.scanner.Scanner.{Scanner}
use Rattle.uz_scan.specs.declared.states.ScanState.{ScanState}
use Rattle.uz_scan.specs.declared.tracker.Tracker.{Tracker}
use Rattle.uz_scan.specs.Scanning.{StandsFor}

-- the line and the frame that run
abbrev pub tracker_in : ScanState → Tracker
tracker_in s = record {
  is_high = s.is_high;
  sound = s.sound;
  start = s.start;
  low = s.low;
  after_broad = s.after_broad;
  frame = s.frame;
  rows = s.rows;
}

-- the values are a scanner's
pub record IsOf (s : ScanState) (scanner : Scanner) : Type 0 where
  pub clock : s.clock ≡ scanner.clock
  pub tracker : tracker_in s ≡ scanner.tracker
  pub value : s.value ≡ scanner.sampler.value
  pub filled : s.filled ≡ scanner.sampler.filled
  pub within : s.filled ≤ 455
  pub samples : s.samples ≡ scanner.sampler.samples
  pub row : s.row ≡ scanner.row

-- The values are those of a scanner that has seen these edges (newest first)
abbrev pub HasSeen : ScanState → List Edge → Type 0
HasSeen s edges = (scanner : Scanner) × IsOf s scanner × StandsFor scanner edges
