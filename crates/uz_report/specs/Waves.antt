-- The sound of a run as a WAVE file.
use Rattle.std.specs.Prelude.{◌≡◌, ℕ, ◌+◌, ◌%◌, ◌==◌, if◌then◌else◌, List, [], ◌∷◌, ◌++◌, codes, length}
use Rattle.byteorder.specs.Endian.{little_bytes}
use Rattle.uz_core.specs.declared.machine.Edge.{Edge}
use Rattle.uz_scan.specs.Lines.{ends_line}
use Rattle.uz_scan.specs.Pictures.{newest_first, sound_of}
use Rattle.uz_scan.specs.Scanning as scanning
use Rattle.uz_scan.specs.declared.scanner.Scan.{Scan}
use Rattle.uz_scan.specs.declared.scanner.Scan.TheVariants.{More, Line, Frame}
use Rattle.uz_report.specs.declared.sound_file.Wave.{Wave}

-- the rate of NTSC lines, a second
abbrev pub line_rate : ℕ
line_rate = 15734

-- RIFF: how many bytes follow these 8, an even number, and that they are a WAVE
abbrev pub riff_part : ℕ → List ℕ
riff_part samples = codes "RIFF" ++ little_bytes 4 (36 + samples + samples % 2) ++ codes "WAVE"

-- 16 bytes: PCM, one channel, samples and bytes a second, 1 byte and 8 bits a sample
abbrev pub format_part : List ℕ
format_part =
    codes "fmt " ++ little_bytes 4 16 ++ little_bytes 2 1 ++ little_bytes 2 1 ++ little_bytes 4 line_rate ++ little_bytes 4 line_rate
    ++ little_bytes 2 1 ++ little_bytes 2 8

abbrev pub data_part : ℕ → List ℕ
data_part samples = codes "data" ++ little_bytes 4 samples

abbrev pub header_bytes : ℕ → List ℕ
header_bytes samples = riff_part samples ++ format_part ++ data_part samples

-- the sound value at the end of each line of a list of edges (newest first), before the first frame too
abbrev pub samples : List Edge → List ℕ
samples [] = []
samples (e ∷ before) = if ends_line e before then samples before ++ sound_of before ∷ [] else samples before

abbrev pub samples_of : List Edge → List ℕ
samples_of edges = samples (newest_first edges)

-- after an odd number of samples comes a byte 0
abbrev pub pad_after : ℕ → List ℕ
pad_after count = if count % 2 == 0 then [] else 0 ∷ []

abbrev pub wave_bytes : List ℕ → List ℕ
wave_bytes all = header_bytes (length all) ++ all ++ pad_after (length all)

-- the file of a run's edges, in the order of time
abbrev pub wave_of : List Edge → List ℕ
wave_of edges = wave_bytes (samples_of edges)

-- the sample that a line which has ended adds
abbrev pub heard : Scan → List ℕ
heard More = []
heard (Line line) = line.sound ∷ []
heard (Frame frame) = []

-- the last edge's clock
abbrev pub clock_of : Wave → ℕ
clock_of wave = scanning.clock_of wave.scanner

-- what a growing file has seen: a list of edges (newest first)
pub record Holds (wave : Wave) (edges : List Edge) : Type 0 where
  pub scanner : scanning.StandsFor wave.scanner edges
  pub sounds : wave.sounds.items ≡ samples edges
