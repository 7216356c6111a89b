-- What the sink of a real output is over.
use Rattle.std.specs.Prelude.{ℕ}
use Rattle.uz_shelf.specs.declared.out_sink.OutSink.{OutSink}

-- the output
abbrev pub output_of : {W : Type 0} → OutSink W → W
output_of sink = sink.out

-- how many faults it has met
abbrev pub faults_of : {W : Type 0} → OutSink W → ℕ
faults_of sink = sink.faults
