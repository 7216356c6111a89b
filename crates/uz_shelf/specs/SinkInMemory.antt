-- What the sink in memory holds.
use Rattle.std.specs.Prelude.{ℕ, List, Option, Some}
use Rattle.uz_shelf.specs.declared.fail.Fail.{Fail}
use Rattle.uz_shelf.specs.declared.memory_sink.MemorySink.{MemorySink}

-- the text so far
abbrev pub text_of : MemorySink → List ℕ
text_of sink = sink.text.items

-- it tells them
abbrev pub told_text : MemorySink → Option (List ℕ)
told_text sink = Some (text_of sink)

-- its planned faults
abbrev pub plan_of : MemorySink → List Fail
plan_of sink = sink.fails.items

-- how many calls were made
abbrev pub calls_of : MemorySink → ℕ
calls_of sink = sink.calls

-- how many faults it has met
abbrev pub faults_of : MemorySink → ℕ
faults_of sink = sink.faults
