-- What the sure source has left, and what the sure sink took.
use Rattle.std.specs.Prelude.{ℕ, List, drop}
use Rattle.fs_outside.specs.declared.memory.sure_streams.SureSource.{SureSource}
use Rattle.fs_outside.specs.declared.memory.sure_streams.SureSink.{SureSink}

abbrev pub sure_left : SureSource → List ℕ
sure_left source = drop source.at source.bytes.items

abbrev pub sure_taken : SureSink → List ℕ
sure_taken sink = sink.bytes.items

-- how often it found no memory: its count of faults
abbrev pub sure_sink_short : SureSink → ℕ
sure_sink_short sink = sink.short
