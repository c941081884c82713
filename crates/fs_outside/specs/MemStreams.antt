-- What a source in memory has left and a sink in memory took, some of whose calls are to fail.
use Rattle.std.specs.Prelude.{ℕ, ◌+◌, List, drop}
use Rattle.fs_outside.specs.declared.memory.call_list.CallList.{CallList}
use Rattle.fs_outside.specs.declared.memory.mem_streams.MemSource.{MemSource}
use Rattle.fs_outside.specs.declared.memory.mem_streams.MemSink.{MemSink}

abbrev pub mem_left : MemSource → List ℕ
mem_left source = drop source.at source.bytes.items

-- its list of the calls that fail, with what it has counted
abbrev pub source_list : MemSource → CallList
source_list source = source.list

abbrev pub mem_taken : MemSink → List ℕ
mem_taken sink = sink.bytes.items

abbrev pub sink_list : MemSink → CallList
sink_list sink = sink.list

-- how often it found no memory
abbrev pub sink_short : MemSink → ℕ
sink_short sink = sink.short

-- how often it failed
abbrev pub sink_faults : MemSink → ℕ
sink_faults sink = sink.list.listed + sink.short
