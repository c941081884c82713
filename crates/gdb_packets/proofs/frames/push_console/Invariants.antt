use Rattle.std.proofs.Common.{◌≡◌, ◌++◌, take}
use Rattle.std.specs.List.{flat_map}
use Rattle.gdb_packets.specs.Frames.{console}
use Rattle.gdb_packets.proofs.frames.push_console.Given as goal

abbrev pub invariant-loop-byte : goal.invariant-loop-byte
invariant-loop-byte l = l.out.items ≡ l.fn.out.items ++ flat_map console (take l.byte-index l.bytes)
