use Rattle.std.proofs.Common.{◌≡◌, ◌++◌, drop}
use Rattle.gdb_packets.specs.Frames.{unescaped, unescaped_from}
use Rattle.gdb_packets.proofs.frames.push_unescaped.Given as goal

abbrev pub invariant-loop-byte : goal.invariant-loop-byte
invariant-loop-byte l = l.out.items ++ unescaped_from l.escaped (drop l.byte-index l.payload) ≡ l.fn.out.items ++ unescaped l.payload
