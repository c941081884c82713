use Rattle.std.proofs.Common.{◌≡◌, drop}
use Rattle.gdb_packets.specs.Frames.{number_from}
use Rattle.gdb_packets.proofs.numbers.number_in.Given as goal

abbrev pub invariant-loop-byte : goal.invariant-loop-byte
invariant-loop-byte l = number_from l.base 0 l.digits ≡ number_from l.base l.number (drop l.byte-index l.digits)
