use Rattle.std.proofs.Common.{◌≡◌, ◌-◌, length, drop}
use Rattle.keep_format.specs.KeepFile.{batches_from, batches_of}
use Rattle.keep_format.specs.Reading.{gate_of}
use Rattle.keep_format.proofs.reading.find_gate.Given as goal

abbrev pub invariant-gates : goal.invariant-gates
invariant-gates l = gate_of (batches_from l.at 0 (drop l.at l.file)) ≡ gate_of (batches_of l.file l.gate)

abbrev pub decreases-gates : goal.decreases-gates
decreases-gates l = length l.file - l.at
