use Rattle.std.proofs.Common.{◌≡◌, length}
use Rattle.rv_machine.specs.Codes.{IsDecoded}
use Rattle.rv_machine.proofs.program.decode_all.Given as goal

abbrev pub invariant-loop-k : goal.invariant-loop-k
invariant-loop-k l = (length l.code.items ≡ l.k) × IsDecoded l.case l.code.items
