use Rattle.std.proofs.Common.{arith}
use Rattle.fault_space.proofs.Bounded.{in_limit}
use Rattle.report.proofs.symbols.counts_of.Goals as goal

pub overflow_cast-instructions : goal.overflow_cast-instructions
overflow_cast-instructions c =
    let low = in_limit c.args.case.now in
    record { fits = omega (arith, low, c.requires.pcs.as_many, c.facts.ensures.limit_max) }
