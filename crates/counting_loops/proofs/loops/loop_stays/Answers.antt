use Rattle.std.proofs.Common.{rules}
use Rattle.counting_loops.proofs.Paths.{rest_is_long}
use Rattle.counting_loops.proofs.loops.loop_stays.Goals as goal

pub returns-clause-over : goal.returns-clause-over
returns-clause-over c = λ on.
    rest_is_long c.args.case.now c.args.scratch.now.head.core c.args.rest c.args.length c.requires.some (c.rounds_stay.ensures.long on)
