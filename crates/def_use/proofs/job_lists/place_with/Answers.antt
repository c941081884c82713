use Rattle.std.proofs.Common.{arith}
use Rattle.def_use.proofs.Search.{has_number}
use Rattle.def_use.proofs.job_lists.place_with.Goals as goal

pub returns : goal.returns
returns c = has_number c.args.reads.now c.args.firsts.now c.loop-high.low c.loop-high.high c.args.number c.requires.firsts (omega arith) c.loop-high.invariant.inside c.loop-high.invariant.below c.loop-high.invariant.above
