use Rattle.std.proofs.Common.{refl, arith}
use Rattle.shard_merge.proofs.Apart.{agree_all, agree_more}
use Rattle.shard_merge.proofs.disagreements.find_disagreement.Goals as goal

pub loop-job-preserved : goal.loop-job-preserved
loop-job-preserved c = agree_more c.args.board.now c.args.other.now c.loop-job.job c.loop-job.invariant (c.in_default.ensures.agree refl)

pub returns : goal.returns
returns c = agree_all c.args.board.now c.args.other.now c.loop-job.job (let le = c.loop-job-test.false in let e = c.len-job-end.ensures in omega (arith, le, e)) c.loop-job.invariant
