use Rattle.std.proofs.Common.{arith}
use Rattle.keep_format.proofs.Walks.{walk_at_end, walk_at_cut, walk_step}
use Rattle.keep_format.proofs.reading.count_at.Goals as goal

pub returns-then-left-lt-BATCH_HEAD : goal.returns-then-left-lt-BATCH_HEAD
returns-then-left-lt-BATCH_HEAD c = walk_at_end c.args.file.now c.args.at c.requires.within c.requires.open c.if-left-lt-BATCH_HEAD.true

pub returns-then-left-count : goal.returns-then-left-count
returns-then-left-count c = walk_at_cut c.args.file.now c.args.at c.half_at-count.result c.requires.within c.requires.open c.half_at-count.ensures c.if-left-count.true

pub returns : goal.returns
returns c = (omega arith, walk_step c.args.file.now c.args.at c.half_at-count.result c.requires.within c.requires.open c.half_at-count.ensures)
