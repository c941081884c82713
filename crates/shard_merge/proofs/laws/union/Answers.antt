use Rattle.shard_merge.proofs.Unions.{commutes, associates, repeats, agree, right_union}
use Rattle.shard_merge.proofs.Many.{counts, order_is_free}
use Rattle.shard_merge.proofs.laws.union.Goals as goal

pub returns-clause-commutes : goal.returns-clause-commutes
returns-clause-commutes c = commutes

pub returns-clause-associates : goal.returns-clause-associates
returns-clause-associates c = associates

pub returns-clause-repeats : goal.returns-clause-repeats
returns-clause-repeats c = repeats

pub returns-clause-right : goal.returns-clause-right
returns-clause-right c = λ outcomes list a b ra rb. (agree outcomes list a b ra rb, right_union outcomes list a b ra rb)

pub returns-clause-counts : goal.returns-clause-counts
returns-clause-counts c = counts

pub returns-clause-order : goal.returns-clause-order
returns-clause-order c = order_is_free
