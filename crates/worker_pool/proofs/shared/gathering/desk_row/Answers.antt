use Rattle.worker_pool.proofs.Offers.{right_row}
use Rattle.worker_pool.proofs.shared.gathering.desk_row.Goals as goal

pub returns-then-is_of : goal.returns-then-is_of
returns-then-is_of g c =
    right_row c.args.desk.now.case c.in_ok-row.row c.args.job.now c.in_ok-row.ensures.right (c.is_of.ensures.0 c.if-is_of.true)
