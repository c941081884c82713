use Rattle.fs_model.specs.Card.{card}
use Rattle.result_keeper.proofs.Begun.{opened_one, opened_same, opened_kept}
use Rattle.result_keeper.proofs.opening.open_file.Goals as goal

pub returns-clause-any_moment : goal.returns-clause-any_moment
returns-clause-any_moment g c =
    λ told. opened_one (g.D.Disk.past c.args.disk.now) (g.D.Disk.past c.settle.new.disk) (g.D.Disk.past c.begin_or_accept.new.disk) (card c.args.case.now) (c.settle.ensures.any_moment told) (c.begin_or_accept.ensures.any_moment told)

pub returns-clause-any_moment_kept : goal.returns-clause-any_moment_kept
returns-clause-any_moment_kept g c =
    λ told not_begun. opened_kept (g.D.Disk.past c.args.disk.now) (g.D.Disk.past c.settle.new.disk) (g.D.Disk.past c.begin_or_accept.new.disk) c.args.fresh (c.settle.ensures.same told) not_begun (c.begin_or_accept.ensures.untouched told) (c.settle.ensures.any_moment told)

pub returns-clause-same : goal.returns-clause-same
returns-clause-same g c =
    λ told not_begun. opened_same (g.D.Disk.past c.args.disk.now) (g.D.Disk.past c.settle.new.disk) (g.D.Disk.past c.begin_or_accept.new.disk) c.args.fresh (c.settle.ensures.same told) not_begun (c.begin_or_accept.ensures.untouched told)
