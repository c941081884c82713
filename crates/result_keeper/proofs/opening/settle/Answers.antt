use Rattle.result_keeper.proofs.Begun.{settle_same, settle_synced}
use Rattle.result_keeper.proofs.opening.settle.Goals as goal

pub returns-in-Err-clause-any_moment : goal.returns-in-Err-clause-any_moment
returns-in-Err-clause-any_moment g c = λ told. settle_same (g.D.Disk.past c.args.disk.now) (g.D.Disk.past c.sync.new.self) (c.in-Err.ensures.err told)

pub returns-clause-any_moment : goal.returns-clause-any_moment
returns-clause-any_moment g c =
    λ told. settle_synced (g.D.Disk.past c.args.disk.now) (g.D.Disk.past c.sync.new.self) (g.D.Disk.past c.read_front.new.disk)
    (c.in-Ok.ensures.ok told) (c.read_front.ensures.same told) (g.met.D.Disk.reads_image c.args.disk.now told)
