use Rattle.campaign.proofs.UpTo.{IsUpTo}
use Rattle.campaign.proofs.paging.keep_pages.Given as goal

abbrev pub invariant-loop-left : goal.invariant-loop-left
invariant-loop-left g l =
    IsUpTo (g.W.Way.ends_early l.fn.pages.shortcuts) g.D.Disk.tells (g.D.Disk.past l.fn.disk) (g.D.Disk.past l.disk) (g.D.Disk.faults l.fn.disk) (g.D.Disk.faults l.disk) l.fn.pages l.pages l.most l.left l.from

abbrev pub decreases-loop-left : goal.decreases-loop-left
decreases-loop-left g l = l.left
