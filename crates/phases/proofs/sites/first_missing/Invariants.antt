use Rattle.std.proofs.Common.{take, All}
use Rattle.phases.specs.Sites.{IsSite}
use Rattle.phases.proofs.sites.first_missing.Given as goal

abbrev pub invariant-loop-site : goal.invariant-loop-site
invariant-loop-site l = All (IsSite l.case) (take l.site-index l.sites)
