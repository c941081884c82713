use Rattle.std.proofs.Common.{arith}
use Rattle.phases.proofs.Reported.{cycles_is}
use Rattle.debugger.proofs.facts.facts_of.Goals as goal

pub run_site_plain-outcome-requires-clause-cycle : goal.run_site_plain-outcome-requires-clause-cycle
run_site_plain-outcome-requires-clause-cycle c =
    let count = cycles_is c.args.case.now c.args.golden.now c.requires.golden in
    let early = c.requires.site.early in
    omega (arith, count, early)
