use Rattle.std.proofs.Common.{rules, ◌≡◌, true, ap, ◌∙◌, arith}
use Rattle.experiment.specs.Kept.{ShortcutsData}
use Rattle.experiment.proofs.Endless.{times_out}
use Rattle.experiment.proofs.JobSites.{some_steps}
use Rattle.experiment.proofs.shortcuts.Shortcuts.outcome_here.Goals as goal

pub met-by_state-requires-clause-some : goal.met-by_state-requires-clause-some
met-by_state-requires-clause-some g c =
    let r = c.args.reference.now in
    omega (arith, some_steps r.case.now r.golden.now r.golden_is, r.count_is)

pub returns-then-is_endless-clause-known : goal.returns-then-is_endless-clause-known
returns-then-is_endless-clause-known g c =
    let r = c.args.reference.now in
    let over : c.is_endless.result ≡ true = search rules in
    let same = c.self.invariant ∙ ap (λ (x : ShortcutsData). x.case) c.self.view_is ∙ c.requires.case in
    times_out r.case.now _ r.golden.now c.args.at c.args.machine.now c.args.watch.now same (c.is_endless.ensures.over over)
