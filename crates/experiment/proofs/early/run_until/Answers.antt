use Rattle.std.proofs.Common.{inl, ◌-◌, ◌%◌, ◌≤◌, ◌^◌, sym, ap, ◌∙◌, arith}
use Rattle.outcome_class.specs.Seen.{WatchData}
use Rattle.experiment.specs.Steps.{begun}
use Rattle.experiment.proofs.Legs.{begins, ends_last}
use Rattle.experiment.proofs.early.run_until.Goals as goal

pub loop-at-init : goal.loop-at-init
loop-at-init c =
    let few : c.args.machine.now.taken ≤ 2 ^ 64 - 1 = omega arith in
    begins c.args.reference.now c.args.cycle c.args.sent c.args.machine.now c.watch_after-watch.result few c.requires.machine c.requires.cycle c.watch_after-watch.ensures

pub leg-requires-clause-machine : goal.leg-requires-clause-machine
leg-requires-clause-machine c = c.loop-at.invariant.follows.same_case

pub leg-requires-clause-watch : goal.leg-requires-clause-watch
leg-requires-clause-watch c = ap (λ (w : WatchData). w.golden) c.loop-at.invariant.follows.watch

pub leg-requires-clause-some : goal.leg-requires-clause-some
leg-requires-clause-some c = omega (arith, c.min-most.ensures, c.loop-at-test.true, c.spacing-spacing.ensures.some)

pub leg-requires-clause-within : goal.leg-requires-clause-within
leg-requires-clause-within c = omega (arith, c.min-most.ensures, c.limit-limit.ensures)

pub leg-requires-clause-short : goal.leg-requires-clause-short
leg-requires-clause-short c =
    let near : c.min-most.result ≤ c.spacing-spacing.result - c.loop-at.at % c.spacing-spacing.result = omega (arith, c.min-most.ensures) in
    inl (rw c.spacing-spacing.ensures.value at near)

pub loop-at-preserved : goal.loop-at-preserved
loop-at-preserved c = c.in_default.ensures.run c.args.cycle c.args.machine.now.taken (begun c.args.machine.now.core c.args.reference.now.golden.now.output c.args.sent) c.loop-at.invariant

pub returns-in-Some : goal.returns-in-Some
returns-in-Some c =
    let told = c.in-Some.ensures.run c.args.cycle c.args.machine.now.taken (begun c.args.machine.now.core c.args.reference.now.golden.now.output c.args.sent) c.loop-at.invariant in
    record { outcome = told.outcome; taken = told.taken; case = told.case ∙ sym c.requires.machine }

pub returns : goal.returns
returns c =
    let over : c.args.reference.now.case.now.limit ≤ c.loop-at.at = omega (arith, c.loop-at-test.false, c.limit-limit.ensures) in
    let told = ends_last c.args.reference.now c.args.cycle c.args.machine.now.taken c.loop-at.at (begun c.args.machine.now.core c.args.reference.now.golden.now.output c.args.sent) c.loop-at.machine c.loop-at.watch c.outcome.result over c.outcome.ensures c.loop-at.invariant in
    record { outcome = told.outcome; taken = told.taken; case = told.case ∙ sym c.requires.machine }
