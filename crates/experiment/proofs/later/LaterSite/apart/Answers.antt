use Rattle.std.proofs.Common.{◌≡◌, ◌<◌, ◌∙◌, ℕ, Some, ap, subst, sym, length, arith}
use Rattle.std.specs.Prelude.{IfSome}
use Rattle.fs_model.specs.Case.{CaseData}
use Rattle.snapshot_store.specs.Along.{IsAt}
use Rattle.known_states.specs.KnownSites.{IsDifference}
use Rattle.experiment.specs.LaterSites.{LaterData}
use Rattle.experiment.proofs.Onward.{told_if}
use Rattle.experiment.proofs.later.LaterSite.apart.Goals as goal

pub returns-clause-told : goal.returns-clause-told
returns-clause-told c =
    let here = c.self.inside in
    let now = c.args.self.now in
    let machine = c.args.machine.now in
    let case : now.case ≡ here.case.now = ap (λ (x : LaterData). x.case) (sym c.self.view_is) in
    let low : c.args.cycle < length c.args.golden.now.touches = omega (arith, c.if-cycle-count.false, c.count.ensures.value) in
    let ahead : IsAt now.case c.args.cycle here.machine here.sent = rw (c.if-cycle-self.false, case) c.self.invariant.ahead in
    let sent : c.args.watch.now.sent ≡ Some here.sent = sym c.sent.ensures ∙ c.in_ok-sent.was ∙ ap (λ (n : ℕ). Some n) c.if-branch-self.false in
    let found = subst (λ (x : CaseData). IfSome c.difference.result (λ apart. IsDifference x here.machine.core machine.core c.args.cycle apart)) c.requires.machine c.difference.ensures in
    told_if now.case c.args.golden.now now.own c.difference.result machine here.machine c.args.cycle here.sent c.args.watch.now.sent c.requires.golden low ahead sent found c.requires.own
