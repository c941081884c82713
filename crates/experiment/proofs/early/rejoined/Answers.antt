use Rattle.std.proofs.Common.{◌≡◌, length, subst, sym, ap, ◌∙◌, arith}
use Rattle.fs_model.specs.Case.{CaseData}
use Rattle.fs_model.specs.Run.{after, Halt}
use Rattle.rv_machine.specs.Machines.{MachineData}
use Rattle.outcome_class.specs.Seen.{going}
use Rattle.snapshot_store.specs.Stored.{IsSnap}
use Rattle.experiment.specs.Jobs.{same_core}
use Rattle.experiment.proofs.Halts.{sent_at}
use Rattle.experiment.proofs.Rejoining.{rejoined_is, decides_at, core_decides, golden_low}
use Rattle.experiment.proofs.early.rejoined.Goals as goal

pub agrees-requires : goal.agrees-requires
agrees-requires c =
    let r = c.args.reference.now in
    let snap : IsSnap r.case.now c.args.cycle c.in-Some.snap.now = subst (λ (x : CaseData). IsSnap x c.args.cycle c.in-Some.snap.now) r.snaps_are c.in-Some.ensures.snap in
    let low = golden_low r.snaps.now.spacing r.snaps.now.count c.args.cycle (sym c.in-Some.ensures.kept) in
    let some = (sent_at r.case.now (Halt r.golden.now.exit) (length r.golden.now.touches) c.args.cycle r.golden.now.output r.golden_is.ends (omega (arith, low, r.count_is))).some in
    let len = ap length c.requires.watch in
    omega (arith, some, len, c.sent.ensures, snap.stands.sent_is)

pub returns-then-agrees : goal.returns-then-agrees
returns-then-agrees c = λ exit output is.
    let r = c.args.reference.now in
    let snap : IsSnap r.case.now c.args.cycle c.in-Some.snap.now = subst (λ (x : CaseData). IsSnap x c.args.cycle c.in-Some.snap.now) r.snaps_are c.in-Some.ensures.snap in
    let agreed = c.agrees.ensures exit r.golden.now.output (going output) is in
    let core : c.machine.result.now.core ≡ (after r.case.now c.args.cycle).core = ap (λ (m : MachineData). m.core) c.machine.ensures ∙ snap.stands.same_core in
    let told = rejoined_is r.case.now r.golden.now r.snaps.now.spacing r.snaps.now.count c.args.cycle c.sent.result c.args.machine.now.core output c.agrees.result c.stands_as.result r.golden_is r.count_is (sym c.in-Some.ensures.kept)
    (c.sent.ensures ∙ snap.stands.sent_is) agreed (decides_at c.stands_as.result _ _ _ c.stands_as.ensures core) in
    rw c.if-agrees.true at told

pub returns-else-agrees : goal.returns-else-agrees
returns-else-agrees c = λ exit output is.
    let r = c.args.reference.now in
    let snap : IsSnap r.case.now c.args.cycle c.in-Some.snap.now = subst (λ (x : CaseData). IsSnap x c.args.cycle c.in-Some.snap.now) r.snaps_are c.in-Some.ensures.snap in
    let agreed = c.agrees.ensures exit r.golden.now.output (going output) is in
    let at = (after r.case.now c.args.cycle).core in
    let told = rejoined_is r.case.now r.golden.now r.snaps.now.spacing r.snaps.now.count c.args.cycle c.sent.result c.args.machine.now.core output c.agrees.result (same_core c.args.machine.now.core at) r.golden_is r.count_is (sym c.in-Some.ensures.kept)
    (c.sent.ensures ∙ snap.stands.sent_is) agreed (core_decides c.args.machine.now.core at) in
    c.if-agrees.false ∙ (rw c.if-agrees.false at told)
