use Rattle.std.proofs.Common.{◌≡◌, ◌<◌, List, ℕ, ◌++◌, drop, length, subst, sym, ap, ◌∙◌, arith}
use Rattle.fs_model.specs.declared.events.Event.TheVariants.{Halted}
use Rattle.fs_model.specs.Case.{CaseData}
use Rattle.fs_model.specs.Run.{after}
use Rattle.rv_machine.specs.Machines.{MachineData}
use Rattle.snapshot_store.specs.Stored.{IsSnap}
use Rattle.run_answers.specs.Answers.{answer_with}
use Rattle.run_answers.specs.Reference.{IsReferenceOf}
use Rattle.run_answers.proofs.Rests.{golden_answer, kept_low, sent_few}
use Rattle.run_answers.proofs.runs.golden_rest.Goals as goal

pub bytes_after-requires : goal.bytes_after-requires
bytes_after-requires c =
    let r = c.reference.inside in
    let case = c.args.reference.now in
    let i : IsReferenceOf case r.golden.now r.snaps.now = subst (λ (x : CaseData). IsReferenceOf x r.golden.now r.snaps.now) c.reference.view_is c.reference.invariant in
    let snap : IsSnap case c.args.cycle c.in_ok-snap.snap.now = subst (λ (x : CaseData). IsSnap x c.args.cycle c.in_ok-snap.snap.now) i.snaps_case c.in_ok-snap.ensures.snap in
    let kept = kept_low r.snaps.now.spacing r.snaps.now.count c.args.cycle (sym c.in_ok-snap.ensures.kept) in
    let low : c.args.cycle < length r.golden.now.touches = omega (arith, kept, i.snaps_count) in
    rw (c.output.ensures, c.sent.ensures) (sent_few case r.golden.now c.args.cycle c.in_ok-snap.snap.now.sent i.golden_is low snap.stands.sent_is)

pub returns-then-stands_as : goal.returns-then-stands_as
returns-then-stands_as c = λ output.
    let r = c.reference.inside in
    let case = c.args.reference.now in
    let i : IsReferenceOf case r.golden.now r.snaps.now = subst (λ (x : CaseData). IsReferenceOf x r.golden.now r.snaps.now) c.reference.view_is c.reference.invariant in
    let snap : IsSnap case c.args.cycle c.in_ok-snap.snap.now = subst (λ (x : CaseData). IsSnap x c.args.cycle c.in_ok-snap.snap.now) i.snaps_case c.in_ok-snap.ensures.snap in
    let kept = kept_low r.snaps.now.spacing r.snaps.now.count c.args.cycle (sym c.in_ok-snap.ensures.kept) in
    let low : c.args.cycle < length r.golden.now.touches = omega (arith, kept, i.snaps_count) in
    let core : c.args.machine.now.core ≡ (after case c.args.cycle).core =
    c.stands_as.ensures.0 c.if-stands_as.true ∙ ap (λ (m : MachineData). m.core) c.machine.ensures ∙ snap.stands.same_core in
    let bytes : c.bytes_after.result.now ≡ drop c.in_ok-snap.snap.now.sent r.golden.now.output =
    c.bytes_after.ensures ∙ ap (λ (n : ℕ). drop n c.output.result.now) c.sent.ensures ∙ ap (drop c.in_ok-snap.snap.now.sent) c.output.ensures in
    golden_answer case r.golden.now c.args.cycle c.in_ok-snap.snap.now.sent c.exit.result c.args.machine.now.core i.golden_is low snap.stands.sent_is core c.exit.ensures output
    ∙ ap (λ (b : List ℕ). answer_with (output ++ b) (Halted c.exit.result)) (sym bytes)
