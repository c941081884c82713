use Rattle.std.proofs.Common.{◌≡◌, ℕ, ◌++◌, [], List, take, subst, sym, ap, ◌∙◌, arith}
use Rattle.fs_model.specs.Case.{CaseData}
use Rattle.fs_model.specs.Cell.{IsCell, flip}
use Rattle.fs_model.specs.Machine.{Core}
use Rattle.fs_model.specs.Run.{after}
use Rattle.rv_machine.specs.Machines.{MachineData}
use Rattle.snapshot_store.specs.Along.{IsAt}
use Rattle.run_answers.specs.Reference.{IsReferenceOf}
use Rattle.run_answers.proofs.Rests.{in_limit, sent_are, sent_few}
use Rattle.run_answers.proofs.Sites.{early_is, flip_is, site_is}
use Rattle.run_answers.proofs.answers.begin.Goals as goal

pub nearest-snap-requires : goal.nearest-snap-requires
nearest-snap-requires c =
    let r = c.reference.inside in
    let case = c.args.reference.now in
    let i : IsReferenceOf case r.golden.now r.snaps.now = subst (λ (x : CaseData). IsReferenceOf x r.golden.now r.snaps.now) c.reference.view_is c.reference.invariant in
    let early = early_is case r.golden.now c.args.job.now i.golden_is c.requires.job in
    omega (arith, early, i.snaps_count)

pub flip-requires-clause-cell : goal.flip-requires-clause-cell
flip-requires-clause-cell c =
    let case = c.args.reference.now in
    let same : c.copy_from.new.self.case ≡ case = ap (λ (m : MachineData). m.case) c.copy_from.ensures ∙ c.requires.machine in
    let is : c.advance-sent.new.machine.case ≡ case = c.advance-sent.ensures.at.same_case ∙ same in
    subst (λ (x : CaseData). IsCell x c.args.job.now.cell) (sym is) (site_is case c.args.job.now c.requires.job).cell

pub flip-requires-clause-bit : goal.flip-requires-clause-bit
flip-requires-clause-bit c = (site_is c.args.reference.now c.args.job.now c.requires.job).bit

pub bytes_before-requires : goal.bytes_before-requires
bytes_before-requires c =
    let r = c.reference.inside in
    let case = c.args.reference.now in
    let i : IsReferenceOf case r.golden.now r.snaps.now = subst (λ (x : CaseData). IsReferenceOf x r.golden.now r.snaps.now) c.reference.view_is c.reference.invariant in
    let early = early_is case r.golden.now c.args.job.now i.golden_is c.requires.job in
    let same : c.copy_from.new.self.case ≡ case = ap (λ (m : MachineData). m.case) c.copy_from.ensures ∙ c.requires.machine in
    let at : IsAt case c.args.job.now.cycle c.advance-sent.new.machine c.advance-sent.result =
    subst (λ (x : CaseData). IsAt x c.args.job.now.cycle c.advance-sent.new.machine c.advance-sent.result) same c.advance-sent.ensures.at in
    rw c.output.ensures (sent_few case r.golden.now c.args.job.now.cycle c.advance-sent.result i.golden_is early at.sent_is)

pub returns-clause-state : goal.returns-clause-state
returns-clause-state c =
    let r = c.reference.inside in
    let case = c.args.reference.now in
    let job = c.args.job.now in
    let i : IsReferenceOf case r.golden.now r.snaps.now = subst (λ (x : CaseData). IsReferenceOf x r.golden.now r.snaps.now) c.reference.view_is c.reference.invariant in
    let early = early_is case r.golden.now job i.golden_is c.requires.job in
    let same : c.copy_from.new.self.case ≡ case = ap (λ (m : MachineData). m.case) c.copy_from.ensures ∙ c.requires.machine in
    let at : IsAt case job.cycle c.advance-sent.new.machine c.advance-sent.result =
    subst (λ (x : CaseData). IsAt x job.cycle c.advance-sent.new.machine c.advance-sent.result) same c.advance-sent.ensures.at in
    let core : c.flip.new.self.core ≡ flip (after case job.cycle).core job.cell job.bit =
    ap (λ (m : MachineData). m.core) c.flip.ensures ∙ ap (λ (x : Core). flip x job.cell job.bit) at.same_core in
    let bytes : c.bytes_before.result.now ≡ (after case job.cycle).output =
    c.bytes_before.ensures ∙ ap (take c.advance-sent.result) c.output.ensures ∙ sent_are case r.golden.now job.cycle c.advance-sent.result i.golden_is early at.sent_is in
    let none : List ℕ = [] in
    let output : c.extend_from_slice.new.self.items ≡ (after case job.cycle).output =
    c.in_ok-extend_from_slice.ensures.items ∙ ap (λ (x : List ℕ). x ++ c.bytes_before.result.now) c.clear.ensures.items ∙ bytes in
    flip_is case job c.flip.new.self.core c.extend_from_slice.new.self.items core output

pub returns-clause-within : goal.returns-clause-within
returns-clause-within c =
    let r = c.reference.inside in
    let case = c.args.reference.now in
    let i : IsReferenceOf case r.golden.now r.snaps.now = subst (λ (x : CaseData). IsReferenceOf x r.golden.now r.snaps.now) c.reference.view_is c.reference.invariant in
    in_limit case r.golden.now c.args.job.now.cycle i.golden_is (early_is case r.golden.now c.args.job.now i.golden_is c.requires.job)
