use Rattle.std.proofs.Common.{◌≡◌, ap, sym, ◌∙◌, refl}
use Rattle.fs_model.specs.Case.{CaseData}
use Rattle.fs_model.specs.Machine.{reset}
use Rattle.fs_model.specs.Run.{start}
use Rattle.rv_machine.specs.Machines.{MachineData}
use Rattle.report.proofs.Buffered.{part_goes_on, puts_part}
use Rattle.timeline.specs.Places.{from_flip}
use Rattle.replay.specs.Text.{lines_from}
use Rattle.replay.proofs.Lines.{puts_behind}
use Rattle.replay.proofs.site_texts.put_view.Goals as goal

start_core : (c : CaseData) (m m' : MachineData) → m.case ≡ c → m' ≡ record m { core = reset m.case } → (start c).core ≡ m'.core
unfolding start
start_core c m m' e f = ap reset (sym e) ∙ sym (ap (λ (x : MachineData). x.core) f)

pub returns-in_err-put_lines-in-Whole-clause-bytes : goal.returns-in_err-put_lines-in-Whole-clause-bytes
returns-in_err-put_lines-in-Whole-clause-bytes g c = λ told.
    let case = c.args.machine.now.case in
    let site = c.args.site.now in
    let same : c.rewind.new.self.case ≡ case = ap (λ (m : MachineData). m.case) c.rewind.ensures in
    let part = c.in_err-put_lines-in-Whole.ensures.bytes (start case) (start_core case c.args.machine.now c.rewind.new.self refl c.rewind.ensures) told in
    rw c.in-Whole.is (puts_part _ _ _ _ _ c.from_residual.result c.from_residual.ensures.0
    (part_goes_on _ _ c.args.waiting.now.items (lines_from case 0 (start case) site.cycle) (lines_from case site.cycle (from_flip case site) c.args.steps) (rw same at part)))

pub returns-in_ok-put_lines-in-Whole-clause-bytes : goal.returns-in_ok-put_lines-in-Whole-clause-bytes
returns-in_ok-put_lines-in-Whole-clause-bytes g c = λ told.
    let case = c.args.machine.now.case in
    let site = c.args.site.now in
    let same : c.rewind.new.self.case ≡ case = ap (λ (m : MachineData). m.case) c.rewind.ensures in
    let after_lines = c.put_lines.ensures.case ∙ same in
    let first = c.in_ok-put_lines-in-Whole.ensures.bytes (start case) (start_core case c.args.machine.now c.rewind.new.self refl c.rewind.ensures) told in
    let lines = c.put_from_flip-in-Whole.ensures.bytes told in
    rw c.in-Whole.is (puts_behind _ _ _ _ _ _ (lines_from case 0 (start case) site.cycle) (lines_from case site.cycle (from_flip case site) c.args.steps) c.put_from_flip-in-Whole.result
    (rw same at first) (rw after_lines at lines))
