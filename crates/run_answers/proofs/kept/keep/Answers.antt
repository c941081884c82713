use Rattle.std.proofs.Common.{◌≡◌, ℕ, ◌-◌, ◌++◌, List, drop, sym, ap, ◌∙◌}
use Rattle.fs_model.specs.Machine.{Core}
use Rattle.rv_machine.specs.Machines.{MachineData}
use Rattle.run_answers.specs.Answers.{answer_from, answer_with}
use Rattle.run_answers.proofs.Fronts.{rest_after, sent_within}
use Rattle.run_answers.proofs.kept.keep.Goals as goal

pub bytes_after-bytes-requires : goal.bytes_after-bytes-requires
bytes_after-bytes-requires c =
    let state = c.args.state.now in
    let case = state.machine.case in
    let p = c.requires.state in
    sent_within case (case.limit - state.cycle) state.sent state.machine.core p.before c.args.output.now c.args.last p.sent p.answer_is

pub returns-clause-place : goal.returns-clause-place
returns-clause-place c =
    let state = c.args.state.now in
    let case = state.machine.case in
    let k = case.limit - state.cycle in
    let p = c.requires.state in
    let bytes : c.extend_from_slice.new.self.items ≡ drop state.sent c.args.output.now =
    c.in_ok-extend_from_slice.ensures.items ∙ ap (λ (x : List ℕ). x ++ c.bytes_after-bytes.result.now) c.clear.ensures.items ∙ c.bytes_after-bytes.ensures in
    record {
      machine = ap (λ (m : MachineData). m.case) c.swap.ensures.x_after;
      rest = λ out.
          ap (λ (m : MachineData). answer_from case k (record { core = m.core; output = out })) c.swap.ensures.x_after
          ∙ rest_after case k state.sent state.machine.core p.before c.args.output.now c.args.last p.sent p.answer_is out
          ∙ ap (λ (b : List ℕ). answer_with (out ++ b) c.args.last) (sym bytes);
    }
