use Rattle.std.proofs.Common.{refl, ap, ◌∙◌}
use Rattle.fs_outside.proofs.Writes.{writes_part}
use Rattle.rv_machine.specs.Machines.{MachineData}
use Rattle.report.proofs.Buffered.{flushed}
use Rattle.plain_commands.proofs.Traced.{output_fails, last_fails, all_moved}
use Rattle.plain_commands.proofs.trace.write_trace.Goals as goal

pub returns-in_err-put_output-clause-bytes : goal.returns-in_err-put_output-clause-bytes
returns-in_err-put_output-clause-bytes g c = λ told.
    let same = ap (λ (m : MachineData). m.case) c.rewind.ensures ∙ c.put_instructions.ensures.case in
    let part = c.in_err-put_output.ensures.bytes told in
    writes_part _ _ _ c.from_residual-in_err-put_output.result c.from_residual-in_err-put_output.ensures.0
    (output_fails c.args.machine.now.case c.in_ok-went.went c.in_ok-went.last c.in_ok-went.ensures.walked _ _ _ _ _ c.requires.empty
    (c.in_ok-went.ensures.bytes told) (rw same at part))

pub returns-in_err-put_end-clause-bytes : goal.returns-in_err-put_end-clause-bytes
returns-in_err-put_end-clause-bytes g c = λ told.
    let same = ap (λ (m : MachineData). m.case) c.rewind.ensures ∙ c.put_instructions.ensures.case in
    let output = c.in_ok-put_output.ensures.bytes told in
    writes_part _ _ _ c.from_residual-in_err-put_end.result c.from_residual-in_err-put_end.ensures.0
    (last_fails c.args.machine.now.case c.in_ok-went.went c.in_ok-went.last c.in_ok-went.ensures.walked _ _ _ _ _ _ _ c.requires.empty
    (c.in_ok-went.ensures.bytes told) (rw same at output) (c.in_err-put_end.ensures.bytes told))

pub returns-clause-bytes : goal.returns-clause-bytes
returns-clause-bytes g c = λ told.
    let same = ap (λ (m : MachineData). m.case) c.rewind.ensures ∙ c.put_instructions.ensures.case in
    let output = c.in_ok-put_output.ensures.bytes told in
    flushed _ _ _ _ _ _ c.flush.result refl
    (all_moved c.args.machine.now.case c.in_ok-went.went c.in_ok-went.last c.in_ok-went.ensures.walked _ _ _ _ _ _ _ _ c.requires.empty
    (c.in_ok-went.ensures.bytes told) (rw same at output) (c.in_ok-put_end.ensures.bytes told)) (c.flush.ensures.bytes told)
