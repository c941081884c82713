use Rattle.phases.specs.Failures.{of_load}
use Rattle.phases.proofs.Flags.{loaded_bare}
use Rattle.phases.proofs.Left.{left_by, load_refused}
use Rattle.phases.proofs.Sized.{sized}
use Rattle.command_line.specs.Line.{case_of}
use Rattle.phases.proofs.loading.case_in.Goals as goal

pub flagged-case-requires : goal.flagged-case-requires
flagged-case-requires c = loaded_bare c.args.bytes.now c.args.asked.now.map c.args.asked.now.limit c.in_ok-bare.bare c.in_ok-bare.ensures

pub returns-in_err-bare-clause-refused : goal.returns-in_err-bare-clause-refused
returns-in_err-bare-clause-refused c =
    rw (left_by c.from_residual.result (of_load c.in_err-bare.field-0.0) c.from_residual.ensures.1)
    (load_refused (case_of c.args.asked.now) c.args.bytes.now c.in_err-bare.field-0.0 c.requires c.in_err-bare.ensures)

pub returns-clause-sized : goal.returns-clause-sized
returns-clause-sized c = sized c.args.bytes.now c.args.asked.now.map c.args.asked.now.limit c.in_ok-bare.bare c.in_ok-bare.ensures
