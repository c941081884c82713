use Rattle.std.proofs.Common.{Some, ap, ◌∙◌, arith}
use Rattle.fs_model.specs.declared.outcomes.Row.{Row}
use Rattle.fs_model.specs.Verdict.{VerdictData}
use Rattle.experiment.proofs.JobSites.{job_is, list_of, count_is}
use Rattle.campaign.proofs.Running.{known_run, new_run}
use Rattle.campaign.proofs.samples.outcome_of_job.Goals as goal

pub run_job-requires-clause-cycle : goal.run_job-requires-clause-cycle
run_job-requires-clause-cycle c =
    let is = job_is c.args.of.now.case.now c.args.of.now.list.now.list c.args.number c.get-job.result (list_of c.args.of.now.case.now c.args.of.now.list.now c.requires.ready.list_is) c.get-job.ensures in
    let count = count_is c.args.of.now.case.now c.args.of.now.golden.now c.requires.ready.golden_is in
    omega (arith, is.early, count)

pub run_job-requires-clause-cell : goal.run_job-requires-clause-cell
run_job-requires-clause-cell c =
    (job_is c.args.of.now.case.now c.args.of.now.list.now.list c.args.number c.get-job.result (list_of c.args.of.now.case.now c.args.of.now.list.now c.requires.ready.list_is) c.get-job.ensures).cell

pub run_job-requires-clause-bit : goal.run_job-requires-clause-bit
run_job-requires-clause-bit c =
    (job_is c.args.of.now.case.now c.args.of.now.list.now.list c.args.number c.get-job.result (list_of c.args.of.now.case.now c.args.of.now.list.now c.requires.ready.list_is) c.get-job.ensures).bit

pub returns-in-Some-clause-run : goal.returns-in-Some-clause-run
returns-in-Some-clause-run c = λ job at.
    known_run c.args.of.now.case.now c.args.snaps.now.spacing c.args.of.now.list.now.list job c.args.number c.in-Some.outcome c.args.board.now c.args.machine.now.taken (list_of c.args.of.now.case.now c.args.of.now.list.now c.requires.ready.list_is) at (c.get.ensures ∙ ap Some c.in-Some.is) c.requires.right (omega (arith, c.taken.ensures))

pub returns-in-None-clause-run : goal.returns-in-None-clause-run
returns-in-None-clause-run c = λ job at.
    let lists = list_of c.args.of.now.case.now c.args.of.now.list.now c.requires.ready.list_is in
    let row = c.row-outcome.ensures.value ∙ ap (λ (v : VerdictData). v.row) c.run_job.ensures.verdict in
    let count = c.requires.ready.snaps_count ∙ count_is c.args.of.now.case.now c.args.of.now.golden.now c.requires.ready.golden_is in
    new_run c.args.of.now.case.now c.args.snaps.now.spacing c.args.snaps.now.count c.args.of.now.list.now.list job c.get-job.result c.args.number c.row-outcome.result.outcome c.args.board.now c.put.new.self c.args.machine.now.taken c.run_job.new.machine.taken
    lists at c.get-job.ensures (c.get.ensures ∙ ap Some c.in-None.is) (ap (λ (r : Row). r.outcome) row) c.put.ensures.board count c.run_job.ensures.taken
