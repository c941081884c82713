use Rattle.std.proofs.Common.{ap}
use Rattle.command_line.specs.Request.{draws_of}
use Rattle.phases.specs.Failures.{status_of}
use Rattle.phases.proofs.Outputs.{said_so}
use Rattle.kept_commands.specs.Sample.{sample_of}
use Rattle.kept_commands.proofs.sample.sample.Goals as goal

pub returns-clause-output : goal.returns-clause-output
returns-clause-output g c =
    said_so g.O.Sink.tells g.O.Sink.taken g.O.Sink.faults _ _ c.args.out.now c.sample_jobs-answer.new.out (status_of c.sample_jobs-answer.result)
    (ap (sample_of (draws_of c.args.asked.now)) c.in_ok-baseline.ensures.same) c.sample_jobs-answer.ensures.output
