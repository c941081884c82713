use Rattle.std.proofs.Common.{length, ◌∙◌, ap}
use Rattle.golden_trace.specs.Goldens.{GoldenData}
use Rattle.command_line.specs.Request.{draws_of}
use Rattle.phases.proofs.Outputs.{done_story, failed_story, said_so}
use Rattle.kept_commands.proofs.Drawn.{sample_is}
use Rattle.kept_commands.proofs.sample.sample_jobs.Goals as goal

pub returns-in-Ok-clause-output : goal.returns-in-Ok-clause-output
returns-in-Ok-clause-output g c =
    let b = c.args.baseline.now in
    said_so g.O.Sink.tells g.O.Sink.taken g.O.Sink.faults _ _ c.args.out.now c.write_sample.new.out _
    (sample_is (draws_of c.args.asked.now) b.case b.golden c.count-instructions.result c.population_of-population.result c.draws-samples.result c.in_ok-totals.totals c.facts.ensures.runs
    (c.count-instructions.ensures.value ∙ ap (λ (run : GoldenData). length run.touches) c.golden.ensures) c.population_of-population.ensures c.draws-samples.ensures c.in_ok-totals.ensures)
    (done_story g.O.Sink.tells g.O.Sink.taken g.O.Sink.faults _ c.args.out.now c.write_sample.new.out c.in-Ok.ensures.bytes c.in-Ok.ensures.cause)

pub returns-in-Err-clause-output : goal.returns-in-Err-clause-output
returns-in-Err-clause-output g c =
    let b = c.args.baseline.now in
    said_so g.O.Sink.tells g.O.Sink.taken g.O.Sink.faults _ _ c.args.out.now c.write_sample.new.out _
    (sample_is (draws_of c.args.asked.now) b.case b.golden c.count-instructions.result c.population_of-population.result c.draws-samples.result c.in_ok-totals.totals c.facts.ensures.runs
    (c.count-instructions.ensures.value ∙ ap (λ (run : GoldenData). length run.touches) c.golden.ensures) c.population_of-population.ensures c.draws-samples.ensures c.in_ok-totals.ensures)
    (failed_story g.O.Sink.tells g.O.Sink.taken g.O.Sink.faults _ c.args.out.now c.write_sample.new.out c.in-Err.ensures.bytes c.in-Err.ensures.cause)
