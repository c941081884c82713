use Rattle.std.proofs.Common.{length, ◌∙◌, ap}
use Rattle.fs_model.specs.Outcome.{total_at}
use Rattle.golden_trace.specs.Goldens.{GoldenData}
use Rattle.phases.specs.Reports.{report_in}
use Rattle.phases.specs.Failures.{status_for, status_of}
use Rattle.phases.proofs.Left.{left_by}
use Rattle.phases.proofs.Outputs.{said_so, silent_story}
use Rattle.phases.proofs.Reported.{board_is}
use Rattle.kept_commands.proofs.FileEnds.{unfinished_ends, unfinished_keeps, unfinished_memory, unfinished_silent, whole_ends}
use Rattle.campaign.proofs.Missing.{none_blank}
use Rattle.kept_commands.proofs.Trusted.{table_totals}
use Rattle.kept_commands.proofs.merge.report_merged.Goals as goal

pub returns-clause-cause : goal.returns-clause-cause
returns-clause-cause g c = whole_ends c.args.board.now (status_of c.report_totals.result) c.in_ok-totals.ensures.whole c.report_totals.ensures.ends

pub returns-clause-output : goal.returns-clause-output
returns-clause-output g c =
    let b = c.args.baseline.now in
    let board = c.args.board.now in
    let sites = c.sites-sites in
    let totals = table_totals b.case c.list.result.now c.in_ok-totals.totals board (c.list.ensures ∙ c.facts.ensures.jobs) c.in_ok-totals.ensures.sums in
    said_so g.O.Sink.tells g.O.Sink.taken g.O.Sink.faults _ _ c.args.out.now c.report_totals.new.out (status_of c.report_totals.result)
    (ap (λ (run : GoldenData). report_in c.args.format (length run.touches) sites.result (total_at c.in_ok-totals.totals)) c.golden.ensures
    ∙ board_is c.args.format b.case b.golden sites.result c.in_ok-totals.totals board c.facts.ensures.runs sites.ensures totals)
    c.report_totals.ensures.output

pub returns-in_err-totals : goal.returns-in_err-totals
returns-in_err-totals g c =
    let board = c.args.board.now in
    let answer = status_for c.in_err-totals.field-0.0 in
    let why = c.in_err-totals.ensures.unfinished in
    rw (left_by c.from_residual.result c.in_err-totals.field-0.0 c.from_residual.ensures.1)
    (record {
      cause = unfinished_ends board answer why;
      output = silent_story _ g.O.Sink.taken g.O.Sink.faults _ c.args.out.now answer (unfinished_silent board answer why);
      keeps = unfinished_keeps board answer why;
      whole = unfinished_memory board answer why;
    })

pub returns-clause-whole : goal.returns-clause-whole
returns-clause-whole g c = λ memory. none_blank 0 c.args.board.now c.in_ok-totals.ensures.whole
