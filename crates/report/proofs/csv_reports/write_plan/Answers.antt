use Rattle.std.proofs.Common.{◌≡◌, sym, ap, ◌∙◌}
use Rattle.std.specs.Prelude.{Some, slice_get}
use Rattle.fs_model.specs.Job.{JobTable}
use Rattle.report.specs.Text.{job_row}
use Rattle.report.proofs.CsvRows.{appends_row}
use Rattle.report.proofs.csv_reports.write_plan.Goals as goal

pub loop-number-preserved : goal.loop-number-preserved
loop-number-preserved g c =
    let old = c.loop-number.invariant in
    let job_is : slice_get c.args.list.now.list c.loop-number.number ≡ Some c.get-job.result =
    ap (λ (t : JobTable). slice_get t.list c.loop-number.number) (sym old.walk) ∙ c.get-job.ensures.job in
    record {
      walk = c.get-job.ensures.same ∙ old.walk;
      setup = c.in_ok-write_job.ensures.setup;
      fields = c.in_ok-write_job.ensures.fields;
      wrote = c.in_ok-write_job.ensures.wrote;
      text = appends_row job_row c.args.list.now.list c.loop-number.number c.get-job.result _ _ _ job_is old.text c.in_ok-write_job.ensures.text;
    }
