use Rattle.std.proofs.Common.{◌≡◌, ◌≤◌, length, sym, ap, ◌∙◌, arith}
use Rattle.std.specs.Prelude.{List, ℕ, Option, Some, slice_get, zip}
use Rattle.fs_model.specs.declared.outcomes.Outcome.{Outcome}
use Rattle.fs_model.specs.declared.sites.Job.{Job}
use Rattle.fs_model.specs.Job.{JobTable}
use Rattle.report.specs.Text.{outcome_row}
use Rattle.report.proofs.CsvLemmas.{zip_at, zip_whole}
use Rattle.report.proofs.CsvRows.{appends_row}
use Rattle.report.proofs.csv_reports.write_jobs.Goals as goal

abbrev row : Job × Option Outcome → List ℕ
row r = outcome_row r.0 r.1

pub loop-number-preserved : goal.loop-number-preserved
loop-number-preserved g c =
    let old = c.loop-number.invariant in
    let job_is : slice_get c.args.list.now.list c.loop-number.number ≡ Some c.get-job.result =
    ap (λ (t : JobTable). slice_get t.list c.loop-number.number) (sym old.walk) ∙ c.get-job.ensures.job in
    let here = zip_at c.args.list.now.list c.args.board.now c.loop-number.number c.get-job.result c.get-place.result job_is c.get-place.ensures in
    record {
      walk = c.get-job.ensures.same ∙ old.walk;
      setup = c.in_ok-write_place.ensures.setup;
      fields = c.in_ok-write_place.ensures.fields;
      wrote = c.in_ok-write_place.ensures.wrote;
      text = appends_row row (zip c.args.list.now.list c.args.board.now) c.loop-number.number _ _ _ _ here old.text c.in_ok-write_place.ensures.text;
    }

pub returns : goal.returns
returns g c =
    let all : length c.args.list.now.list ≤ c.loop-number.number = omega (arith, c.loop-number-test.false, c.len-number-end.ensures) in
    rw (zip_whole c.args.list.now.list c.args.board.now c.loop-number.number all) at c.loop-number.invariant.text
