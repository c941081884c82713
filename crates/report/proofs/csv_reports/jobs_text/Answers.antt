use Rattle.std.proofs.Common.{◌≡◌, ◌∙◌, ◌++◌, ℕ, List, ap}
use Rattle.std.specs.Prelude.{◌≢◌, zip}
use Rattle.std.specs.List.{flat_map}
use Rattle.csv.specs.declared.writer.QuoteStyle.TheVariants as style
use Rattle.report.specs.Text.{outcome_row}
use Rattle.report.proofs.CsvRows.{more_names_are}
use Rattle.report.proofs.csv_reports.jobs_text.Goals as goal

pub returns-in-Ok : goal.returns-in-Ok
returns-in-Ok c =
    let from = c.from_writer-writer.ensures in
    let plain : c.from_writer-writer.result.cfg.style ≢ style.NonNumeric = rw from.cfg (λ e. cc e) in
    let h = c.in_ok-write_fields.ensures.bytes from.fields from.wrote plain in
    let names = rw (from.cfg, from.wtr, c.new.ensures.items, from.empty, c.as_slice.ensures, c.as_slice-2.ensures, c.as_slice-3.ensures, c.as_slice-4.ensures, c.as_slice-5.ensures, more_names_are) at h in
    c.in-Ok.ensures.ok ∙ c.in_ok-write_jobs.ensures ∙ ap (λ (t : List ℕ). t ++ flat_map (λ row. outcome_row row.0 row.1) (zip c.args.list.now.list c.args.board.now)) names
