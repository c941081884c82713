use Rattle.std.proofs.Common.{◌≡◌, ◌∙◌, ◌++◌, ℕ, List, ap}
use Rattle.std.specs.Prelude.{◌≢◌}
use Rattle.std.specs.List.{flat_map}
use Rattle.csv.specs.declared.writer.QuoteStyle.TheVariants as style
use Rattle.report.specs.Text.{job_row}
use Rattle.report.proofs.CsvRows.{names_are}
use Rattle.report.proofs.csv_reports.plan_text.Goals as goal

pub returns-in-Ok : goal.returns-in-Ok
returns-in-Ok c =
    let from = c.from_writer-writer.ensures in
    let plain : c.from_writer-writer.result.cfg.style ≢ style.NonNumeric = rw from.cfg (λ e. cc e) in
    let h = c.in_ok-write_fields.ensures.bytes from.fields from.wrote plain in
    let names = rw (from.cfg, from.wtr, c.new.ensures.items, from.empty, c.as_slice.ensures, c.as_slice-2.ensures, c.as_slice-3.ensures, c.as_slice-4.ensures, names_are) at h in
    c.in-Ok.ensures.ok ∙ c.in_ok-write_plan.ensures ∙ ap (λ (t : List ℕ). t ++ flat_map job_row c.args.list.now.list) names
