use Rattle.std.proofs.Common.{◌≡◌, ◌<◌, ◌^◌, rules}
use Rattle.std.specs.Prelude.{◌≢◌}
use Rattle.csv.specs.declared.writer.QuoteStyle.TheVariants as style
use Rattle.csv.specs.Writing.{writer_setup}
use Rattle.report.proofs.CsvRows.{row_is}
use Rattle.report.proofs.csv_reports.write_job.Goals as goal

pub returns-clause-text : goal.returns-clause-text
returns-clause-text g c =
    let plain : (writer_setup c.args.writer.now).style ≢ style.NonNumeric = rw c.requires.setup (λ e. cc e) in
    let h = c.in_ok-write_fields.ensures.bytes c.requires.fields c.requires.wrote plain in
    let cycle : c.args.job.now.cycle < 2 ^ 64 = search rules in
    let cell : c.args.job.now.cell < 2 ^ 64 = search rules in
    let bit : c.args.job.now.bit < 2 ^ 64 = search rules in
    let weight : c.args.job.now.weight < 2 ^ 64 = search rules in
    rw (
      c.requires.setup,
      c.as_bytes.ensures.value,
      c.format.ensures.text,
      c.as_bytes-2.ensures.value,
      c.format-2.ensures.text,
      c.as_bytes-3.ensures.value,
      c.format-3.ensures.text,
      c.as_bytes-4.ensures.value,
      c.format-4.ensures.text,
      row_is c.args.job.now.cycle c.args.job.now.cell c.args.job.now.bit c.args.job.now.weight cycle cell bit weight,
    ) at h
