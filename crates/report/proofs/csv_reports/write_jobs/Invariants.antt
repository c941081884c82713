use Rattle.std.proofs.Common.{◌≡◌, false, take}
use Rattle.std.specs.Prelude.{zip}
use Rattle.std.specs.List.{flat_map}
use Rattle.std.specs.Io.KnownBytes.{Appends}
use Rattle.csv.specs.Writing.{default_writer, fields_written, has_written, text_written, writer_setup}
use Rattle.report.specs.Text.{outcome_row}
use Rattle.report.proofs.csv_reports.write_jobs.Given as goal

abbrev pub invariant-loop-number : goal.invariant-loop-number
invariant-loop-number g l = record {
  walk : l.walk ≡ l.list;
  setup : writer_setup l.writer ≡ default_writer;
  fields : fields_written l.writer ≡ 0;
  wrote : has_written l.writer ≡ false;
  text : Appends (text_written g.W.Write.contents l.fn.writer) (text_written g.W.Write.contents l.writer)
      (flat_map (λ row. outcome_row row.0 row.1) (take l.number (zip l.list.list l.board)));
}
