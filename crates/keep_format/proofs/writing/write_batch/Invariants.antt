use Rattle.std.proofs.Common.{All, ◌≡◌, ◌+◌, ◌-◌, ◌*◌, ◌≤◌, ◌++◌, length, take, drop, vec_len, vec_capacity}
use Rattle.keep_format.specs.KeepFile.{IsWritable, rows_bytes}
use Rattle.keep_format.proofs.writing.write_batch.Given as goal

abbrev pub invariant-loop-row : goal.invariant-loop-row
invariant-loop-row l = record {
  written : l.out.items ++ rows_bytes (drop l.row-index l.rows) ≡ l.initial.out.items ++ rows_bytes l.rows;
  room : vec_len l.out + 1 + 10 * (length l.rows - l.row-index) ≤ vec_capacity l.out;
  writable : All IsWritable (take l.row-index l.rows);
  kept : vec_capacity l.fn.out ≤ vec_capacity l.out;
}
