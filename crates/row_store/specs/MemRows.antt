-- What the store in memory holds, and which of its calls are to fail.
use Rattle.std.specs.Prelude.{List}
use Rattle.fs_outside.specs.declared.memory.call_list.CallList.{CallList}
use Rattle.row_store.specs.declared.rows.ExportRow.{ExportRow}
use Rattle.row_store.specs.declared.mem_rows.MemRows.{MemRows}

abbrev pub mem_rows : MemRows → List ExportRow
mem_rows store = store.rows.items

-- its list of the calls that fail, with what it has counted
abbrev pub rows_list : MemRows → CallList
rows_list store = record { fails = store.fails; calls = store.calls; listed = store.listed }
