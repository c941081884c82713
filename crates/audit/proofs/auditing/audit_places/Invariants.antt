use Rattle.std.proofs.Common.{◌≡◌, ◌≤◌, ◌++◌, take}
use Rattle.std.specs.Prelude.{count_by}
use Rattle.std.specs.List.{flat_map}
use Rattle.audit.proofs.Places.{row_text, row_wrong, rows}
use Rattle.audit.proofs.auditing.audit_places.Given as goal

abbrev pub invariant-loop-number : goal.invariant-loop-number
invariant-loop-number g l = record {
  same : l.reruns ≡ l.fn.reruns;
  along : l.walk ≡ l.list;
  counted : l.wrong ≡ count_by (row_wrong l.fn.reruns) (take l.number (rows l.fn.reruns l.board));
  few : l.wrong ≤ l.number;
  faults : g.O.Sink.faults l.out ≡ g.O.Sink.faults l.fn.out;
  so_far : g.O.Sink.tells → g.O.Sink.taken l.out ≡ g.O.Sink.taken l.fn.out ++ flat_map (row_text l.fn.reruns) (take l.number (rows l.fn.reruns l.board));
}
