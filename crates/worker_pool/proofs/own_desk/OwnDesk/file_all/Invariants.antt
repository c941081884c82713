use Rattle.std.proofs.Common.{◌≡◌, ◌++◌, take}
use Rattle.worker_pool.proofs.own_desk.OwnDesk.file_all.Given as goal

abbrev pub invariant-loop-row : goal.invariant-loop-row
invariant-loop-row g l = record {
  offered : l.tally.offered ≡ l.fn.tally.offered ++ take l.row-index l.rows;
  case : l.tally.case ≡ l.fn.tally.case;
  page : l.tally.page ≡ l.fn.tally.page;
  parts : l.tally.parts ≡ l.fn.tally.parts;
}
