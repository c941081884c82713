use Rattle.std.proofs.Common.{◌≡◌, take}
use Rattle.std.specs.Prelude.{vec_capacity, vec_len}
use Rattle.fs_model.specs.Outcome.{outcome}
use Rattle.snapshot_store.specs.Along.{Rose}
use Rattle.def_use.specs.Rows.{rows_of}
use Rattle.worker_pool.specs.Steps.{steps_of_numbers}
use Rattle.campaign.proofs.jobs.run_numbers.Given as goal

abbrev pub invariant-loop-number : goal.invariant-loop-number
invariant-loop-number l = record {
  rows : l.rows.items ≡ rows_of (outcome l.of.case.now) l.of.list.now.list (take l.number-index l.numbers);
  taken : Rose l.fn.machine.taken (steps_of_numbers l.of.case.now l.snaps.spacing l.of.list.now.list (take l.number-index l.numbers)) l.machine.taken;
  case : l.machine.case ≡ l.fn.machine.case;
  long : vec_len l.rows ≡ l.number-index;
  room : vec_capacity l.rows ≡ vec_capacity l.fn.rows;
}
