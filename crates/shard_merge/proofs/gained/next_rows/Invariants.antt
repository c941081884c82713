use Rattle.std.proofs.Common.{All, ◌≡◌, ◌<◌, take, drop}
use Rattle.std.specs.Prelude.{vec_capacity, vec_len}
use Rattle.def_use.specs.Rows.{rows_of}
use Rattle.shard_merge.specs.Gained.{gained_behind, outcome_on}
use Rattle.shard_merge.proofs.gained.next_rows.Given as goal

abbrev pub invariant-loop-i : goal.invariant-loop-i
invariant-loop-i l = record {
  rows : l.rows.items ≡ rows_of (outcome_on l.list.list l.other) l.list.list (take l._i (gained_behind l.fn.from l.board l.other));
  behind : gained_behind l.next l.board l.other ≡ drop l._i (gained_behind l.fn.from l.board l.other);
  below : All (λ number. number < l.next) (take l._i (gained_behind l.fn.from l.board l.other));
  walk : l.walk ≡ l.list;
  long : vec_len l.rows ≡ l._i;
  room : vec_capacity l.rows ≡ vec_capacity l.fn.rows;
}
