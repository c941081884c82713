use Rattle.std.proofs.Common.{◌≡◌, ◌+◌, ◌-◌, ◌≤◌, ◌++◌, length, take, vec_len, vec_capacity}
use Rattle.fs_model.specs.Card.{card}
use Rattle.keep_format.proofs.writing.put_card.Given as goal

abbrev pub invariant-loop-i : goal.invariant-loop-i
invariant-loop-i l = record {
  written : l.out.items ≡ l.initial.out.items ++ take l.i (card l.case);
  room : vec_len l.out + (length (card l.case) - l.i) ≤ vec_capacity l.out;
  kept : vec_capacity l.fn.out ≤ vec_capacity l.out;
}
