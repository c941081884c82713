use Rattle.std.proofs.Common.{All, ◌≡◌, ◌<◌, length, take, drop}
use Rattle.std.specs.Prelude.{vec_capacity, vec_len}
use Rattle.job_queue.specs.Pages.{AreDistinct}
use Rattle.campaign.specs.Portions.{due_behind, in_portion}
use Rattle.campaign.proofs.pages.next_numbers.Given as goal

abbrev pub invariant-loop-i : goal.invariant-loop-i
invariant-loop-i l = record {
  numbers : l.numbers.items ≡ take l._i (due_behind (in_portion l.portion l.list.list) l.fn.from l.board);
  behind : due_behind (in_portion l.portion l.list.list) l.next l.board ≡ drop l._i (due_behind (in_portion l.portion l.list.list) l.fn.from l.board);
  jobs : All (λ number. number < length l.board) l.numbers.items;
  apart : AreDistinct l.numbers.items;
  below : All (λ number. number < l.next) l.numbers.items;
  long : vec_len l.numbers ≡ l._i;
  walk : l.walk ≡ l.list;
  room : vec_capacity l.numbers ≡ vec_capacity l.fn.numbers;
}
