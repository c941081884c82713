use Rattle.std.proofs.Common.{◌≡◌, ◌+◌, ◌-◌, ◌≤◌, length}
use Rattle.campaign.specs.Portions.{due, due_behind, in_portion}
use Rattle.campaign.proofs.pages.count_each.Given as goal

abbrev pub invariant-counting : goal.invariant-counting
invariant-counting l = record {
  all : l.count + length (due_behind (in_portion l.portion l.list.list) l.from l.board) ≡ length (due (in_portion l.portion l.list.list) l.board);
  walk : l.walk ≡ l.list;
  few : l.count ≤ l.from;
}

abbrev pub decreases-counting : goal.decreases-counting
decreases-counting l = length l.board - l.from
