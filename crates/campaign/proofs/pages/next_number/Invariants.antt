use Rattle.std.proofs.Common.{◌≡◌, ◌-◌, ◌≤◌, length}
use Rattle.campaign.specs.Portions.{due_behind, in_portion}
use Rattle.campaign.proofs.pages.next_number.Given as goal

abbrev pub invariant-search : goal.invariant-search
invariant-search l = record {
  low : l.fn.from ≤ l.at;
  walk : l.walk ≡ l.fn.walk;
  same : due_behind (in_portion l.portion l.fn.walk.list) l.at l.board ≡ due_behind (in_portion l.portion l.fn.walk.list) l.fn.from l.board;
}

abbrev pub decreases-search : goal.decreases-search
decreases-search l = length l.board - l.at
