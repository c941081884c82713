use Rattle.std.proofs.Common.{◌≡◌, ◌+◌, ◌≤◌, take, length}
use Rattle.def_use.specs.Lives.{live_in}
use Rattle.def_use.proofs.live_sites.place_of_live.Given as goal

abbrev pub invariant-loop-place : goal.invariant-loop-place
invariant-loop-place l = record {
  inside : l.place ≤ length l.reads;
  before : live_in (take l.place l.reads) + l.left ≡ l.index;
}
