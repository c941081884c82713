use Rattle.std.proofs.Common.{◌≡◌, take}
use Rattle.def_use.specs.Lives.{live_in}
use Rattle.def_use.proofs.Lives.{AreSoFar}
use Rattle.def_use.proofs.live_sites.lives_of.Given as goal

abbrev pub invariant-loop-i : goal.invariant-loop-i
invariant-loop-i l = record {
  live : l.live ≡ live_in (take l.i l.reads);
  blocks : AreSoFar l.reads l.lives.items l.i;
}
