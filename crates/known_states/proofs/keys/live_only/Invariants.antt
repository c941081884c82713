use Rattle.std.proofs.Common.{◌≡◌, ℕ, ◌<◌, get_or, length}
use Rattle.known_states.specs.Live.{live_only}
use Rattle.known_states.proofs.keys.live_only.Given as goal

abbrev pub invariant-loop-k : goal.invariant-loop-k
invariant-loop-k l = record {
  size : length l.kept ≡ 32;
  below : (i : ℕ) → i < l.k → get_or l.kept i 0 ≡ live_only l.mask l.registers i;
}
