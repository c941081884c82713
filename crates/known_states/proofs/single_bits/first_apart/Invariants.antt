use Rattle.std.proofs.Common.{◌≡◌, ℕ, ◌<◌, ◌≤◌}
use Rattle.known_states.specs.Live.{live_only}
use Rattle.known_states.proofs.single_bits.first_apart.Given as goal

abbrev pub invariant-loop-k : goal.invariant-loop-k
invariant-loop-k l = (i : ℕ) → l.from ≤ i → i < l.k → live_only l.mask l.some i ≡ live_only l.mask l.others i
