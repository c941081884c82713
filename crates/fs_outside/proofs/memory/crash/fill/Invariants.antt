use Rattle.std.proofs.Common.{◌≡◌, ◌⊎◌, ℕ, ◌+◌, ◌<◌, ◌≤◌, get_or}
use Rattle.fs_outside.proofs.memory.crash.fill.Given as goal

abbrev pub invariant-loop-i : goal.invariant-loop-i
invariant-loop-i l = record {
  outside : (k : ℕ) → (k < l.at) ⊎ (l.at + l.count ≤ k) → get_or l.bytes k 0 ≡ get_or l.fn.bytes k 0;
  inside : (k : ℕ) → l.at ≤ k → k < l.i → get_or l.bytes k 0 ≡ l.byte;
}
