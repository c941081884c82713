-- Counts of steps that rise.
use Rattle.std.proofs.Common.{◌≡◌, ℕ, ◌+◌, arith}
use Rattle.snapshot_store.specs.Along.{Rose}

-- two rises, one after the other
pub rose_on : (a b c x y z : ℕ) → Rose a x b → Rose b y c → z ≡ x + y → Rose a z c
rose_on a b c x y z first second e = omega arith
