-- A generated program grows by one block.
use Rattle.std.proofs.Common.{◌≡◌, ℕ, ◌+◌, ◌++◌, refl, add-one}
use Rattle.phases.specs.Demo.{next_draw, state_after, one_block, block_bytes}

pub state_more : (s k : ℕ) → state_after s (k + 1) ≡ next_draw (state_after s k)
unfolding state_after
state_more s k = rw add-one refl

pub bytes_more : (s k : ℕ) → block_bytes s (k + 1) ≡ block_bytes s k ++ one_block (next_draw (state_after s k))
unfolding block_bytes state_after
bytes_more s k = rw add-one refl
