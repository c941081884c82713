-- The registers that a key has.
use Rattle.std.specs.Prelude.{ℕ, ◌==◌, if◌then◌else◌, List, slice_index}
use Rattle.std.specs.Int.{bit_at}

-- register k, where bit k of the mask is 1, and else 0
abbrev pub live_only : ℕ → List ℕ → ℕ → ℕ
live_only mask regs k = if bit_at mask k == 1 then slice_index regs k else 0
