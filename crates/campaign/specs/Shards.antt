-- The jobs of a shard: shard i of n has those whose number modulo n is i - 1.
use Rattle.std.specs.Prelude.{ℕ, ◌-◌, ◌%◌, ◌==◌, ◌≤◌, Bool, true, Option, Some, None}
use Rattle.std.specs.Option.{ForSome}

-- into how many shards the jobs may be split
abbrev pub max_shards : ℕ
max_shards = 65535

-- a shard, where one is given, is the i-th of n
abbrev pub IsShard : Option (ℕ × ℕ) → Type 0
IsShard shard = ForSome shard (λ (s : ℕ × ℕ). (1 ≤ s.0) × (s.0 ≤ s.1))

-- the job of this number is one of the shard; without a shard each is
unfoldable pub in_shard : Option (ℕ × ℕ) → ℕ → Bool
in_shard None number = true
in_shard (Some shard) number = number % shard.1 == shard.0 - 1
