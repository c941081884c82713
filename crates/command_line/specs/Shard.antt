-- Shards of a campaign as they stand on the command line.
use Rattle.std.specs.Prelude.{ℕ, ◌==◌, Bool, List, length, Option, Some, None, if◌then◌else◌, nat_lt, option_and_then}
use Rattle.std.specs.List.{before_first, after_first, position_or_len}
use Rattle.command_line.specs.Number.{decimal, within}
use Rattle.command_line.specs.Ranges.{max_shards}

abbrev pub is_slash : ℕ → Bool
is_slash byte = byte == 47

-- i/n, two decimal numbers cut at the first slash, with i from 1 to n; a number has no slash, so there is no other
abbrev pub shard_of : List ℕ → Option (ℕ × ℕ)
shard_of text =
    if nat_lt (position_or_len is_slash text) (length text) then
    option_and_then (λ n. option_and_then (λ i. Some (i, n))
    (within 1 n (decimal (before_first is_slash text))))
    (within 1 max_shards (decimal (after_first is_slash text)))
    else None
