-- A window by the number of its cycles before each cycle.
use Rattle.std.specs.Prelude.{ℕ, ◌≡◌, ◌+◌, ◌-◌, ◌^◌, ◌<◌, ◌≤◌, Bool, List, map, length, slice_index, nat_lt}
use Rattle.std.specs.List.{range_with_len}
use Rattle.window_counts.specs.Windows.{cycles_between}

-- the window of these numbers: a cycle is in it where the next number is greater
unfoldable pub window_from : List ℕ → List Bool
window_from before = map (λ cycle. nat_lt (slice_index before cycle) (slice_index before (cycle + 1))) (range_with_len 0 (length before - 1))

-- for each cycle the number of the window's cycles before it, and last the number of all
pub record IsBefore (before : List ℕ) : Type 0 where
  pub some : 0 < length before
  pub few : length before ≤ 2 ^ 32
  pub each : (k : ℕ) → k < length before → slice_index before k ≡ cycles_between (window_from before) 0 k
