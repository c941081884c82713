use Rattle.std.proofs.Common.{ℕ, ◌-◌, ◌<◌, ◌≤◌}
use Rattle.std.specs.Prelude.{slice_index}
use Rattle.access_log.proofs.logs.first_from.Given as goal

abbrev pub invariant-loop-first : goal.invariant-loop-first
invariant-loop-first l = record {
  low : l.low ≤ l.first;
  apart : l.first ≤ l.end;
  high : l.end ≤ l.high;
  below : (i : ℕ) → l.low ≤ i → i < l.first → slice_index l.cycles i < l.from;
  above : (i : ℕ) → l.end ≤ i → i < l.high → l.from ≤ slice_index l.cycles i;
}

abbrev pub decreases-loop-first : goal.decreases-loop-first
decreases-loop-first l = l.end - l.first
