use Rattle.std.proofs.Common.{ℕ, ◌≡◌, ◌<◌, ◌≤◌, length, slice_index_or}
use Rattle.counting_loops.specs.declared.words.Held.{Held}
use Rattle.counting_loops.specs.Words.{IsForgotten}
use Rattle.counting_loops.proofs.words.forget.Given as goal

abbrev pub invariant-loop-j : goal.invariant-loop-j
invariant-loop-j l = record {
  long : length l.held ≡ 64;
  done : (k : ℕ) (d : Held) → k < l.j → IsForgotten l.base l.count l.range (slice_index_or l.initial.held k d) (slice_index_or l.held k d);
  rest : (k : ℕ) (d : Held) → l.j ≤ k → slice_index_or l.held k d ≡ slice_index_or l.initial.held k d;
}
