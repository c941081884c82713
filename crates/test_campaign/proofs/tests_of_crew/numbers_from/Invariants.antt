use Rattle.std.proofs.Common.{◌≡◌, ◌+◌, ◌<◌, ◌≤◌, ℕ, vec_len}
use Rattle.std.specs.Prelude.{All}
use Rattle.job_queue.specs.Pages.{times_among, AreDistinct}
use Rattle.test_campaign.proofs.tests_of_crew.numbers_from.Given as goal

abbrev pub invariant-loop-number : goal.invariant-loop-number
invariant-loop-number l = record {
  apart : AreDistinct l.numbers.items;
  below : All (λ n. n < l.number) l.numbers.items;
  ahead : (n : ℕ) → l.number ≤ n → times_among n l.numbers.items ≡ 0;
  count : vec_len l.numbers + l.first ≡ l.number;
}
