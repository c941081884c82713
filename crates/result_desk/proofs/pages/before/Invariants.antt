use Rattle.std.proofs.Common.{◌≡◌, ℕ, ◌-◌, ◌<◌, ◌≤◌, true, false, length, Some}
use Rattle.std.specs.Prelude.{slice_get}
use Rattle.result_desk.specs.declared.pages.Named.{Named}
use Rattle.result_desk.specs.Index.{is_below}
use Rattle.result_desk.proofs.pages.before.Given as goal

abbrev pub invariant-loop-low : goal.invariant-loop-low
invariant-loop-low l = record {
  apart : l.low ≤ l.high;
  inside : l.high ≤ length l.index;
  below : (i : ℕ) (e : Named) → i < l.low → slice_get l.index i ≡ Some e → is_below e l.probe ≡ true;
  above : (i : ℕ) (e : Named) → l.high ≤ i → slice_get l.index i ≡ Some e → is_below e l.probe ≡ false;
}

abbrev pub decreases-loop-low : goal.decreases-loop-low
decreases-loop-low l = l.high - l.low
