-- Bytes that were taken from the front of a source.
use Rattle.std.proofs.Common.{◌≡◌, ◌+◌, ◌≤◌, ℕ, List, ◌++◌, length, take, sym, ◌∙◌, ap, append_assoc, arith, length-append}
use Rattle.std.proofs.lemmas.List.{length-take}
use Rattle.fs_outside.specs.Reading.{TakesUpTo}

-- some bytes, and then a piece that stands first in a buffer
pub taken_more : (most : ℕ) (old mid new bytes buf : List ℕ) (n : ℕ) → old ≡ bytes ++ mid → mid ≡ take n buf ++ new
    → length bytes + n ≤ most → TakesUpTo most old new
taken_more most old mid new bytes buf n first second few = record {
  bytes = bytes ++ take n buf;
  front = first ∙ ap (λ (s : List ℕ). bytes ++ s) second ∙ sym (append_assoc bytes (take n buf) new);
  few = omega (arith, length-append bytes (take n buf), length-take n buf);
}
