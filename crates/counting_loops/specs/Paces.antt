-- How a register moves from round to round of a loop.
use Rattle.std.specs.Prelude.{ℕ, ◌≡◌, ◌+◌, ◌*◌, ◌%◌, ◌^◌, ◌≤◌}
use Rattle.counting_loops.specs.declared.paces.Pace.{Pace}
use Rattle.counting_loops.specs.declared.paces.Pace.TheVariants.{By, Unknown}
use Rattle.counting_loops.specs.declared.paces.Range.{Range}

-- what a register holds in round i, where it holds `first` in the first one
abbrev pub MovedBy : Pace → ℕ → ℕ → ℕ → Type 0
MovedBy (By step) i first now = now ≡ (first + i * step) % 2 ^ 32
MovedBy Unknown i first now = Unit {0}

pub record IsBetween (r : Range) (x : ℕ) : Type 0 where
  pub least : r.least ≤ x
  pub most : x ≤ r.most
