-- Lines in a table, and the totals of lines.
use Rattle.std.specs.Prelude.{ℕ, Bool, if◌then◌else◌, List, slice_index_or, nat_lt}
use Rattle.fs_model.specs.Outcome.{TotalsData, no_totals}

-- the totals of a line
abbrev pub totals_at : List TotalsData → ℕ → TotalsData
totals_at totals k = slice_index_or totals k no_totals

-- the lines of the cells, or else of the cycles, and the line of all that is not in the list
pub record LineTableData : Type 0 where
  pub lines : List ℕ
  pub last : ℕ
  pub by_cell : Bool

-- this line, or the last if it is not one of them
abbrev pub bounded : ℕ → ℕ → ℕ
bounded line last = if nat_lt line last then line else last

unfoldable pub line_in : LineTableData → ℕ → ℕ → ℕ
line_in t cycle cell = bounded (slice_index_or t.lines (if t.by_cell then cell else cycle) t.last) t.last
