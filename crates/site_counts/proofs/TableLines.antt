-- Lines in a table.
use Rattle.std.proofs.Common.{◌≡◌, ℕ, ◌+◌, ◌<◌, ◌≤◌, true, refl, ⊎_elim, arith}
use Rattle.std.proofs.lemmas.Bool.{cases_lt, lt-ltb, le-ltb}
use Rattle.site_counts.specs.Lines.{LineTableData, bounded, line_in}

bounded_low : (line last : ℕ) → bounded line last < last + 1
bounded_low line last =
    ⊎_elim (λ (h : line < last). rw (lt-ltb line last h) (omega arith)) (λ (h : last ≤ line). rw (le-ltb line last h) (omega arith)) (cases_lt line last)

pub line_low : (t : LineTableData) (cycle cell : ℕ) → line_in t cycle cell < t.last + 1
unfolding line_in
line_low t cycle cell = bounded_low _ t.last

pub line_by_cell : (t : LineTableData) → t.by_cell ≡ true → (cycle cell : ℕ) → line_in t cycle cell ≡ line_in t 0 cell
unfolding line_in
line_by_cell t is cycle cell = rw is refl
