-- The jobs that are missing on a board, and the pages in which they are run.
use Rattle.std.specs.Prelude.{ℕ, zero, suc, ◌+◌, Option, Some, None, List, [], ◌∷◌, length, take, drop}
use Rattle.fs_model.specs.declared.outcomes.Outcome.{Outcome}

-- the numbers of the blank places, ascending, where the first place has this number
abbrev pub missing_from : ℕ → List (Option Outcome) → List ℕ
missing_from number [] = []
missing_from number (None ∷ board) = number ∷ missing_from (number + 1) board
missing_from number (Some outcome ∷ board) = missing_from (number + 1) board

abbrev pub missing : List (Option Outcome) → List ℕ
missing board = missing_from 0 board

-- how many jobs a page may have
abbrev pub max_page : ℕ
max_page = 65535

-- as many of the first as the budget allows, or all if none is given
abbrev pub within_budget : Option ℕ → List ℕ → List ℕ
within_budget None numbers = numbers
within_budget (Some budget) numbers = take budget numbers

-- at most n pages of p numbers each, in order; the last one may be shorter
abbrev pub pages_within : ℕ → ℕ → List ℕ → List (List ℕ)
pages_within zero p numbers = []
pages_within (suc most) p [] = []
pages_within (suc most) p (number ∷ numbers) = take p (number ∷ numbers) ∷ pages_within most p (drop p (number ∷ numbers))
