-- The parts of lines of functions and objects, as they are written one after the other.
use Rattle.std.specs.Prelude.{ℕ, ◌≡◌, ◌+◌, ◌<◌, Bool, true, false, if◌then◌else◌, Option, List, [], ◌∷◌, ◌++◌, length, codes, decimal}
use Rattle.std.specs.List.{flat_map, range_with_len}
use Rattle.fs_model.specs.declared.outcomes.Outcome.{Outcome}
use Rattle.fs_model.specs.Outcome.{TotalsData, total_at}
use Rattle.elf_symbols.specs.declared.tables.Symbol.{Symbol}
use Rattle.site_counts.specs.Lines.{totals_at}
use Rattle.fs_model.specs.Case.{CaseData}
use Rattle.report.specs.Symbols.{board_outcomes, counts_line, function_counts, group_text, is_one, object_counts, symbol_at}

-- a space and a number
abbrev pub number_text : ℕ → List ℕ
number_text n = 32 ∷ decimal n

abbrev pub numbers_text : List Outcome → (Outcome → ℕ) → List ℕ
numbers_text outcomes counts = flat_map (λ (o : Outcome). number_text (counts o)) outcomes

-- the numbers of a list of totals
abbrev pub counts_in : List TotalsData → ℕ → Outcome → ℕ
counts_in totals k o = total_at (totals_at totals k) o

-- the line of a symbol, if it is a function, or else an object
abbrev pub one_text : Bool → List ℕ → List Symbol → (ℕ → Outcome → ℕ) → ℕ → List ℕ
one_text function word symbols counts k = if is_one function symbols k then counts_line word (symbol_at symbols k).name (counts k) else []

-- those of the first n symbols
abbrev pub those_text : Bool → List ℕ → List Symbol → (ℕ → Outcome → ℕ) → ℕ → List ℕ
those_text function word symbols counts n = flat_map (one_text function word symbols counts) (range_with_len 0 n)

-- ---- both groups

abbrev pub both_text : List Symbol → List TotalsData → List TotalsData → List ℕ
both_text symbols functions objects =
    group_text true (codes "function") (codes "(dead)") symbols (counts_in functions)
    ++ group_text false (codes "object") (codes "(registers)") symbols (counts_in objects)

-- the totals of all lines are the counts of their sites
pub record AreCounts (symbols : List Symbol) (counts : ℕ → Outcome → ℕ) (totals : List TotalsData) : Type 0 where
  pub as_many : length totals ≡ length symbols + 2
  pub each : (k : ℕ) → k < length symbols + 2 → (o : Outcome) → counts_in totals k o ≡ counts k o

pub record AreTotals (c : CaseData) (board : List (Option Outcome)) (symbols : List Symbol) (by_function by_object : List TotalsData) : Type 0 where
  pub functions : AreCounts symbols (function_counts c (board_outcomes c board) symbols) by_function
  pub objects : AreCounts symbols (object_counts c (board_outcomes c board) symbols) by_object
