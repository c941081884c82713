-- What is proved of the counts of functions and of objects.
use Rattle.std.specs.Prelude.{ℕ, ◌≡◌, ◌+◌, Bool, true, false, if◌then◌else◌, Option, List, [], ◌∷◌, ◌++◌, length, sum_by}
use Rattle.fs_model.specs.declared.outcomes.Outcome.{Outcome}
use Rattle.fs_model.specs.declared.outcomes.Outcome.TheVariants.{NoEffect}
use Rattle.fs_model.specs.AccessLog.{dead, log}
use Rattle.fs_model.specs.Case.{CaseData}
use Rattle.fs_model.specs.Filling.{board_total}
use Rattle.fs_model.specs.Job.{jobs_in, HasOutcomes}
use Rattle.fs_model.specs.Outcome.{count, outcome, same_outcome}
use Rattle.def_use.specs.Board.{HasOutcomeBelow}
use Rattle.elf_symbols.specs.declared.tables.Symbol.{Symbol}
use Rattle.report.specs.Symbols.{board_outcomes, function_counts, last_line, none_line, object_counts, those}

-- a board that has an outcome for each job
pub record IsWhole (c : CaseData) (board : List (Option Outcome)) : Type 0 where
  pub same : length board ≡ length (jobs_in c)
  pub whole : HasOutcomeBelow board (length board)

-- the numbers of the lines that are written
abbrev pub lines_written : Bool → List Symbol → List ℕ
lines_written function symbols = those function symbols ++ none_line symbols ∷ last_line symbols ∷ []

-- the weights on a board by their outcomes, with the dead sites beside those without effect
abbrev pub board_count : CaseData → List (Option Outcome) → Outcome → ℕ
board_count c board o = board_total (jobs_in c) board o + (if same_outcome NoEffect o then dead (log c) else 0)

-- ---- of a whole board, right or not: the lines that are written have each site once

abbrev pub FunctionsAddUp : Type 0
FunctionsAddUp = (c : CaseData) (board : List (Option Outcome)) (symbols : List Symbol) (o : Outcome) → IsWhole c board →
    sum_by (λ k. function_counts c (board_outcomes c board) symbols k o) (lines_written true symbols) ≡ board_count c board o

abbrev pub ObjectsAddUp : Type 0
ObjectsAddUp = (c : CaseData) (board : List (Option Outcome)) (symbols : List Symbol) (o : Outcome) → IsWhole c board →
    sum_by (λ k. object_counts c (board_outcomes c board) symbols k o) (lines_written false symbols) ≡ board_count c board o

-- ---- of a whole board whose outcomes are right: each line counts its sites by their own runs

abbrev pub FunctionsAreRight : Type 0
FunctionsAreRight = (c : CaseData) (board : List (Option Outcome)) (symbols : List Symbol) (k : ℕ) (o : Outcome) → IsWhole c board
    → HasOutcomes (outcome c) (jobs_in c) board →
    function_counts c (board_outcomes c board) symbols k o ≡ function_counts c (outcome c) symbols k o

abbrev pub ObjectsAreRight : Type 0
ObjectsAreRight = (c : CaseData) (board : List (Option Outcome)) (symbols : List Symbol) (k : ℕ) (o : Outcome) → IsWhole c board
    → HasOutcomes (outcome c) (jobs_in c) board →
    object_counts c (board_outcomes c board) symbols k o ≡ object_counts c (outcome c) symbols k o

-- and so they add up to the counts of all sites

abbrev pub AllFunctions : Type 0
AllFunctions = (c : CaseData) (symbols : List Symbol) (o : Outcome) →
    sum_by (λ k. function_counts c (outcome c) symbols k o) (lines_written true symbols) ≡ count c o

abbrev pub AllObjects : Type 0
AllObjects = (c : CaseData) (symbols : List Symbol) (o : Outcome) →
    sum_by (λ k. object_counts c (outcome c) symbols k o) (lines_written false symbols) ≡ count c o
