-- What `symbols` says of a case, and of the functions and objects of its image.
use Rattle.std.specs.Prelude.{◌≡◌, ℕ, true, false, List, ◌++◌, sum_by, Option, Ok}
use Rattle.fs_model.specs.declared.outcomes.Outcome.{Outcome}
use Rattle.fs_model.specs.Case.{CaseData}
use Rattle.fs_model.specs.Outcome.{outcome}
use Rattle.elf_symbols.specs.declared.tables.Symbol.{Symbol}
use Rattle.report.specs.SymbolLaws.{board_count, lines_written}
use Rattle.report.specs.Symbols.{board_outcomes, function_counts, functions_text, object_counts, objects_text, symbols_text}
use Rattle.command_line.specs.declared.commands.Format.TheVariants as format
use Rattle.phases.specs.Reports.{board_report, report_of}
use Rattle.kept_commands.specs.Keep.{opening}

-- a line for each function and each object, with the outcomes of its sites by a board, and then the report of the board
abbrev pub board_symbols : CaseData → List Symbol → List (Option Outcome) → List ℕ
board_symbols c symbols board = symbols_text c board symbols ++ board_report format.Text c board

-- the same, where each site has the outcome of its own run from the first instruction
abbrev pub symbols_text_of : CaseData → List Symbol → List ℕ
symbols_text_of c symbols = (functions_text c (outcome c) symbols ++ objects_text c (outcome c) symbols) ++ report_of format.Text c

-- of a board it is said, and the lines of the functions, and those of the objects, add up to the counts of the board: each site is on one
pub record BoardSays (c : CaseData) (symbols : List Symbol) (board : List (Option Outcome)) (text : List ℕ) : Type 0 where
  pub text_is : text ≡ board_symbols c symbols board
  pub functions : (o : Outcome) → sum_by (λ k. function_counts c (board_outcomes c board) symbols k o) (lines_written true symbols) ≡ board_count c board o
  pub objects : (o : Outcome) → sum_by (λ k. object_counts c (board_outcomes c board) symbols k o) (lines_written false symbols) ≡ board_count c board o

-- `symbols` says that of the board that the file gives
abbrev pub SymbolsSays : List Symbol → List ℕ → CaseData → List ℕ → Type 0
SymbolsSays symbols file c text =
    (board : List (Option Outcome)) × (opening false file c ≡ Ok board) × BoardSays c symbols board text
