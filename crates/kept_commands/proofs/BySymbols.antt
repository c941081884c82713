-- What `symbols` says of a board that is whole, and of one whose outcomes are right.
use Rattle.std.proofs.Common.{◌≡◌, ℕ, zero, suc, ◌+◌, true, false, List, [], ◌∷◌, ◌++◌, length, codes, Option, Some, None, refl, ap, sym, subst, ◌∙◌, arith}
use Rattle.std.proofs.Math.Path.{fun_ext}
use Rattle.fs_model.specs.declared.outcomes.Outcome.{Outcome}
use Rattle.fs_model.specs.declared.sites.Job.{Job}
use Rattle.fs_model.specs.AccessLog.{log}
use Rattle.fs_model.specs.Case.{CaseData}
use Rattle.fs_model.specs.Job.{JobTable, jobs_of}
use Rattle.fs_model.specs.Outcome.{TotalsData, outcome, total_at}
use Rattle.fs_model.specs.Site.{sites_of}
use Rattle.golden_trace.specs.Goldens.{GoldenData, IsGolden}
use Rattle.fs_model.proofs.Tables.{list_of}
use Rattle.def_use.specs.Board.{HasOutcomeBelow}
use Rattle.elf_symbols.specs.declared.tables.Symbol.{Symbol}
use Rattle.report.specs.SymbolLaws.{IsWhole}
use Rattle.report.specs.Text.{text}
use Rattle.report.specs.Symbols.{ArePcs, board_outcomes, function_counts, functions_text, group_text, object_counts, objects_text, symbols_text}
use Rattle.report.proofs.SymbolLaws.{functions_are_right, objects_are_right}
use Rattle.fs_model.specs.Pages.{missing, missing_from}
use Rattle.command_line.specs.declared.commands.Format.TheVariants as format
use Rattle.phases.specs.Reports.{board_report, board_totals}
use Rattle.phases.proofs.Reported.{board_is, cycles_is}
use Rattle.kept_commands.specs.Keep.{Finishes, GivesRight}
use Rattle.kept_commands.specs.Run.{no_job}
use Rattle.kept_commands.specs.Symbols.{SymbolsSays, board_symbols, symbols_text_of}
use Rattle.kept_commands.proofs.Trusted.{board_right, none_missing, open_long, report_counts, same_board}

-- a board that has each of a case's jobs
pub whole_board : (c : CaseData) (table : JobTable) (board : List (Option Outcome)) → table ≡ jobs_of (log c) → length board ≡ length table.list → HasOutcomeBelow board (length board) → IsWhole c board
whole_board c table board is long whole = record { same = long ∙ ap (λ (l : List Job). length l) (list_of c table is); whole = whole }

-- the addresses of a golden run
pub golden_pcs : (c d : CaseData) (g h : GoldenData) (pcs : List ℕ) → d ≡ c → h ≡ g → pcs ≡ h.pcs → IsGolden c g → ArePcs d pcs
golden_pcs c d g h pcs case_is run_is pcs_are golden =
    subst (λ (x : CaseData). ArePcs x pcs) (sym case_is) (subst (ArePcs c) (sym (pcs_are ∙ ap (λ (r : GoldenData). r.pcs) run_is)) (record {
      as_many = golden.as_many ∙ sym (cycles_is c g golden);
      fetched = λ t lt. golden.fetched t (let same = golden.as_many in omega (arith, lt, same));
    }))

-- what is written of a board
pub board_written : (c d : CaseData) (g : GoldenData) (symbols : List Symbol) (board : List (Option Outcome)) (n sites : ℕ) (t : TotalsData) → d ≡ c → IsGolden c g → n ≡ length g.touches
    → sites ≡ length (sites_of c) → ((o : Outcome) → total_at t o ≡ board_totals c board o) → symbols_text d board symbols ++ text n sites (total_at t) ≡ board_symbols c symbols board
board_written c d g symbols board n sites t case_is golden many sites_are totals =
    ap (λ (x : CaseData). symbols_text x board symbols ++ text n sites (total_at t)) case_is
    ∙ ap (λ (k : ℕ). symbols_text c board symbols ++ text k sites (total_at t)) many
    ∙ ap (λ (report : List ℕ). symbols_text c board symbols ++ report) (board_is format.Text c g sites t board golden sites_are totals)

-- where none is missing each has an outcome
none_blank_below : (at : ℕ) (board : List (Option Outcome)) → missing_from at board ≡ [] → HasOutcomeBelow board (length board)
none_blank_below at [] none i lt = absurd (omega arith)
none_blank_below at (None ∷ board) none i lt = absurd (cc)
none_blank_below at (Some o ∷ board) none zero lt = (o, refl)
none_blank_below at (Some o ∷ board) none (suc i) lt = none_blank_below (at + 1) board none i (omega arith)

-- where the file gives right outcomes, it says the counts by the own runs of the sites
pub symbols_text_is : (c : CaseData) (symbols : List Symbol) (file text : List ℕ) → SymbolsSays symbols file c text → GivesRight file c → Finishes false no_job file c → text ≡ symbols_text_of c symbols
symbols_text_is c symbols file text (board, opened, said) trust end =
    let right = board_right c false file board opened (λ _. trust) in
    let long = open_long c false file board opened in
    let same : end.board ≡ board = same_board board end.board (sym opened ∙ end.opened) in
    let none : missing board ≡ [] = ap missing (sym same) ∙ none_missing c end.board end.within in
    let whole : IsWhole c board = record { same = long; whole = none_blank_below 0 board none } in
    said.text_is
    ∙ ap (λ (counts : ℕ → Outcome → ℕ). (functions_by counts ++ objects_by (object_counts c (board_outcomes c board) symbols)) ++ board_report format.Text c board)
    (fun_ext (λ k. fun_ext (λ o. functions_are_right c board symbols k o whole right)))
    ∙ ap (λ (counts : ℕ → Outcome → ℕ). (functions_by (function_counts c (outcome c) symbols) ++ objects_by counts) ++ board_report format.Text c board)
    (fun_ext (λ k. fun_ext (λ o. objects_are_right c board symbols k o whole right)))
    ∙ ap (λ (report : List ℕ). (functions_text c (outcome c) symbols ++ objects_text c (outcome c) symbols) ++ report) (report_counts c format.Text board long right none)
  where
    functions_by : (ℕ → Outcome → ℕ) → List ℕ
    functions_by = group_text true (codes "function") (codes "(dead)") symbols

    objects_by : (ℕ → Outcome → ℕ) → List ℕ
    objects_by = group_text false (codes "object") (codes "(registers)") symbols
