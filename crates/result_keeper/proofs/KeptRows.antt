-- Rows of a file, of which the old ones have no outcome.
use Rattle.std.proofs.Common.{◌≡◌, ℕ, ◌+◌, Bool, true, false, if◌then◌else◌, List, [], ◌∷◌, ◌++◌, map, length, Option, Some, None, refl, sym, ◌∙◌, ap}
use Rattle.std.proofs.lemmas.List.{map-append}
use Rattle.fs_model.specs.declared.sites.Job.{Job}
use Rattle.fs_model.specs.declared.outcomes.Outcome.{Outcome}
use Rattle.fs_model.specs.declared.outcomes.Row.{Row}
use Rattle.keep_format.specs.declared.rows.KeptRow.{KeptRow}
use Rattle.keep_format.specs.KeepFile.{FileRow, placed, file_row_of, written}
use Rattle.def_use.specs.Firsts.{IsNumberOf}
use Rattle.result_keeper.specs.Acceptance.{board_of, names_job, outcome_rows, row_if, site_named, stranger}
use Rattle.result_keeper.specs.Boards.{filed}
use Rattle.result_keeper.proofs.Filing.{board_of-append, filed-append, filed_none, filed_nothing}

-- ---- those that have an outcome

in_front : (row : FileRow) (outcome : Option Outcome) (a b : List Row) → row_if row outcome (a ++ b) ≡ row_if row outcome a ++ b
in_front row None a b = refl
in_front row (Some outcome) a b = refl

pub outcome_rows-append : (a b : List FileRow) → outcome_rows (a ++ b) ≡ outcome_rows a ++ outcome_rows b
outcome_rows-append [] b = refl
outcome_rows-append (row ∷ a) b = ap (row_if row row.outcome) (outcome_rows-append a b) ∙ in_front row row.outcome (outcome_rows a) (outcome_rows b)

-- all that are written
pub outcome_rows-written : (rows : List Row) → outcome_rows (map written rows) ≡ rows
outcome_rows-written [] = refl
outcome_rows-written (row ∷ rows) = ap (λ (l : List Row). row ∷ l) (outcome_rows-written rows)

pub rows_and_written : (a : List FileRow) (new : List Row) → outcome_rows (a ++ map written new) ≡ outcome_rows a ++ new
rows_and_written a new = outcome_rows-append a (map written new) ∙ ap (λ (l : List Row). outcome_rows a ++ l) (outcome_rows-written new)

pub rows_back : (at : ℕ) (rows : List Row) → map file_row_of (placed at rows) ≡ map written rows
rows_back at [] = refl
rows_back at (row ∷ rows) = ap (λ (l : List FileRow). written row ∷ l) (rows_back (at + 10) rows)

pub rows_and_placed : (rows : List KeptRow) (at : ℕ) (new : List Row) → map file_row_of (rows ++ placed at new) ≡ map file_row_of rows ++ map written new
rows_and_placed rows at new = map-append file_row_of rows (placed at new) ∙ ap (λ (l : List FileRow). map file_row_of rows ++ l) (rows_back at new)

-- the board of rows, and of rows that are written behind them
pub board_and_written : (list : List Job) (rows : List FileRow) (new : List Row) → board_of list (outcome_rows (rows ++ map written new)) ≡ filed list (board_of list (outcome_rows rows)) new
board_and_written list rows new = ap (board_of list) (rows_and_written rows new) ∙ board_of-append list (outcome_rows rows) new

-- ---- a row that is put on a board

-- one of no job, whatever its outcome
pub no_job : (list : List Job) (board : List (Option Outcome)) (row : FileRow) (outcome : Option Outcome) → length board ≡ length list
    → IsNumberOf list (site_named row) None → board ≡ filed list board (row_if row outcome [])
no_job list board row None long none = sym (filed_nothing list board long)
no_job list board row (Some outcome) long none = filed_none list board (record { cycle = row.cycle; cell = row.cell; bit = row.bit; outcome = outcome }) long none

-- a row more
pub kept_more_filed : (list : List Job) (start now new : List (Option Outcome)) (before : List KeptRow) (row : KeptRow) → now ≡ filed list start (outcome_rows (map file_row_of before))
    → new ≡ filed list now (outcome_rows (file_row_of row ∷ [])) → new ≡ filed list start (outcome_rows (map file_row_of (before ++ row ∷ [])))
kept_more_filed list start now new before row so_far more =
    more
    ∙ ap (λ (b : List (Option Outcome)). filed list b (outcome_rows (file_row_of row ∷ []))) so_far
    ∙ filed-append list start (outcome_rows (map file_row_of before)) (outcome_rows (file_row_of row ∷ []))
    ∙ ap (filed list start) (sym (ap outcome_rows (map-append file_row_of before (row ∷ [])) ∙ outcome_rows-append (map file_row_of before) (file_row_of row ∷ [])))

-- ---- rows that name no job

pub stranger_behind : (list : List Job) (rows rest : List KeptRow) (row : KeptRow) (whole : Option ℕ) → rows ≡ row ∷ rest → names_job list (site_named (file_row_of row)) ≡ true
    → stranger list rows ≡ whole → stranger list rest ≡ whole
stranger_behind list rows rest row whole is named so_far =
    sym (ap (stranger list) is ∙ ap (λ (t : Bool). if t then stranger list rest else Some row.at) named) ∙ so_far

pub stranger_found : (list : List Job) (rows rest : List KeptRow) (row : KeptRow) (whole : Option ℕ) → rows ≡ row ∷ rest → names_job list (site_named (file_row_of row)) ≡ false
    → stranger list rows ≡ whole → Some row.at ≡ whole
stranger_found list rows rest row whole is named so_far =
    sym (ap (stranger list) is ∙ ap (λ (t : Bool). if t then stranger list rest else Some row.at) named) ∙ so_far
