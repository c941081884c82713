-- Runs of rows whose names ascend.
use Rattle.std.specs.Prelude.{◌≡◌, ℕ, zero, suc, Bool, true, false, if◌then◌else◌, List, [], ◌∷◌, ◌++◌, Option, Some, None}
use Rattle.keep_format.specs.declared.rows.KeptRow.{KeptRow}
use Rattle.keep_format.specs.declared.order.Name.{Name}
use Rattle.keep_format.specs.Order.{is_before, is_behind}

abbrev pub name_in : KeptRow → Name
name_in row = record { cycle = row.cycle; cell = row.cell; bit = row.bit }

-- the first rows whose names ascend, after a last name
abbrev pub run_of : Option Name → List KeptRow → List KeptRow
run_of last [] = []
run_of last (row ∷ rows) = if is_behind last (name_in row) then row ∷ run_of (Some (name_in row)) rows else []

-- what follows these
abbrev pub run_rest : Option Name → List KeptRow → List KeptRow
run_rest last [] = []
run_rest last (row ∷ rows) = if is_behind last (name_in row) then run_rest (Some (name_in row)) rows else row ∷ rows

-- what follows `count` runs, each as long as its names ascend
abbrev pub behind_runs : ℕ → List KeptRow → List KeptRow
behind_runs zero rows = rows
behind_runs (suc count) rows = run_rest None (behind_runs count rows)

-- this many runs are searched without memory
abbrev pub most_runs : ℕ
most_runs = 64

-- at most `most_runs` runs, one after the other, are all the rows
abbrev pub AreFewRuns : List KeptRow → Type 0
AreFewRuns rows = behind_runs most_runs rows ≡ []

-- the rows of runs, one run after the other
abbrev pub joined : List (List KeptRow) → List KeptRow
joined [] = []
joined (run ∷ runs) = run ++ joined runs

-- a first row, and those of its run
abbrev pub front_of : Option KeptRow → List KeptRow → List KeptRow
front_of None rows = []
front_of (Some row) rows = row ∷ run_of (Some (name_in row)) rows

abbrev pub AscendsFrom : Option Name → List KeptRow → Type 0
AscendsFrom last [] = Unit {0}
AscendsFrom last (row ∷ rows) = (is_behind last (name_in row) ≡ true) × AscendsFrom (Some (name_in row)) rows

-- each name is greater than the one before it
abbrev pub Ascends : List KeptRow → Type 0
Ascends rows = AscendsFrom None rows

abbrev pub first_row_of : List KeptRow → Option KeptRow
first_row_of [] = None
first_row_of (row ∷ rows) = Some row

abbrev pub tail_of : List KeptRow → List KeptRow
tail_of [] = []
tail_of (row ∷ rows) = rows

abbrev pub starts_before : List KeptRow → Name → Bool
starts_before [] name = false
starts_before (row ∷ rows) name = is_before (name_in row) name

-- a first row, if there is one, and rows after it
abbrev pub with_first : Option KeptRow → List KeptRow → List KeptRow
with_first None rows = []
with_first (Some row) rows = row ∷ rows
