-- What a desk answers to a row, and what becomes of the desk.
use Rattle.std.specs.Prelude.{◌≡◌, ◌≢◌, ℕ, ◌+◌, ◌-◌, ◌^◌, ◌<◌, Option, Some, None, slice_get, slice_set}
use Rattle.fs_model.specs.declared.outcomes.Outcome.{Outcome}
use Rattle.fs_model.specs.declared.outcomes.Row.{Row}
use Rattle.fs_model.specs.Verdict.{VerdictData, site_of_row}
use Rattle.result_desk.specs.declared.filings.Filing.{Filing}
use Rattle.result_desk.specs.declared.filings.Filing.TheVariants.{Filed, Known, OutsidePage, Stranger, Spent}
use Rattle.result_desk.specs.Page.{place_of}
use Rattle.result_desk.specs.Desk.{DeskData}

-- it can still count, and the verdict is of its case
abbrev pub Takes : DeskData → VerdictData → Type 0
Takes d v = (d.number < 2 ^ 64 - 1) × (d.case ≡ v.case)

-- the first job of the page with the row's name, and what it has
pub record HasAt (d : DeskData) (v : VerdictData) (has : Option Outcome) : Type 0 where
  pub place : ℕ
  pub is : place_of d.sites (site_of_row v.row) ≡ Some place
  pub here : slice_get d.rows place ≡ Some has

-- each answer, with its cause
abbrev pub IsFiling : DeskData → VerdictData → Filing → Type 0
IsFiling d v Spent = d.number ≡ 2 ^ 64 - 1
IsFiling d v Stranger = (d.number < 2 ^ 64 - 1) × (d.case ≢ v.case)
IsFiling d v OutsidePage = Takes d v × (place_of d.sites (site_of_row v.row) ≡ None)
IsFiling d v Known = Takes d v × ((o : Outcome) × HasAt d v (Some o))
IsFiling d v Filed = Takes d v × HasAt d v None

-- the desk with one row more
abbrev pub desk_with_row : DeskData → Option ℕ → Outcome → DeskData
desk_with_row d (Some place) o = record d { rows = slice_set d.rows place (Some o); number = d.number + 1 }
desk_with_row d None o = d

-- the desk after an answer
abbrev pub filed_in : DeskData → Row → Filing → DeskData
filed_in d row Filed = desk_with_row d (place_of d.sites (site_of_row row)) row.outcome
filed_in d row Known = d
filed_in d row OutsidePage = d
filed_in d row Stranger = d
filed_in d row Spent = d

-- how many rows it added
abbrev pub new_rows : Filing → ℕ
new_rows Filed = 1
new_rows Known = 0
new_rows OutsidePage = 0
new_rows Stranger = 0
new_rows Spent = 0
