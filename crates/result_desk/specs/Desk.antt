-- A desk: the rows of a page's jobs.
use Rattle.std.specs.Prelude.{◌≡◌, ℕ, ◌^◌, ◌<◌, ◌≤◌, List, length, Option, Some, None, slice_get}
use Rattle.fs_model.specs.declared.sites.Site.{Site}
use Rattle.fs_model.specs.declared.outcomes.Outcome.{Outcome}
use Rattle.fs_model.specs.declared.outcomes.Row.{Row}
use Rattle.fs_model.specs.Case.{CaseData}
use Rattle.fs_model.specs.Outcome.{outcome}
use Rattle.fs_model.specs.Verdict.{site_of_row}
use Rattle.result_desk.specs.Page.{place_of}

-- its case, the most jobs of a page, the names of the page's jobs, the outcome of each that has a row, and how often it was filed at
pub record DeskData : Type 0 where
  pub case : CaseData
  pub page : ℕ
  pub sites : List Site
  pub rows : List (Option Outcome)
  pub number : ℕ

-- the job at this place has this name and this row
abbrev pub HoldsRow : List Site → List (Option Outcome) → ℕ → Site → Outcome → Type 0
HoldsRow sites rows place site o = (slice_get sites place ≡ Some site) × (slice_get rows place ≡ Some (Some o))

-- what holds of each desk
pub record IsDesk (d : DeskData) : Type 0 where
  pub whole : length d.rows ≡ length d.sites
  pub few : length d.sites ≤ d.page
  pub small : d.page < 2 ^ 32
  -- a row is the outcome of its site in the desk's case
  pub right : (place : ℕ) (site : Site) (o : Outcome) → HoldsRow d.sites d.rows place site o → o ≡ outcome d.case site
  -- a row is at the first place of its name, so no two rows have one name
  pub first : (place : ℕ) (site : Site) (o : Outcome) → HoldsRow d.sites d.rows place site o → place_of d.sites site ≡ Some place

-- the row of the job at a place, and none exactly where there is no such job or it has no row
abbrev pub IsRowAt : DeskData → ℕ → Option Row → Type 0
IsRowAt d place (Some row) = HoldsRow d.sites d.rows place (site_of_row row) row.outcome
IsRowAt d place None = (site : Site) (o : Outcome) → HoldsRow d.sites d.rows place site o → ⊥
