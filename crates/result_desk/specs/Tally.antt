-- A tally: what one worker gave to the desk.
use Rattle.std.specs.Prelude.{ℕ, ◌+◌, List, [], ◌∷◌, ◌++◌}
use Rattle.fs_model.specs.declared.outcomes.Row.{Row}
use Rattle.fs_model.specs.Case.{CaseData}
use Rattle.result_desk.specs.declared.filings.Filing.{Filing}
use Rattle.result_desk.specs.Filing.{new_rows}

-- its case, the most rows that it holds, the rows given to the desk, how often one was filed, and how many parts of the desk's ledger it has
pub record TallyData : Type 0 where
  pub case : CaseData
  pub page : ℕ
  pub offered : List Row
  pub filed : ℕ
  pub parts : ℕ

-- a tally with nothing yet
abbrev pub new_tally : CaseData → ℕ → TallyData
new_tally case page = record { case = case; page = page; offered = []; filed = 0; parts = 1 }

-- the tally after an answer of the desk to a row
abbrev pub tally_told : TallyData → Row → Filing → TallyData
tally_told t row answer = record t { offered = t.offered ++ row ∷ []; filed = t.filed + new_rows answer }
