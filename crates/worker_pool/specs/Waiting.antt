-- Rows that a worker has still to give to the desk.
use Rattle.std.specs.Prelude.{All, ◌≤◌, List, ◌++◌, length}
use Rattle.fs_model.specs.declared.outcomes.Row.{Row}
use Rattle.fs_model.specs.Verdict.{IsRight}
use Rattle.result_desk.specs.Tally.{TallyData}

-- they are right in the tally's case, and it has room for them
pub record AreWaiting (tally : TallyData) (rows : List Row) : Type 0 where
  pub right : All (IsRight tally.case) rows
  pub room : length (tally.offered ++ rows) ≤ tally.page
