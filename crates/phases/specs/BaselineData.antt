-- A case with its golden run and its jobs.
use Rattle.std.specs.Prelude.{◌≡◌}
use Rattle.fs_model.specs.AccessLog.{log}
use Rattle.fs_model.specs.Card.{HasCard}
use Rattle.fs_model.specs.Case.{CaseData}
use Rattle.fs_model.specs.Job.{JobTable, jobs_of}
use Rattle.golden_trace.specs.Goldens.{GoldenData, IsGolden}

pub record BaselineData : Type 0 where
  pub case : CaseData
  pub golden : GoldenData
  pub list : JobTable

-- the run is the case's and halts, and the jobs are the case's
pub record IsBaseline (b : BaselineData) : Type 0 where
  pub card : HasCard b.case
  pub runs : IsGolden b.case b.golden
  pub jobs : b.list ≡ jobs_of (log b.case)
