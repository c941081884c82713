-- What a contract sees of a crew.
use Rattle.std.specs.Prelude.{ℕ, Bool}
use Rattle.fs_model.specs.Case.{CaseData}

-- its case, the distance of the kept states, the most jobs of a page, whether its workers have shortcuts, and the steps that all
-- machines took
pub record CrewData : Type 0 where
  pub case : CaseData
  pub spacing : ℕ
  pub page : ℕ
  pub shortcuts : Bool
  pub taken : ℕ
