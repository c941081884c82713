-- The machines that a search for loops works with.
use Rattle.std.specs.Prelude.{◌≡◌}
use Rattle.fs_model.specs.Case.{CaseData}

-- both are of the case
pub record OfCase (c head machine : CaseData) : Type 0 where
  pub head_is : head ≡ c
  pub machine_is : machine ≡ c
