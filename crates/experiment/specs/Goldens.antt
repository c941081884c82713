-- That a run is the golden run of a case has one proof at most, so a ghost field may hold it.
use Rattle.std.specs.Prelude.{ℕ, ◌+◌, List, [], ◌∷◌}
use Rattle.std.specs.Coded.{Unit-prop}
use Rattle.std.proofs.Props as below
use Rattle.fs_model.specs.declared.events.Touch.{Touch}
use Rattle.fs_model.specs.Case.{CaseData}
use Rattle.fs_model.specs.TouchList.{IsAscendingWithin}
use Rattle.golden_trace.specs.Goldens.{GoldenData, IsGolden}

pub IsAscendingWithin-prop : (low high : ℕ) (ts : List Touch) → IsProp (IsAscendingWithin low high ts)
IsAscendingWithin-prop low high [] = Unit-prop
IsAscendingWithin-prop low high (t ∷ ts) = let rest = IsAscendingWithin-prop (t.cell + 1) high ts in Prim.hlevel below.props

ruleset props = (IsAscendingWithin-prop, below.props)

pub IsGolden-prop : (c : CaseData) (g : GoldenData) → IsProp (IsGolden c g)
IsGolden-prop c g = Prim.hlevel props
