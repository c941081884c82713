-- Why a campaign file is not opened.
use Rattle.std.specs.Prelude.{◌≡◌, ℕ, List, Err}
use Rattle.fs_model.specs.Case.{CaseData}
use Rattle.result_keeper.specs.Acceptance.{accept}
use Rattle.fs_model.specs.Run.{golden}
use Rattle.golden_trace.specs.Goldens.{IsFault}
use Rattle.phases.specs.Baselines.{Halts}
use Rattle.phases.specs.declared.status.Status.{Status}
use Rattle.phases.specs.declared.status.Status.TheVariants as status

-- the golden run does not halt within the limit; or it does, and the file is refused for what it holds, where its disk tells that, or the
-- disk failed; or there was no memory
abbrev pub IsUnopened : Type 0 → List ℕ → CaseData → Status → Type 0
IsUnopened tells file c (status.BadGolden fault) = IsFault fault c.limit (golden c)
IsUnopened tells file c status.KeepFault = Halts c
IsUnopened tells file c (status.BadKeep refusal) = Halts c × (tells → accept file c ≡ Err refusal)
IsUnopened tells file c status.NoMemory = Unit {0}
IsUnopened tells file c answer = ⊥
