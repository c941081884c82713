-- The golden run of a case: that it halts, or why it does not.
use Rattle.std.specs.Prelude.{◌≡◌, ℕ, List}
use Rattle.fs_model.specs.Case.{CaseData}
use Rattle.fs_model.specs.Run.{Ended, Halt, golden}
use Rattle.golden_trace.specs.Goldens.{IsFault}
use Rattle.phases.specs.declared.status.Status.{Status}
use Rattle.phases.specs.declared.status.Status.TheVariants as status

-- the golden run halts within the limit
pub record Halts (c : CaseData) : Type 0 where
  pub value : ℕ
  pub steps : ℕ
  pub output : List ℕ
  pub ends : golden c ≡ Ended (Halt value) steps output

-- it does not, or there was no memory
abbrev pub HasNoBaseline : CaseData → Status → Type 0
HasNoBaseline c (status.BadGolden fault) = IsFault fault c.limit (golden c)
HasNoBaseline c status.NoMemory = Unit {0}
HasNoBaseline c answer = ⊥
