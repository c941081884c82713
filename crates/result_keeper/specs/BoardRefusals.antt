-- Why the bytes of a file give no board.
use Rattle.std.specs.Prelude.{◌≡◌, ℕ, List, Err}
use Rattle.fs_model.specs.Case.{CaseData}
use Rattle.result_keeper.specs.Acceptance.{accept}
use Rattle.result_keeper.specs.declared.refusals.BoardRefusal.{BoardRefusal}
use Rattle.result_keeper.specs.declared.refusals.BoardRefusal.TheVariants.{Refused, NoMemory}

-- they are refused for this, or there was no memory
abbrev pub IsNoBoard : List ℕ → CaseData → BoardRefusal → Type 0
IsNoBoard file c (Refused refusal) = accept file c ≡ Err refusal
IsNoBoard file c NoMemory = Unit {0}
