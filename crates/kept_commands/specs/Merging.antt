-- Parts of a merge: OTHER read to a board, and a board merged into a file.
use Rattle.std.specs.Prelude.{◌≡◌, ℕ, List, Result, Ok, Err}
use Rattle.fs_model.specs.Case.{CaseData}
use Rattle.fs_model.specs.Job.{jobs_in}
use Rattle.fs_model.specs.Steps.{◌>>◌}
use Rattle.result_keeper.specs.Acceptance.{accept}
use Rattle.shard_merge.specs.Union.{BoardData, union}
use Rattle.command_line.specs.declared.commands.Format.{Format}
use Rattle.phases.specs.Reports.{board_report}
use Rattle.phases.specs.declared.status.OtherReason.TheVariants.{Disagree}
use Rattle.phases.specs.declared.status.Status.{Status}
use Rattle.phases.specs.declared.status.Status.TheVariants as status
use Rattle.kept_commands.specs.Merge.{answer_for, first_apart, other_board}

-- why OTHER gives no board: it is refused, where its source tells it, or the source failed, or there was no memory
abbrev pub IsNoOther : Type 0 → List ℕ → CaseData → Status → Type 0
IsNoOther told other c (status.BadOther reason) = told → other_board other c ≡ Err (status.BadOther reason)
IsNoOther told other c status.OtherFault = Unit {0}
IsNoOther told other c status.NoMemory = Unit {0}
IsNoOther told other c answer = ⊥

-- two boards of a case put together, or the first job that has two outcomes
abbrev pub together : CaseData → BoardData → BoardData → Result BoardData Status
together c kept others = first_apart (jobs_in c) kept others >> Ok (union kept others)

-- how the merge of one into the other may end
abbrev pub UnionEnds : CaseData → BoardData → BoardData → Status → Type 0
UnionEnds c kept others (status.BadOther (Disagree cycle cell bit)) =
    together c kept others ≡ Err (status.BadOther (Disagree cycle cell bit))
UnionEnds c kept others (status.Stopped count jobs) = answer_for (together c kept others) ≡ status.Stopped count jobs
UnionEnds c kept others status.Done = answer_for (together c kept others) ≡ status.Done
UnionEnds c kept others status.WriteFault = answer_for (together c kept others) ≡ status.Done
UnionEnds c kept others status.KeepFault = Unit {0}
UnionEnds c kept others status.NoMemory = Unit {0}
UnionEnds c kept others answer = ⊥

-- how the merge of a board into a file may end
abbrev pub FileEnds : Type 0 → List ℕ → BoardData → CaseData → Status → Type 0
FileEnds tells file others c status.KeepFault = Unit {0}
FileEnds tells file others c status.NoMemory = Unit {0}
FileEnds tells file others c (status.BadKeep refusal) = tells → accept file c ≡ Err refusal
FileEnds tells file others c answer = (kept : BoardData) × (tells → accept file c ≡ Ok kept) × UnionEnds c kept others answer

-- the counts of two boards put together are written
abbrev pub UnionSays : Format → CaseData → BoardData → BoardData → List ℕ → Type 0
UnionSays asked c kept others text =
    (board : BoardData) × (together c kept others ≡ Ok board) × (text ≡ board_report asked c board)

-- and those of the file's board and that one
abbrev pub FileSays : Format → List ℕ → BoardData → CaseData → List ℕ → Type 0
FileSays asked file others c text =
    (kept : BoardData) × (accept file c ≡ Ok kept) × UnionSays asked c kept others text
