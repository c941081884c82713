-- What a sound file gives.
use Rattle.std.proofs.Common.{◌≡◌, ℕ, List, [], map, Ok, length, ◌∙◌, ap}
use Rattle.fs_model.specs.Case.{CaseData}
use Rattle.fs_model.specs.Card.{HasCard, card}
use Rattle.fs_model.specs.Job.{jobs_in}
use Rattle.fs_model.specs.Outcome.{outcome}
use Rattle.keep_format.specs.KeepFile.{file_row_of}
use Rattle.result_keeper.specs.Acceptance.{IsSound, accept, outcome_rows}
use Rattle.result_keeper.proofs.Filing.{length-board_of}
use Rattle.result_keeper.proofs.Opened.{WasOpened, WasEmpty, WasWhole, was_accepted}
use Rattle.shard_merge.specs.Laws.{IsRightBoard}
use Rattle.shard_merge.specs.Union.{BoardData}

-- a file that is accepted gives a place to each job
long_board : (c : CaseData) (file : List ℕ) (board : BoardData) → WasOpened (card c) (jobs_in c) file board → length board ≡ length (jobs_in c)
long_board c file board (WasEmpty empty is) = ap length is ∙ length-board_of (jobs_in c) []
long_board c file board (WasWhole rows gate whole fine is) = ap length is ∙ length-board_of (jobs_in c) (outcome_rows (map file_row_of rows))

pub sound_is_right : (c : CaseData) (file : List ℕ) (board : BoardData) → HasCard c → IsSound file → accept file c ≡ Ok board → IsRightBoard (outcome c) (jobs_in c) board
unfolding IsSound
sound_is_right c file board has sound gives = record { long = long_board c file board (was_accepted file c board gives); right = (sound c board has gives).0 }
