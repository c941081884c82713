-- What a campaign file is for a case: the outcomes that it gives to the case's jobs, or the first refusal.
use Rattle.std.specs.Prelude.{All, ◌≡◌, ℕ, ◌+◌, ◌==◌, Bool, true, if◌then◌else◌, Option, Some, None, Result, Ok, Err, List, [], ◌∷◌, map}
use Rattle.std.specs.List.{list_any}
use Rattle.std.specs.Option.{option_map}
use Rattle.fs_model.specs.declared.sites.Site.{Site}
use Rattle.fs_model.specs.declared.sites.Job.{Job}
use Rattle.fs_model.specs.declared.outcomes.Outcome.{Outcome}
use Rattle.fs_model.specs.declared.outcomes.Row.{Row}
use Rattle.keep_format.specs.declared.rows.KeptRow.{KeptRow}
use Rattle.keep_format.specs.declared.fault.FormatFault.{FormatFault}
use Rattle.keep_format.specs.declared.fault.FormatFault.TheVariants.{BadRow}
use Rattle.result_keeper.specs.declared.refusals.KeepRefusal.{KeepRefusal}
use Rattle.result_keeper.specs.declared.refusals.KeepRefusal.TheVariants.{Format, OtherCase}
use Rattle.fs_model.specs.Case.{CaseData}
use Rattle.fs_model.specs.Card.{HasCard, card}
use Rattle.fs_model.specs.Site.{same_site}
use Rattle.fs_model.specs.Outcome.{number_of, outcome}
use Rattle.fs_model.specs.Verdict.{site_of_row}
use Rattle.fs_model.specs.Job.{HasOutcomes, jobs_in, site_of}
use Rattle.keep_format.specs.KeepFile.{FileRow, KeptFile, header_of, card_of, is_trap, kept, kept_from, file_row_of}
use Rattle.fs_model.specs.Steps.{◌>>=◌, ◌>>◌}

-- ---- the board

-- the outcome of the first row of a site
abbrev pub outcome_in : List Row → Site → Option Outcome
outcome_in [] site = None
outcome_in (row ∷ rows) site = if same_site (site_of_row row) site then Some row.outcome else outcome_in rows site

-- each job's outcome, or a blank where no row has its site
abbrev pub board_of : List Job → List Row → List (Option Outcome)
board_of list rows = map (λ job. outcome_in rows (site_of job)) list

-- a row in front of others, where it has an outcome
abbrev pub row_if : FileRow → Option Outcome → List Row → List Row
row_if row None rows = rows
row_if row (Some outcome) rows = record { cycle = row.cycle; cell = row.cell; bit = row.bit; outcome = outcome } ∷ rows

-- the rows that have an outcome; an old row has none, and its job counts as one without a row
abbrev pub outcome_rows : List FileRow → List Row
outcome_rows [] = []
outcome_rows (row ∷ rows) = row_if row row.outcome (outcome_rows rows)

-- the site that a row of a file names
abbrev pub site_named : FileRow → Site
site_named row = record { cycle = row.cycle; cell = row.cell; bit = row.bit }

-- ---- the refusals

-- the least index at which two cards differ; one that is a prefix of the other differs at its own length
abbrev pub difference : List ℕ → List ℕ → Option ℕ
difference [] [] = None
difference [] (b ∷ bs) = Some 0
difference (a ∷ as') [] = Some 0
difference (a ∷ as') (b ∷ bs) = if a == b then option_map (λ at. at + 1) (difference as' bs) else Some 0

-- a job has this site
abbrev pub names_job : List Job → Site → Bool
names_job list site = list_any (λ job. same_site site (site_of job)) list

-- the place of the first row that names no job, whether it has an outcome or not
abbrev pub stranger : List Job → List KeptRow → Option ℕ
stranger list [] = None
stranger list (row ∷ rows) = if names_job list (site_named (file_row_of row)) then stranger list rows else Some row.at

-- a fault of the format is a refusal
abbrev pub of_format : {A : Type 0} → Result A FormatFault → Result A KeepRefusal
of_format (Ok value) = Ok value
of_format (Err fault) = Err (Format fault)

-- ---- the whole

-- The board that a file which is not empty gives to these jobs, for this card, or the first refusal: NotACampaign, Version or
-- Cut of the header; OtherCase; Cut of the batches, BadRow of an outcome, Conflict; BadRow of a row that names no job.
abbrev pub board_in : List ℕ → List Job → List ℕ → Result (List (Option Outcome)) KeepRefusal
board_in card list file = do
  header ← of_format (header_of file)
  option_map OtherCase (difference (card_of file) card)
  kept ← of_format (kept_from file header.gate)
  option_map (λ at. Format (BadRow at)) (stranger list kept.rows)
  Ok (board_of list (outcome_rows (map file_row_of kept.rows)))

-- the board that a file gives for a case, or its first refusal; the empty file gives a blank one
unfoldable pub accept : List ℕ → CaseData → Result (List (Option Outcome)) KeepRefusal
accept [] c = Ok (board_of (jobs_in c) [])
accept (byte ∷ bytes) c = board_in (card c) (jobs_in c) (byte ∷ bytes)

-- an old row is right where its site's outcome is a trap
abbrev pub IsRightOld : CaseData → FileRow → Type 0
IsRightOld c row = row.outcome ≡ None → is_trap (number_of (outcome c (site_named row))) ≡ true

-- each old row that a file keeps is right
abbrev pub HasRightOld : CaseData → List ℕ → Type 0
HasRightOld c file = (found : KeptFile) → kept file ≡ Ok found → All (IsRightOld c) found.rows

-- The old rows of a file are right: each is of a job that traps, in the case that accepts the file. A file without old rows is
-- such a file, whatever its outcomes are, and so is a sound one.
unfoldable pub HasRightOldRows : List ℕ → Type 0
HasRightOldRows file = (c : CaseData) (board : List (Option Outcome)) → HasCard c → accept file c ≡ Ok board → HasRightOld c file

-- A file is sound where each outcome that it gives is that of its job's site, and each old row is of a job that traps, in the
-- case that accepts it. So it is where no case does: if it has no whole card, or its card is that of no case, or it is refused
-- for its own card's case.
unfoldable pub IsSound : List ℕ → Type 0
IsSound file =
    (c : CaseData) (board : List (Option Outcome)) → HasCard c → accept file c ≡ Ok board
    → HasOutcomes (outcome c) (jobs_in c) board × HasRightOld c file
