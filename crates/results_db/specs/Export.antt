-- What an export is asked for, and what it leaves in its store and on its output.
use Rattle.std.specs.Prelude.{◌≡◌, ◌⊎◌, ℕ, ◌++◌, List, [], length, Option, None, Ok, codes, option_map}
use Rattle.fs_model.specs.declared.outcomes.Outcome.{Outcome}
use Rattle.fs_model.specs.Case.{CaseData}
use Rattle.fs_model.specs.Job.{jobs_in}
use Rattle.fs_model.specs.Pages.{missing}
use Rattle.result_keeper.specs.Acceptance.{accept}
use Rattle.row_store.specs.declared.rows.ExportRow.{ExportRow}
use Rattle.command_line.specs.Line.{CaseLineData, RequestData, Text, export_line}
use Rattle.command_line.specs.Request as request
use Rattle.command_line.specs.declared.commands.Format.TheVariants.{Text as AsText}
use Rattle.phases.specs.Status.{status_text}
use Rattle.phases.specs.declared.status.Status.{Status}
use Rattle.phases.specs.declared.status.Status.TheVariants as status
use Rattle.kept_commands.specs.Keep.{GivesRight}
use Rattle.kept_commands.specs.Call.{CallData}
use Rattle.kept_commands.specs.Causes.{IsCause, Loads}
use Rattle.kept_commands.specs.Files.{files_of}
use Rattle.fs_outside.specs.Writing.{TookPart}
use Rattle.results_db.specs.Rows.{exported_text, rows_by, true_rows}
use Rattle.results_db.specs.Stories.{IsStored}

-- an export asks of its image and its campaign file what `report` asks
abbrev pub asks : CaseLineData → RequestData
asks case = request.Report case AsText

-- what the words ask, if they are a line: IMAGE, KEEP and DB with the options of a case
abbrev pub export_asked : List Text → Option RequestData
export_asked words = option_map asks (export_line words)

-- a call of `fail_export` with these words, where the image and the campaign file have these bytes
abbrev pub export_call : List Text → List ℕ → List ℕ → CallData
export_call words image file = record { said = export_asked words; image = image; files = files_of file [] }

-- these are the rows of the jobs of the case that was asked for, with their outcomes in its file, which has all
pub record Exports (call : CallData) (rows : List ExportRow) : Type 0 where
  pub case : CaseData
  pub loads : Loads call case
  pub board : List (Option Outcome)
  pub opened : accept call.files.file case ≡ Ok board
  pub whole : missing board ≡ []
  pub rows_are : rows ≡ rows_by (jobs_in case) board
  pub each : length rows ≡ length (jobs_in case)

-- these are a row for each of its jobs, with the outcome of its site's own run
pub record ExportsTruly (call : CallData) (rows : List ExportRow) : Type 0 where
  pub case : CaseData
  pub loads : Loads call case
  pub rows_are : rows ≡ true_rows case

-- the output took the number of its jobs, or a part of that text
pub record SaysExported (call : CallData) (before after : List ℕ) : Type 0 where
  pub case : CaseData
  pub loads : Loads call case
  pub written : after ≡ before ++ exported_text (length (jobs_in case))

pub record SaysPart (call : CallData) (before after : List ℕ) : Type 0 where
  pub case : CaseData
  pub loads : Loads call case
  pub written : TookPart before after (exported_text (length (jobs_in case)))

-- An export had this answer. Its store has the rows `stored` after it; `before` and `after` are the bytes that its
-- output took until the call began, and until it ended. Four types say which devices tell what they hold: the image
-- (`tells_image`), the campaign file (`tells_file`), the store (`tells_rows`), and the output (`tells_out`).
pub record IsExported (tells_image tells_file tells_rows tells_out : Type 0) (call : CallData) (stored : List ExportRow)
    (before after : List ℕ) (answer : Status) : Type 0 where
  -- An answer is given only if it has its cause.
  pub cause : tells_image → IsCause tells_file (Unit {0}) call answer
  -- Usage is given only if the words are no line, and then it is given, unless memory ran out.
  pub usage : answer ≡ status.Usage → call.said ≡ None
  pub no_line : call.said ≡ None → (answer ≡ status.Usage) ⊎ (answer ≡ status.NoMemory)
  -- Once the rows are stored, the store has exactly the jobs, in order, each with its weight and its outcome in the
  -- file.
  pub rows : tells_image → tells_file → tells_rows → IsStored answer → Exports call stored
  -- If each outcome in the file is right for the case, as in a sound file or in one in which `audit` finds nothing
  -- wrong, that is the outcome of the site's own run from the first instruction.
  pub right : tells_image → tells_file → tells_rows → IsStored answer
      → ((case : CaseData) → Loads call case → GivesRight call.files.file case) → ExportsTruly call stored
  -- Done: the output took the number of the jobs. WriteFault: it took a part of that text.
  pub said : tells_image → tells_out → answer ≡ status.Done → SaysExported call before after
  pub part : tells_image → tells_out → answer ≡ status.WriteFault → SaysPart call before after

-- what the error output is told: one line, or nothing where the rows were stored
abbrev pub export_text : Status → List ℕ
export_text status.Usage = codes "usage: fail_export IMAGE KEEP DB [options]\n"
export_text answer = status_text answer
