-- What the words of a call ask for: which files they name, and which jobs are to be run.
use Rattle.std.specs.Prelude.{◌≡◌, Bool, true, false, Option, Some}
use Rattle.command_line.specs.declared.commands.Command.{Command}
use Rattle.command_line.specs.Request.{RequestData, command_in}
use Rattle.command_line.specs.Request as request
use Rattle.command_line.specs.Commands.{names_image, names_keep, names_other}
use Rattle.kept_commands.specs.Run.{Portion, each_job, no_job, run_portion}

-- which missing jobs the command runs: `report` and `symbols` none, so that none may be missing, and `audit` lets any
-- be missing
abbrev pub portion_asked : RequestData → Portion
portion_asked (request.Run case campaign) = run_portion campaign
portion_asked (request.Audit case) = each_job
portion_asked settings = no_job

-- whether it starts the file again: only `run` may
abbrev pub fresh_of : RequestData → Bool
fresh_of (request.Run case campaign) = campaign.fresh
fresh_of settings = false

-- this holds of what the words say, if they are a line
abbrev pub IfLine : Option RequestData → (RequestData → Type 0) → Type 0
IfLine said P = (settings : RequestData) → said ≡ Some settings → P settings

-- the words are a line, and its command passes this test: `Does names_image said` says that it names an image
pub record Does (test : Command → Bool) (said : Option RequestData) : Type 0 where
  pub settings : RequestData
  pub line_is : said ≡ Some settings
  pub does : test (command_in settings) ≡ true

-- the command does not pass this test, if the words are a line
abbrev pub DoesNot : (Command → Bool) → Option RequestData → Type 0
DoesNot test said = IfLine said (λ settings. test (command_in settings) ≡ false)

-- it does not start its campaign file again
abbrev pub ContinuesFile : Option RequestData → Type 0
ContinuesFile said = IfLine said (λ settings. fresh_of settings ≡ false)

-- the device of the image tells its bytes, if the words name an image: those of `demo` do not
abbrev pub TellsImage : Option RequestData → Type 0 → Type 0
TellsImage said tells = Does names_image said → tells

-- the device of the other campaign file tells its bytes, if the words name it
abbrev pub TellsOther : Option RequestData → Type 0 → Type 0
TellsOther said told = Does names_other said → told

-- the devices tell those campaign files that the words name
abbrev pub TellsFiles : Option RequestData → Type 0 → Type 0 → Type 0
TellsFiles said tells told = (Does names_keep said → tells) × TellsOther said told
