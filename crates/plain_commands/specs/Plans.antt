-- What a plan says of a case.
use Rattle.std.specs.Prelude.{ℕ, List, length}
use Rattle.fs_model.specs.AccessLog.{log}
use Rattle.fs_model.specs.Case.{CaseData}
use Rattle.fs_model.specs.Job.{JobTable, jobs_of}
use Rattle.fs_model.specs.Run.{cycles}
use Rattle.fs_model.specs.Site.{sites_of}
use Rattle.report.specs.Plan.{plan_of}
use Rattle.report.specs.Text.{plan_csv}
use Rattle.command_line.specs.declared.commands.Format.{Format}
use Rattle.command_line.specs.declared.commands.Format.TheVariants as format

-- a plan in a format; it is no object
abbrev pub plan_in : Format → ℕ → ℕ → JobTable → List ℕ
plan_in format.Text cycles sites table = plan_of cycles sites table
plan_in format.Json cycles sites table = plan_of cycles sites table
plan_in format.Csv cycles sites table = plan_csv table.list

-- The plan of a case: how many jobs represent its sites, how many sites they represent, and how many belong to no job; or each
-- job with its weight.
abbrev pub plan_by : Format → CaseData → List ℕ
plan_by asked c = plan_in asked (cycles c) (length (sites_of c)) (jobs_of (log c))
