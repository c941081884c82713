-- What a line asks for: a command, what it asks of its image, and the values of its own options.
use Rattle.std.specs.Prelude.{ℕ, Bool, true, List, Option, Some, None, codes, is_some, option_and_then, option_map}
use Rattle.command_line.specs.Commands.{Text}
use Rattle.command_line.specs.Ranges.{default_blocks, default_count, default_page, default_workers, max_blocks, max_count, max_stop, max_workers}
use Rattle.command_line.specs.Said.{CaseLineData, Texts, case_of, case_said, format_said, number_or, number_or_none, page_said, seed_said, shard_or_none}
use Rattle.command_line.specs.declared.commands.Command.{Command}
use Rattle.command_line.specs.declared.commands.Command.TheVariants as command
use Rattle.command_line.specs.declared.commands.Format.{Format}
use Rattle.command_line.specs.declared.commands.Format.TheVariants.{Text as AsText}
use Rattle.command_line.specs.declared.commands.OptionSet.TheVariants.{OfCommand}
use Rattle.command_line.specs.declared.request.Campaign.{Campaign}
use Rattle.command_line.specs.declared.request.Draws.{Draws}
use Rattle.command_line.specs.declared.request.Merging.{Merging}
use Rattle.command_line.specs.declared.request.Program.{Program}
use Rattle.command_line.specs.declared.request.Request.{Request}
use Rattle.command_line.specs.declared.request.Request.TheVariants as read

-- of a campaign: how many workers run the jobs, how many jobs at most are kept together, how many at most before the campaign
-- stops, if there is a bound, which shard of how many the jobs are of, if not all are meant, whether its file is started again, and
-- how its counts are written
pub record CampaignData : Type 0 where
  pub workers : ℕ
  pub page : ℕ
  pub stop_after : Option ℕ
  pub shard : Option (ℕ × ℕ)
  pub fresh : Bool
  pub format : Format

abbrev pub campaign_of : Campaign → CampaignData
campaign_of c = record { workers = c.workers; page = c.page; stop_after = c.stop_after; shard = c.shard; fresh = c.fresh; format = c.format }

abbrev pub campaign_said : Texts → Option CampaignData
campaign_said given =
    option_and_then (λ workers.
    option_and_then (λ page.
    option_and_then (λ stop_after.
    option_and_then (λ shard.
    option_map (λ format. record {
      workers = workers;
      page = page;
      stop_after = stop_after;
      shard = shard;
      fresh = is_some (given (codes "fresh"));
      format = format;
    })
    (format_said command.Run given))
    (shard_or_none (given (codes "shard"))))
    (number_or_none 0 max_stop (given (codes "stop-after"))))
    (page_said given))
    (number_or default_workers 1 max_workers (given (codes "workers")))

-- a campaign of all jobs, whose file is started again, and whose counts are a text
abbrev pub whole_campaign : CampaignData
whole_campaign = record { workers = default_workers; page = default_page; stop_after = None; shard = None; fresh = true; format = AsText }

-- of a sample: how many sites it draws, from which first state of the generator, and whether of the live ones alone
pub record DrawsData : Type 0 where
  pub count : ℕ
  pub seed : ℕ
  pub live : Bool

abbrev pub draws_of : Draws → DrawsData
draws_of d = record { count = d.count; seed = d.seed; live = d.live }

abbrev pub draws_said : Texts → Option DrawsData
draws_said given =
    option_and_then (λ count.
    option_map (λ seed. record { count = count; seed = seed; live = is_some (given (codes "live")) })
    (seed_said given))
    (number_or default_count 1 max_count (given (codes "count")))

-- of a merge: how many jobs at most are kept together, and how the counts are written
pub record MergingData : Type 0 where
  pub page : ℕ
  pub format : Format

abbrev pub merging_of : Merging → MergingData
merging_of m = record { page = m.page; format = m.format }

abbrev pub merging_said : Texts → Option MergingData
merging_said given =
    option_and_then (λ page. option_map (λ format. record { page = page; format = format }) (format_said command.Merge given)) (page_said given)

-- of a generated program: the first state of the generator, and the number of blocks
pub record ProgramData : Type 0 where
  pub seed : ℕ
  pub blocks : ℕ

abbrev pub program_of : Program → ProgramData
program_of p = record { seed = p.seed; blocks = p.blocks }

abbrev pub program_said : Texts → Option ProgramData
program_said given =
    option_and_then (λ seed.
    option_map (λ blocks. record { seed = seed; blocks = blocks })
    (number_or default_blocks 1 max_blocks (given (codes "blocks"))))
    (seed_said given)

-- ---- a line

-- a command with what it asks
pub data RequestData : Type 0 where
  Run : CaseLineData → CampaignData → RequestData
  Brute : CaseLineData → Format → RequestData
  Trace : CaseLineData → RequestData
  Plan : CaseLineData → Format → RequestData
  Report : CaseLineData → Format → RequestData
  Audit : CaseLineData → RequestData
  Sample : CaseLineData → DrawsData → RequestData
  Merge : CaseLineData → MergingData → RequestData
  Symbols : CaseLineData → RequestData
  Demo : CaseLineData → ProgramData → RequestData

abbrev pub request_of : Request → RequestData
request_of (read.Run case campaign) = Run (case_of case) (campaign_of campaign)
request_of (read.Brute case format) = Brute (case_of case) format
request_of (read.Trace case) = Trace (case_of case)
request_of (read.Plan case format) = Plan (case_of case) format
request_of (read.Report case format) = Report (case_of case) format
request_of (read.Audit case) = Audit (case_of case)
request_of (read.Sample case draws) = Sample (case_of case) (draws_of draws)
request_of (read.Merge case merging) = Merge (case_of case) (merging_of merging)
request_of (read.Symbols case) = Symbols (case_of case)
request_of (read.Demo case program) = Demo (case_of case) (program_of program)

abbrev pub command_in : RequestData → Command
command_in (Run case campaign) = command.Run
command_in (Brute case format) = command.Brute
command_in (Trace case) = command.Trace
command_in (Plan case format) = command.Plan
command_in (Report case format) = command.Report
command_in (Audit case) = command.Audit
command_in (Sample case draws) = command.Sample
command_in (Merge case merging) = command.Merge
command_in (Symbols case) = command.Symbols
command_in (Demo case program) = command.Demo

abbrev pub case_in : RequestData → CaseLineData
case_in (Run case campaign) = case
case_in (Brute case format) = case
case_in (Trace case) = case
case_in (Plan case format) = case
case_in (Report case format) = case
case_in (Audit case) = case
case_in (Sample case draws) = case
case_in (Merge case merging) = case
case_in (Symbols case) = case
case_in (Demo case program) = case

-- what a command asks of this case
abbrev pub said_of : Command → Texts → CaseLineData → Option RequestData
said_of command.Run given case = option_map (Run case) (campaign_said given)
said_of command.Brute given case = option_map (Brute case) (format_said command.Brute given)
said_of command.Trace given case = Some (Trace case)
said_of command.Plan given case = option_map (Plan case) (format_said command.Plan given)
said_of command.Report given case = option_map (Report case) (format_said command.Report given)
said_of command.Audit given case = Some (Audit case)
said_of command.Sample given case = option_map (Sample case) (draws_said given)
said_of command.Merge given case = option_map (Merge case) (merging_said given)
said_of command.Symbols given case = Some (Symbols case)
said_of command.Demo given case = option_map (Demo case) (program_said given)

-- what a command, the words of its files and the texts of its options say
abbrev pub said : Command → List Text → Texts → Option RequestData
said c files given = option_and_then (said_of c given) (case_said (OfCommand c) files given)
