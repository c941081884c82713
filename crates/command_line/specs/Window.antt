-- Which words are a line of `fail_window`, and what it says.
use Rattle.std.specs.Prelude.{ℕ, List, Option, codes, option_and_then, option_map}
use Rattle.command_line.specs.Commands.{Text}
use Rattle.command_line.specs.Line.{given_after}
use Rattle.command_line.specs.Parts.{PartData, part_of, part_said}
use Rattle.command_line.specs.Ranges.{default_workers, max_stop, max_workers, window_files}
use Rattle.command_line.specs.Said.{CaseLineData, Texts, case_of, case_said, format_said, number_or, number_or_none, page_said}
use Rattle.command_line.specs.declared.commands.Command.TheVariants as command
use Rattle.command_line.specs.declared.commands.Format.{Format}
use Rattle.command_line.specs.declared.commands.OptionSet.TheVariants.{OfWindow}
use Rattle.command_line.specs.declared.window.Running.{Running}
use Rattle.command_line.specs.declared.window.WindowLine.{WindowLine}

-- how many workers run the jobs of a part, how many jobs at most are kept together, how many at most before the call stops, if there
-- is a bound, and how the counts are written
pub record RunningData : Type 0 where
  pub workers : ℕ
  pub page : ℕ
  pub stop_after : Option ℕ
  pub format : Format

abbrev pub running_of : Running → RunningData
running_of r = record { workers = r.workers; page = r.page; stop_after = r.stop_after; format = r.format }

abbrev pub running_said : Texts → Option RunningData
running_said given =
    option_and_then (λ workers.
    option_and_then (λ page.
    option_and_then (λ stop_after.
    option_map (λ format. record { workers = workers; page = page; stop_after = stop_after; format = format })
    (format_said command.Run given))
    (number_or_none 0 max_stop (given (codes "stop-after"))))
    (page_said given))
    (number_or default_workers 1 max_workers (given (codes "workers")))

-- IMAGE and KEEP with the options of the case, the part of the run, and how its jobs are run
pub record WindowLineData : Type 0 where
  pub case : CaseLineData
  pub part : PartData
  pub running : RunningData

abbrev pub window_data : WindowLine → WindowLineData
window_data l = record { case = case_of l.case; part = part_of l.part; running = running_of l.running }

-- what the words of the files and the texts of the options say
abbrev pub window_said : List Text → Texts → Option WindowLineData
window_said files given =
    option_and_then (λ case.
    option_and_then (λ part.
    option_map (λ running. record { case = case; part = part; running = running })
    (running_said given))
    (part_said given))
    (case_said OfWindow files given)

-- what the words say, the program's name first, if they are a line: IMAGE and KEEP, and then the options, of which at least one says a
-- part of the run
abbrev pub window_line : List Text → Option WindowLineData
window_line words = option_and_then (λ asked. window_said asked.0 asked.1) (given_after OfWindow 1 window_files words)
