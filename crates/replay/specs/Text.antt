-- The text of a replay: for each site its numbers, the instructions of its injected run, where this differs from the run without a
-- flip, what it sent, how it ended, and its outcome.
use Rattle.std.specs.Prelude.{ℕ, zero, suc, ◌+◌, ◌-◌, List, [], ◌++◌, codes, decimal, Option, Some, None}
use Rattle.std.specs.List.{flat_map}
use Rattle.fs_model.specs.declared.outcomes.Outcome.{Outcome}
use Rattle.fs_model.specs.declared.sites.Site.{Site}
use Rattle.fs_model.specs.Case.{CaseData}
use Rattle.fs_model.specs.Machine.{fetch}
use Rattle.fs_model.specs.Outcome.{outcome, outcome_word}
use Rattle.fs_model.specs.Run.{State, Ending, Ended, Over, start, run, injected}
use Rattle.command_line.specs.declared.replay.View.{View}
use Rattle.command_line.specs.declared.replay.View.TheVariants.{FromFlip, Whole, Brief}
use Rattle.plain_commands.specs.Trace.{instruction_text, output_line, end_line}
use Rattle.replay.specs.declared.differences.Differences.{Differences}
use Rattle.replay.specs.Differences.{differences}
use Rattle.replay.specs.Injected.{injected_at, steps_from}
use Rattle.timeline.specs.Places.{from_flip}

abbrev pub site_line : Site → List ℕ
site_line site = codes "site " ++ (decimal site.cycle ++ (codes " " ++ (decimal site.cell ++ (codes " " ++ (decimal site.bit ++ codes "\n")))))

-- the line of an instruction of this number, by the state before it, as a trace has it
abbrev pub line_before : CaseData → ℕ → State → List ℕ
line_before c number s = instruction_text number s.core.pc (fetch c s.core)

-- the lines of n instructions from a state on, the first of which has this number
unfoldable pub lines_from : CaseData → ℕ → State → ℕ → List ℕ
lines_from c number s zero = []
lines_from c number s (suc n) = lines_from c number s n ++ line_before c (number + n) (run c n s)

-- the lines that a view shows, where the injected run takes n instructions from the flip on
abbrev pub view_lines : CaseData → Site → ℕ → View → List ℕ
view_lines c site n FromFlip = lines_from c site.cycle (from_flip c site) n
view_lines c site n Whole = lines_from c 0 (start c) site.cycle ++ lines_from c site.cycle (from_flip c site) n
view_lines c site n Brief = []

-- a number, or a hyphen if there is none
abbrev pub some_number_text : Option ℕ → List ℕ
some_number_text None = codes "-"
some_number_text (Some n) = decimal n

abbrev pub differences_line : Differences → List ℕ
differences_line d =
    codes "differs pc "
    ++ (some_number_text d.pc
    ++ (codes " registers " ++ (some_number_text d.registers ++ (codes " output " ++ (some_number_text d.output ++ codes "\n")))))

-- what the run sent from its first instruction on, and how it ended
abbrev pub ending_lines : CaseData → Site → Ending → List ℕ
ending_lines c site (Ended end steps output) = output_line output ++ end_line end
ending_lines c site Over = output_line (injected_at c site (c.limit - site.cycle)).output ++ codes "end limit\n"

abbrev pub outcome_line : Outcome → List ℕ
outcome_line o = codes "outcome " ++ (outcome_word o ++ codes "\n")

abbrev pub site_text : CaseData → View → Site → List ℕ
site_text c view site =
    site_line site ++ (view_lines c site (steps_from c site) view
    ++ (differences_line (differences c site (steps_from c site)) ++ (ending_lines c site (injected c site) ++ outcome_line (outcome c site))))

-- the sites one after another
abbrev pub replay_text : CaseData → View → List Site → List ℕ
replay_text c view sites = flat_map (site_text c view) sites
