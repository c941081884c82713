-- How a call of a program ends: its number, for which part of the work, and what the error output is told.
use Rattle.std.specs.Prelude.{◌≡◌, ℕ, ◌-◌, ◌^◌, ◌<◌, ◌==◌, nat_le, ◌&&◌, if◌then◌else◌, Bool, List, [], ◌++◌, codes, decimal}
use Rattle.std.specs.List.{flat_map}
use Rattle.command_line.specs.Commands.{all_commands, command_name, names_image, names_keep, names_other}
use Rattle.command_line.specs.declared.commands.Command.{Command}
use Rattle.command_line.specs.declared.commands.Command.TheVariants as command
use Rattle.golden_trace.specs.declared.good.GoldenFault.{GoldenFault}
use Rattle.golden_trace.specs.declared.good.GoldenFault.TheVariants.{GoldenTrap, GoldenDetected, GoldenLong}
use Rattle.keep_format.specs.declared.fault.FormatFault.{FormatFault}
use Rattle.keep_format.specs.declared.fault.FormatFault.TheVariants.{NotACampaign, Version, Cut, BadRow, Conflict}
use Rattle.result_keeper.specs.declared.refusals.KeepRefusal.{KeepRefusal}
use Rattle.result_keeper.specs.declared.refusals.KeepRefusal.TheVariants.{Format, OtherCase}
use Rattle.phases.specs.declared.status.OtherReason.{OtherReason}
use Rattle.phases.specs.declared.status.OtherReason.TheVariants.{Refused, TooLong, Disagree}
use Rattle.phases.specs.declared.status.Status.{Status}
use Rattle.phases.specs.declared.status.Status.TheVariants as status

abbrev pub number : Status → ℕ
number status.Done = 0
number status.Usage = 1
number status.ReadFault = 2
number (status.BadImage fault) = 3
number (status.BadGolden fault) = 4
number status.KeepFault = 5
number (status.BadKeep refusal) = 6
number (status.Stopped kept jobs) = 7
number status.WriteFault = 8
number status.NoMemory = 9
number (status.BadOther reason) = 10
number status.OtherFault = 11
number status.StoreFault = 12

-- ---- for which device it ended, if for one

-- the image's source
abbrev pub is_read_fault : Status → Bool
is_read_fault answer = number answer == 2

-- the output
abbrev pub is_write_fault : Status → Bool
is_write_fault answer = number answer == 8

-- the campaign file's disk
abbrev pub is_keep_fault : Status → Bool
is_keep_fault answer = number answer == 5

-- the other campaign file's source
abbrev pub is_other_fault : Status → Bool
is_other_fault answer = number answer == 11

-- the table of an export
abbrev pub is_store_fault : Status → Bool
is_store_fault answer = number answer == 12

-- ---- parts of the work

-- the answer is one of the image, or want of memory
abbrev pub IsImageStatus : Status → Type 0
IsImageStatus status.ReadFault = Unit {0}
IsImageStatus (status.BadImage fault) = Unit {0}
IsImageStatus status.NoMemory = Unit {0}
IsImageStatus answer = ⊥

-- only writing was left: the text was written, or the output failed, or there was no memory for it
abbrev pub IsWriting : Status → Type 0
IsWriting status.Done = Unit {0}
IsWriting status.WriteFault = Unit {0}
IsWriting status.NoMemory = Unit {0}
IsWriting answer = ⊥

-- the answer is one of the campaign file: of its opening, or of the jobs that it keeps
abbrev pub is_of_keep : Status → Bool
is_of_keep answer = nat_le 5 (number answer) && nat_le (number answer) 7

-- it is one of the other campaign file
abbrev pub is_of_other : Status → Bool
is_of_other answer = nat_le 10 (number answer) && nat_le (number answer) 11

-- a count of faults did not rise, and has not reached its type's end
pub record HasNoFault (before now : ℕ) : Type 0 where
  pub same : now ≡ before
  pub room : now < 2 ^ 64 - 1

-- ---- what the error output is told

abbrev pub Text : Type 0
Text = List ℕ

-- the words of a command's files, each after a space
abbrev pub file_words : Command → Text
file_words c =
    (if names_image c then codes " IMAGE" else []) ++
    ((if names_keep c then codes " KEEP" else []) ++
    (if names_other c then codes " OTHER" else []))

-- what may follow them
abbrev pub usage_options : Command → Text
usage_options command.Demo = codes " [--seed S] [--blocks K]"
usage_options c = codes " [options]"

-- how a command is called
abbrev pub usage_line : Command → Text
usage_line c = codes "usage: fail_star " ++ (command_name c ++ (file_words c ++ (usage_options c ++ codes "\n")))

-- a line for each command
abbrev pub usage_text : Text
usage_text = flat_map usage_line all_commands

-- the name of an image's fault, by its number
unfoldable pub fault_name : ℕ → Text
fault_name n =
    if n == 1 then codes "Short" else
    if n == 2 then codes "NotElf" else
    if n == 3 then codes "NotClass32" else
    if n == 4 then codes "NotLittle" else
    if n == 5 then codes "Version" else
    if n == 6 then codes "NotExec" else
    if n == 7 then codes "NotRiscv" else
    if n == 8 then codes "BadHeaders" else
    if n == 9 then codes "FilePastMemory" else
    if n == 10 then codes "SegmentPastFile" else
    if n == 11 then codes "SegmentOutsideMap" else
    if n == 12 then codes "TooLong" else
    if n == 13 then codes "BadSections" else
    if n == 14 then codes "BadName" else []

abbrev pub image_text : ℕ → Text
image_text n = codes "image refused: " ++ (decimal n ++ (codes " " ++ (fault_name n ++ codes "\n")))

abbrev pub golden_text : GoldenFault → Text
golden_text (GoldenTrap cycle) = codes "golden run trapped at cycle " ++ (decimal cycle ++ codes "\n")
golden_text (GoldenDetected cycle) = codes "golden run detected at cycle " ++ (decimal cycle ++ codes "\n")
golden_text (GoldenLong limit) = codes "golden run did not halt within " ++ (decimal limit ++ codes " instructions\n")

-- why a campaign file is refused
abbrev pub format_text : FormatFault → Text
format_text NotACampaign = codes "1 NotACampaign\n"
format_text Version = codes "2 Version\n"
format_text Cut = codes "3 Cut\n"
format_text (BadRow at) = codes "4 BadRow at " ++ (decimal at ++ codes "\n")
format_text (Conflict first second) = codes "5 Conflict at " ++ (decimal first ++ (codes " and " ++ (decimal second ++ codes "\n")))

abbrev pub refusal_text : KeepRefusal → Text
refusal_text (Format fault) = format_text fault
refusal_text (OtherCase at) = codes "6 OtherCase at " ++ (decimal at ++ codes "\n")

abbrev pub keep_text : KeepRefusal → Text
keep_text refusal = codes "campaign file refused: " ++ refusal_text refusal

abbrev pub other_text : OtherReason → Text
other_text (Refused refusal) = codes "other campaign file refused: " ++ refusal_text refusal
other_text TooLong = codes "other campaign file refused: 7 TooLong\n"
other_text (Disagree cycle cell bit) =
    codes "other campaign file refused: 8 Disagree at cycle "
    ++ (decimal cycle ++ (codes " cell " ++ (decimal cell ++ (codes " bit " ++ (decimal bit ++ codes "\n")))))

abbrev pub stopped_text : ℕ → ℕ → Text
stopped_text kept jobs = codes "stopped: " ++ (decimal kept ++ (codes " of " ++ (decimal jobs ++ codes " jobs kept\n")))

-- one line, or the usage, or nothing where the job was done
abbrev pub status_text : Status → Text
status_text status.Done = []
status_text status.Usage = usage_text
status_text status.ReadFault = codes "image could not be read\n"
status_text (status.BadImage n) = image_text n
status_text (status.BadGolden fault) = golden_text fault
status_text status.KeepFault = codes "campaign file could not be read or written\n"
status_text (status.BadKeep refusal) = keep_text refusal
status_text (status.Stopped kept jobs) = stopped_text kept jobs
status_text status.WriteFault = codes "output could not be written\n"
status_text status.NoMemory = codes "out of memory\n"
status_text (status.BadOther reason) = other_text reason
status_text status.OtherFault = codes "other campaign file could not be read\n"
status_text status.StoreFault = codes "export could not be stored\n"
