-- What the options of a line say: values, and what is asked of an image.
use Rattle.std.specs.Prelude.{ℕ, Bool, List, Option, Some, None, codes, if◌then◌else◌, is_none, is_some, map, option_and_then, option_map, string_bytes}
use Rattle.std.specs.Borrow.{Bor}
use Rattle.fs_model.specs.Map.{MapData, map_fault}
use Rattle.fs_model.specs.Case.{max_limit}
use Rattle.fs_model.specs.Pages.{max_page}
use Rattle.command_line.specs.Number.{number, within}
use Rattle.command_line.specs.Region.{region}
use Rattle.command_line.specs.Ranges.{default_page, default_seed, max_seed}
use Rattle.command_line.specs.Shard.{shard_of}
use Rattle.command_line.specs.Commands.{Text, defaults_of, format_named}
use Rattle.command_line.specs.declared.commands.Command.{Command}
use Rattle.command_line.specs.declared.commands.Format.{Format}
use Rattle.command_line.specs.declared.commands.Format.TheVariants.{Text as AsText}
use Rattle.command_line.specs.declared.commands.OptionSet.{OptionSet}
use Rattle.command_line.specs.declared.line.CaseLine.{CaseLine}
use Rattle.command_line.specs.declared.region.Region.{Region}

-- what is asked of an image: the words of the files, where ROM and RAM lie, how many instructions a run may take, whether the pc is a
-- cell, and whether code may be in RAM
pub record CaseLineData : Type 0 where
  pub files : List Text
  pub map : MapData
  pub limit : ℕ
  pub pc_cell : Bool
  pub ram_code : Bool

abbrev pub case_of : CaseLine → CaseLineData
case_of asked = record {
  files = map string_bytes asked.files.now;
  map = asked.map;
  limit = asked.limit;
  pc_cell = asked.pc_cell;
  ram_code = asked.ram_code;
}

-- what was given, by name: the text of an option, `true` for a flag, and none for what was not given
abbrev pub Texts : Type 0
Texts = Text → Option Text

-- the text that a reference points to, if there is one
abbrev pub text_in : Option (Bor Text) → Option Text
text_in = option_map (λ s. s.now)

-- ---- values, and what is meant where an option is missing

abbrev pub region_or : Region → Option Text → Option Region
region_or default None = Some default
region_or default (Some text) = region text

-- a number from `least` to `most`
abbrev pub number_or : ℕ → ℕ → ℕ → Option Text → Option ℕ
number_or default least most None = Some default
number_or default least most (Some text) = within least most (number text)

-- the same, where an option that is missing has no number
abbrev pub number_or_none : ℕ → ℕ → Option Text → Option (Option ℕ)
number_or_none least most None = Some None
number_or_none least most (Some text) = option_map (λ n. Some n) (within least most (number text))

-- the shard, where an option that is missing has none
abbrev pub shard_or_none : Option Text → Option (Option (ℕ × ℕ))
shard_or_none None = Some None
shard_or_none (Some text) = option_map (λ s. Some s) (shard_of text)

abbrev pub format_or : Command → Option Text → Option Format
format_or c None = Some AsText
format_or c (Some text) = format_named c text

abbrev pub map_of : Region → Region → MapData
map_of rom ram = record { rom_base = rom.base; rom_size = rom.size; ram_base = ram.base; ram_size = ram.size }

-- the two regions break no rule of a map
abbrev pub is_map : Region → Region → Bool
is_map rom ram = is_none (map_fault rom.base rom.size ram.base ram.size)

abbrev pub map_in : OptionSet → Texts → Option MapData
map_in set given =
    option_and_then (λ rom.
    option_and_then (λ ram. if is_map rom ram then Some (map_of rom ram) else None)
    (region_or (defaults_of set).ram (given (codes "ram"))))
    (region_or (defaults_of set).rom (given (codes "rom")))

-- what the words of the files and the texts of the options of a case say, with the defaults of these options
abbrev pub case_said : OptionSet → List Text → Texts → Option CaseLineData
case_said set files given =
    option_and_then (λ map.
    option_map (λ limit. record {
      files = files;
      map = map;
      limit = limit;
      pc_cell = is_some (given (codes "pc"));
      ram_code = is_some (given (codes "ram-code"));
    })
    (number_or (defaults_of set).limit 1 max_limit (given (codes "limit"))))
    (map_in set given)

-- ---- options of several commands

abbrev pub page_said : Texts → Option ℕ
page_said given = number_or default_page 1 max_page (given (codes "page"))

abbrev pub seed_said : Texts → Option ℕ
seed_said given = number_or default_seed 0 max_seed (given (codes "seed"))

abbrev pub format_said : Command → Texts → Option Format
format_said c given = format_or c (given (codes "format"))
