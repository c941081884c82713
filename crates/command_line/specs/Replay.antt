-- Which words are a line of `fail_replay`, and what it says.
use Rattle.std.specs.Prelude.{ℕ, ◌^◌, ◌-◌, List, [], ◌∷◌, Option, Some, None, codes, drop, if◌then◌else◌, option_and_then, option_map, slice_get, unwrap_or}
use Rattle.std.specs.List.{prefix_len}
use Rattle.std.specs.Str.{bytes_eq}
use Rattle.fs_model.specs.declared.sites.Site.{Site}
use Rattle.command_line.specs.Commands.{Text}
use Rattle.command_line.specs.Line.{case_from, is_file_word}
use Rattle.command_line.specs.Number.{number, within}
use Rattle.command_line.specs.Said.{CaseLineData, case_of}
use Rattle.command_line.specs.declared.replay.ReplayLine.{ReplayLine}
use Rattle.command_line.specs.declared.replay.View.{View}
use Rattle.command_line.specs.declared.replay.View.TheVariants.{FromFlip, Whole, Brief}

-- IMAGE and the words of the sites, as files, and the options; which instructions are shown, and of which sites
pub record ReplayData : Type 0 where
  pub case : CaseLineData
  pub view : View
  pub sites : List Site

abbrev pub replay_data : ReplayLine → ReplayData
replay_data l = record { case = case_of l.case; view = l.view; sites = l.sites.items }

abbrev pub view_named : Text → Option View
view_named word = if bytes_eq word (codes "--whole") then Some Whole else if bytes_eq word (codes "--brief") then Some Brief else None

-- the view that the word after the program's name asks for, if it asks for one
abbrev pub view_in : List Text → Option View
view_in words = option_and_then view_named (slice_get words 1)

-- how many words stand before IMAGE
abbrev pub image_place : Option View → ℕ
image_place None = 1
image_place (Some view) = 2

-- a site by its three words, numbers of 32 bits and one of 8
abbrev pub site_in : Text → Text → Text → Option Site
site_in cycle cell bit =
    option_and_then (λ t.
    option_and_then (λ c.
    option_map (λ b. record { cycle = t; cell = c; bit = b })
    (within 0 (2 ^ 8 - 1) (number bit)))
    (within 0 (2 ^ 32 - 1) (number cell)))
    (within 0 (2 ^ 32 - 1) (number cycle))

abbrev pub site_onto : Option Site → Option (List Site) → Option (List Site)
site_onto site = option_and_then (λ sites. option_map (λ s. s ∷ sites) site)

-- the sites that the words name
abbrev pub sites_in : List Text → Option (List Site)
sites_in [] = Some []
sites_in (cycle ∷ []) = None
sites_in (cycle ∷ cell ∷ []) = None
sites_in (cycle ∷ cell ∷ bit ∷ rest) = site_onto (site_in cycle cell bit) (sites_in rest)

-- one site at least
abbrev pub some_sites : List Text → Option (List Site)
some_sites [] = None
some_sites (word ∷ words) = sites_in (word ∷ words)

abbrev pub replay_from : View → ℕ → List Text → Option ReplayData
replay_from view place words =
    option_and_then (λ (asked : CaseLineData).
    option_map (λ sites. record { case = asked; view = view; sites = sites })
    (some_sites (drop 1 asked.files)))
    (case_from place (prefix_len is_file_word (drop place words)) words)

-- what the words say, the program's name first, if they are a line: which view is asked for, IMAGE, then CYCLE, CELL and BIT of each
-- site, and then the options of a case
abbrev pub replay_line : List Text → Option ReplayData
replay_line words = replay_from (unwrap_or (view_in words) FromFlip) (image_place (view_in words)) words
