-- What a sample says of a case.
use Rattle.std.specs.Prelude.{ℕ, ◌==◌, if◌then◌else◌, List}
use Rattle.fs_model.specs.declared.sites.Site.{Site}
use Rattle.fs_model.specs.Case.{CaseData}
use Rattle.fs_model.specs.Run.{cycles}
use Rattle.report.specs.Text.{sample_text}
use Rattle.campaign.specs.Sampled.{count_in, drawn_sites, population}
use Rattle.command_line.specs.Request.{DrawsData}

-- how many sites are drawn: as many as are asked for, where there is one to draw from
abbrev pub draws : ℕ → ℕ → ℕ
draws population asked = if population == 0 then 0 else asked

-- the sites that the seed draws, of all sites or of the live ones
abbrev pub sites_drawn : DrawsData → CaseData → List Site
sites_drawn asked c = drawn_sites c asked.live asked.seed asked.count

-- The number of instructions of the golden run, how many sites there are to draw from, how many are drawn, and how many of exactly
-- these have each outcome, each by a run of its own from the first instruction. A site that is drawn again counts again.
abbrev pub sample_of : DrawsData → CaseData → List ℕ
sample_of asked c =
    sample_text (cycles c) (population c asked.live) (draws (population c asked.live) asked.count) (count_in c (sites_drawn asked c))
