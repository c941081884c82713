-- Which of some sites a case has.
use Rattle.std.specs.Prelude.{◌≡◌, ◌<◌, List, ◌∷◌, ◌++◌, All}
use Rattle.fs_model.specs.declared.sites.Site.{Site}
use Rattle.fs_model.specs.Case.{CaseData}
use Rattle.fs_model.specs.Cell.{IsCell, bits}
use Rattle.fs_model.specs.Run.{cycles}

-- the site is one of the case's: of an instruction of the run without a flip, a cell, and a bit of that
pub record IsSite (c : CaseData) (site : Site) : Type 0 where
  pub early : site.cycle < cycles c
  pub cell : IsCell c site.cell
  pub bit : site.bit < bits site.cell

-- it is one of the sites, the case does not have it, and has those before it
pub record IsFirstMissing (c : CaseData) (sites : List Site) (site : Site) : Type 0 where
  pub before : List Site
  pub behind : List Site
  pub sites_are : sites ≡ before ++ (site ∷ behind)
  pub all_before : All (IsSite c) before
  pub none : IsSite c site → ⊥
