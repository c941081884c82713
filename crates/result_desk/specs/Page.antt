-- The jobs of a page.
use Rattle.std.specs.Prelude.{◌≡◌, ℕ, List, length, position, Option, Some, slice_get}
use Rattle.fs_model.specs.declared.sites.Site.{Site}
use Rattle.fs_model.specs.declared.sites.Job.{Job}
use Rattle.fs_model.specs.Job.{site_of}
use Rattle.fs_model.specs.Site.{same_site}

-- the most jobs, and the names of the jobs by their places
pub record PageData : Type 0 where
  pub most : ℕ
  pub sites : List Site

-- the first place of a job with this name
abbrev pub place_of : List Site → Site → Option ℕ
place_of sites site = position (same_site site) sites

-- these are the names of the list's jobs of these numbers
pub record AreSitesOf (list : List Job) (numbers : List ℕ) (sites : List Site) : Type 0 where
  pub long : length sites ≡ length numbers
  pub each : (i n : ℕ) (job : Job) → slice_get numbers i ≡ Some n → slice_get list n ≡ Some job → slice_get sites i ≡ Some (site_of job)
