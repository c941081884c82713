-- The index of a page: the names of its jobs in order, each with its place.
use Rattle.std.specs.Prelude.{◌≡◌, ℕ, ◌^◌, ◌≤◌, ◌<◌, ◌==◌, nat_lt, ◌&&◌, ◌||◌, Bool, false, List, length, Contains, Some, slice_get}
use Rattle.fs_model.specs.declared.sites.Site.{Site}
use Rattle.fs_model.specs.Site.{same_site}
use Rattle.result_desk.specs.declared.pages.Named.{Named}

-- one comes before the other: by their names, and then by their places
unfoldable pub is_below : Named → Named → Bool
is_below a b =
    nat_lt a.cycle b.cycle || (a.cycle == b.cycle &&
    (nat_lt a.cell b.cell || (a.cell == b.cell && (nat_lt a.bit b.bit || (a.bit == b.bit && nat_lt a.place b.place)))))

abbrev pub with_place : Site → ℕ → Named
with_place site place = record { cycle = site.cycle; cell = site.cell; bit = site.bit; place = place }

abbrev pub named_site : Named → Site
named_site a = record { cycle = a.cycle; cell = a.cell; bit = a.bit }

-- this is its name
abbrev pub is_of : Named → Site → Bool
is_of a site = same_site (named_site a) site

-- each name is at its own place
pub record AreNamed (sites : List Site) (index : List Named) : Type 0 where
  pub long : length index ≡ length sites
  pub each : (k : ℕ) (site : Site) → slice_get sites k ≡ Some site → slice_get index k ≡ Some (with_place site k)

-- none comes before an earlier one
abbrev pub IsUp : List Named → Type 0
IsUp index = (i j : ℕ) (a b : Named) → i ≤ j → slice_get index i ≡ Some a → slice_get index j ≡ Some b → is_below b a ≡ false

-- it has just the names of the sites, in order
pub record IsIndex (sites : List Site) (index : List Named) : Type 0 where
  pub up : IsUp index
  pub each : (i : ℕ) (a : Named) → slice_get index i ≡ Some a → slice_get sites a.place ≡ Some (named_site a)
  pub all : (k : ℕ) (site : Site) → slice_get sites k ≡ Some site → Contains index (with_place site k)

-- a page with its index, and room for the most jobs in both
pub record IsPage (most : ℕ) (sites : List Site) (sites_room : ℕ) (index : List Named) (index_room : ℕ) : Type 0 where
  pub found : IsIndex sites index
  pub few : length sites ≤ most
  pub small : most < 2 ^ 32
  pub sites_fit : most ≤ sites_room
  pub index_fits : most ≤ index_room
