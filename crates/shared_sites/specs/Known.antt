-- Places of sites whose outcome is known.
use Rattle.std.specs.Prelude.{◌≡◌, ◌≤◌, List, length, All, IfSome}
use Rattle.fs_model.specs.Case.{CaseData}
use Rattle.fs_model.specs.Outcome.{outcome}
use Rattle.shared_sites.specs.declared.parts.Place.{Place}

-- a place is empty or has the outcome of its site
abbrev pub IsKnownSite : CaseData → Place → Type 0
IsKnownSite c p = IfSome p.outcome (λ o. o ≡ outcome c p.site)

pub record AreKnownSites (c : CaseData) (places : List Place) : Type 0 where
  pub some : 1 ≤ length places
  pub each : All (λ p. IsKnownSite c p) places
