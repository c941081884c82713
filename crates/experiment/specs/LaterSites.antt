-- What is known of a run by the outcomes of sites.
use Rattle.std.specs.Prelude.{ℕ, ◌≡◌, Option, IfSome}
use Rattle.fs_model.specs.declared.sites.Site.{Site}
use Rattle.fs_model.specs.declared.outcomes.Outcome.{Outcome}
use Rattle.fs_model.specs.declared.outcomes.Outcome.TheVariants.{NoEffect}
use Rattle.fs_model.specs.Case.{CaseData}
use Rattle.fs_model.specs.Outcome.{outcome}
use Rattle.rv_machine.specs.Machines.{MachineData}
use Rattle.snapshot_store.specs.Along.{IsAt}
use Rattle.known_states.specs.declared.single_bits.Apart.{Apart}
use Rattle.known_states.specs.declared.single_bits.Apart.TheVariants.{InBit, Nowhere}

-- the case, and the site whose run is in hand
pub record LaterData : Type 0 where
  pub case : CaseData
  pub own : Site

-- a machine of the golden run at a cycle, the site's outcome, if it is known, and another site with the same outcome, if one was met
pub record IsLater (c : CaseData) (m : MachineData) (cycle sent : ℕ) (own : Site) (known : Option Outcome) (met : Option Site) : Type 0 where
  pub ahead : IsAt c cycle m sent
  pub known_is : IfSome known (λ o. o ≡ outcome c own)
  pub met_is : IfSome met (λ site. outcome c own ≡ outcome c site)

-- how a run differs from the golden run tells the outcome of its own site
abbrev pub IsToldApart : CaseData → Site → Apart → Type 0
IsToldApart c own Nowhere = outcome c own ≡ NoEffect
IsToldApart c own (InBit site) = outcome c own ≡ outcome c site
