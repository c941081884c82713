-- States that are those of sites.
use Rattle.std.specs.Prelude.{ℕ, ◌≡◌, ◌<◌, List}
use Rattle.fs_model.specs.declared.sites.Site.{Site}
use Rattle.fs_model.specs.Case.{CaseData}
use Rattle.fs_model.specs.Machine.{Core}
use Rattle.fs_model.specs.Cell.{IsCell, bits, flip}
use Rattle.fs_model.specs.Run.{ending}
use Rattle.known_states.specs.declared.single_bits.Apart.{Apart}
use Rattle.known_states.specs.declared.single_bits.Apart.TheVariants.{InBit, Nowhere}

-- runs from this state end as runs from the base do
pub record EndsAlike (c : CaseData) (base now : Core) : Type 0 where
  pub ends : (k : ℕ) (output : List ℕ) → ending c k (record { core = now; output = output }) ≡ ending c k (record { core = base; output = output })

-- the site is one of this cycle, and runs from this state end as runs from the base with the site's bit flipped do
pub record EndsFlipped (c : CaseData) (base now : Core) (cycle : ℕ) (site : Site) : Type 0 where
  pub cycle_is : site.cycle ≡ cycle
  pub cell : IsCell c site.cell
  pub bit : site.bit < bits site.cell
  pub ends : (k : ℕ) (output : List ℕ) → ending c k (record { core = now; output = output })
      ≡ ending c k (record { core = flip base site.cell site.bit; output = output })

-- how runs from this state, at this cycle, end by what it differs in from the base
abbrev pub IsDifference : CaseData → Core → Core → ℕ → Apart → Type 0
IsDifference c base now cycle Nowhere = EndsAlike c base now
IsDifference c base now cycle (InBit site) = EndsFlipped c base now cycle site
