-- Totals that grow by the outcomes of sites.
use Rattle.std.specs.Prelude.{◌≡◌, ℕ, ◌+◌, List, length, filter}
use Rattle.fs_model.specs.declared.sites.Site.{Site}
use Rattle.fs_model.specs.declared.outcomes.Outcome.{Outcome}
use Rattle.fs_model.specs.Case.{CaseData}
use Rattle.fs_model.specs.Outcome.{TotalsData, total_at, sum_of, outcome, same_outcome}

-- how many of these sites have the outcome
abbrev pub count_among : CaseData → List Site → Outcome → ℕ
count_among c sites o = length (filter (λ site. same_outcome (outcome c site) o) sites)

-- the new totals count these sites beside what the old ones counted
pub record AddsOutcomes (c : CaseData) (sites : List Site) (old new : TotalsData) : Type 0 where
  pub each : (o : Outcome) → total_at new o ≡ total_at old o + count_among c sites o
  pub sum : sum_of new ≡ sum_of old + length sites
