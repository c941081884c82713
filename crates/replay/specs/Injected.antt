-- The run with the flip, from that on.
use Rattle.std.specs.Prelude.{ℕ, ◌-◌}
use Rattle.fs_model.specs.declared.sites.Site.{Site}
use Rattle.fs_model.specs.Case.{CaseData}
use Rattle.fs_model.specs.Run.{State, run, injected}
use Rattle.experiment.specs.Steps.{steps_of}
use Rattle.timeline.specs.Places.{from_flip}

-- the state k instructions after the flip
abbrev pub injected_at : CaseData → Site → ℕ → State
injected_at c site k = run c k (from_flip c site)

-- how many instructions it takes from the flip on, to its end or to the limit
abbrev pub steps_from : CaseData → Site → ℕ
steps_from c site = steps_of (c.limit - site.cycle) (injected c site)
