-- What a pass along a run found.
use Rattle.std.specs.Prelude.{ℕ, ◌==◌, ◌≤◌, if◌then◌else◌, length, Option, Some, None}
use Rattle.fs_model.specs.declared.sites.Site.{Site}
use Rattle.fs_model.specs.Case.{CaseData}
use Rattle.fs_model.specs.Cell.{flip}
use Rattle.fs_model.specs.Machine.{Core}
use Rattle.timeline.specs.declared.first_pass.Pass.{Pass}
use Rattle.timeline.specs.Kept.{AreKept}
use Rattle.timeline.specs.Timelines.{IsRunEnd}

-- what the machine holds with the flip, if it is due after n instructions
abbrev pub flipped_core : Option Site → ℕ → Core → Core
flipped_core None n s = s
flipped_core (Some site) n s = if n == site.cycle then flip s site.cell site.bit else s

pub record IsPass (c : CaseData) (flips : Option Site) (spacing : ℕ) (p : Pass) : Type 0 where
  pub some : 1 ≤ length p.kept.items
  pub states : AreKept c flips spacing p.kept.items
  pub ends : IsRunEnd c flips p.last p.end p.output.items
