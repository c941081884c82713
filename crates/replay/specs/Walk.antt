-- What is known of an injected run once it was walked along beside the run without a flip.
use Rattle.std.specs.Prelude.{◌≡◌, ℕ, Bool, bytes_eq, if◌then◌else◌, [], Option, Some, None}
use Rattle.std.specs.Option.{option_or}
use Rattle.fs_model.specs.declared.events.Event.{Event}
use Rattle.fs_model.specs.declared.sites.Site.{Site}
use Rattle.fs_model.specs.Case.{CaseData}
use Rattle.fs_model.specs.Leg.{sent}
use Rattle.fs_model.specs.Run.{injected}
use Rattle.plain_commands.specs.Walk.{steps_by, end_text}
use Rattle.replay.specs.declared.walk.Walk.{Walk}
use Rattle.replay.specs.Differences.{differences}
use Rattle.replay.specs.Injected.{injected_at, steps_from}
use Rattle.replay.specs.Text.{ending_lines}
use Rattle.std.specs.Prelude.{◌++◌}
use Rattle.plain_commands.specs.Trace.{output_line}

-- `went` steps went on, the step after them told this, and so the run took this many and ends with these lines
pub record IsWalk (c : CaseData) (site : Site) (w : Walk) : Type 0 where
  pub steps : steps_by w.went w.last ≡ steps_from c site
  pub lines : ending_lines c site (injected c site) ≡ output_line (injected_at c site w.went).output ++ end_text w.last
  pub differences : w.differences ≡ differences c site (steps_from c site)

-- where it was first seen, with one place more to look at
abbrev pub seen : Option ℕ → ℕ → Bool → Option ℕ
seen before number differs = option_or before (if differs then Some number else None)

-- both steps send the same
abbrev pub send_same : Event → Event → Bool
send_same a b = bytes_eq (sent [] a) (sent [] b)
