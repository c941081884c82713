use Rattle.std.proofs.Common.{◌≡◌, take}
use Rattle.serde_json.specs.View.{members_view}
use Rattle.fs_model.specs.Outcome.{all_outcomes, total_at}
use Rattle.report.specs.JsonMembers.{with_outcomes}
use Rattle.report.proofs.json.put_totals.Given as goal

abbrev pub invariant-loop-outcome : goal.invariant-loop-outcome
invariant-loop-outcome l =
    members_view l.members.entries
    ≡ with_outcomes (total_at l.totals) (members_view l.initial.members.entries) (take l.outcome-index all_outcomes)
