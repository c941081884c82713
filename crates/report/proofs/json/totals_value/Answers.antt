use Rattle.std.proofs.Common.{◌≡◌, ap, rules, ◌∙◌}
use Rattle.serde_json.specs.Data.{object}
use Rattle.serde_json.specs.View.{members_view}
use Rattle.serde_json.proofs.Views.{view-Object}
use Rattle.fs_model.specs.Outcome.{all_outcomes, total_at}
use Rattle.report.specs.JsonMembers.{with_outcomes}
use Rattle.report.proofs.JsonLemmas.{first_members, text_at}
use Rattle.report.proofs.json.totals_value.Goals as goal

pub returns-clause-text : goal.returns-clause-text
returns-clause-text c =
    let counts = total_at c.args.totals.now in
    let start = first_members c.args.instructions c.args.sites in
    let all : members_view c.put_totals.new.members.entries ≡ with_outcomes counts start all_outcomes = search rules in
    text_at _ c.args.instructions c.args.sites counts (view-Object c.put_totals.new.members ∙ ap object all)
