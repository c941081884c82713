use Rattle.std.proofs.Common.{◌≡◌, List, ℕ, string_bytes, ap, ◌∙◌, rules}
use Rattle.serde_json.specs.Data.{Data, put}
use Rattle.serde_json.specs.View.{view, members_view}
use Rattle.serde_json.proofs.Views.{members_view-insert_entry}
use Rattle.report.proofs.json.put_number.Goals as goal

pub returns : goal.returns
returns c =
    let old = c.args.members.now.entries in
    let copied : string_bytes c.in_ok-name.name ≡ c.args.key.now = search rules in
    ap members_view c.in_ok-insert.ensures.entries ∙ members_view-insert_entry old c.in_ok-name.name c.from.result
    ∙ ap (λ (k : List ℕ). put k (view c.from.result) (members_view old)) copied ∙ ap (λ (d : Data). put c.args.key.now d (members_view old)) c.from.ensures
