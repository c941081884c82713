use Rattle.std.proofs.Common.{ap, sym, ◌∙◌}
use Rattle.std.specs.Prelude.{slice_index}
use Rattle.fs_model.specs.Outcome.{total_at}
use Rattle.fs_model.proofs.EachOutcome.{total_at-totals_in}
use Rattle.fs_model.proofs.outcomes.Totals.get.Goals as goal

pub returns : goal.returns
returns c =
    ap (slice_index c.self.inside.numbers) c.number.ensures
    ∙ sym (total_at-totals_in c.self.inside.numbers c.args.outcome) ∙ ap (λ t. total_at t c.args.outcome) c.self.view_is
