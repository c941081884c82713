use Rattle.std.proofs.Common.{[], ◌∷◌, ℕ, List}
use Rattle.std.specs.Prelude.{codes}
use Rattle.fs_outside.proofs.Writes.{fails_first}
use Rattle.fs_model.specs.Outcome.{all_outcomes, total_at}
use Rattle.report.specs.Text.{lines_text, outcomes_text}
use Rattle.report.proofs.Behind.{behind}
use Rattle.report.proofs.lines.write_window.Goals as goal

abbrev front : ℕ → ℕ → ℕ → List ℕ
front instructions inside sites =
    lines_text ((codes "instructions", instructions) ∷ (codes "window", inside) ∷ (codes "sites", sites) ∷ [])

pub returns-in_err-write_lines-clause-bytes : goal.returns-in_err-write_lines-clause-bytes
returns-in_err-write_lines-clause-bytes g c =
    fails_first g.O.Sink.tells (g.O.Sink.taken c.args.out.now) (g.O.Sink.taken c.write_lines.new.out) (front c.args.instructions c.args.inside c.args.sites)
    (outcomes_text all_outcomes (total_at c.args.totals.now)) c.from_residual.result c.from_residual.ensures.0 c.in_err-write_lines.ensures.bytes

pub returns-clause-bytes : goal.returns-clause-bytes
returns-clause-bytes g c =
    behind g.O.Sink.tells (g.O.Sink.taken c.args.out.now) (g.O.Sink.taken c.write_lines.new.out) (g.O.Sink.taken c.write_totals.new.out) (front c.args.instructions c.args.inside c.args.sites)
    (outcomes_text all_outcomes (total_at c.args.totals.now)) c.write_totals.result c.in_ok-write_lines.ensures.bytes c.write_totals.ensures.bytes
