use Rattle.std.proofs.Common.{◌≡◌, ap, sym, List, ℕ, ◌++◌, codes}
use Rattle.plain_commands.specs.Walk.{end_text}
use Rattle.report.proofs.Buffered.{part_goes_on, puts_part}
use Rattle.replay.specs.Text.{outcome_line}
use Rattle.replay.proofs.Lines.{puts_behind}
use Rattle.replay.proofs.site_texts.put_end_and_outcome.Goals as goal

pub returns-in_err-put_end-clause-bytes : goal.returns-in_err-put_end-clause-bytes
returns-in_err-put_end-clause-bytes g c = λ told.
    puts_part _ _ _ _ _ c.from_residual.result c.from_residual.ensures.0
    (part_goes_on _ _ c.args.waiting.now.items (end_text c.args.last) (outcome_line c.args.outcome) (c.in_err-put_end.ensures.bytes told))

pub returns-clause-bytes : goal.returns-clause-bytes
returns-clause-bytes g c = λ told.
    let line : outcome_line c.args.outcome ≡ codes "outcome " ++ (c.word.result.now ++ codes "\n") = ap (λ (x : List ℕ). codes "outcome " ++ (x ++ codes "\n")) (sym c.word.ensures) in
    rw line (puts_behind _ _ _ _ _ _ (end_text c.args.last) (codes "outcome " ++ (c.word.result.now ++ codes "\n")) c.put_parts.result (c.in_ok-put_end.ensures.bytes told) (c.put_parts.ensures.bytes told))
