use Rattle.std.proofs.lemmas.Result.{MatchResult-weaker}
use Rattle.plain_commands.specs.Sent.{sent_from}
use Rattle.report.proofs.Buffered.{puts_part}
use Rattle.plain_commands.proofs.Sends.{of_golden}
use Rattle.plain_commands.proofs.Traced.{word_fails, digits_fails, end_fails, line_moved}
use Rattle.plain_commands.proofs.trace.put_output.Goals as goal

pub returns-in_err-put-clause-bytes : goal.returns-in_err-put-clause-bytes
returns-in_err-put-clause-bytes g c = λ told.
    rw (of_golden c.args.machine.now.case c.args.machine.now.core c.args.steps c.requires)
    (puts_part _ _ _ _ _ c.from_residual.result c.from_residual.ensures.0
    (word_fails (sent_from c.args.machine.now.case c.args.machine.now.core c.args.steps) _ _ _ c.args.waiting.now.items (c.in_err-put.ensures.bytes told)))

pub returns-in_err-any-clause-bytes : goal.returns-in_err-any-clause-bytes
returns-in_err-any-clause-bytes g c = λ told.
    rw (of_golden c.args.machine.now.case c.args.machine.now.core c.args.steps c.requires)
    (puts_part _ _ _ _ _ c.from_residual-in_err-any.result c.from_residual-in_err-any.ensures.0
    (digits_fails (sent_from c.args.machine.now.case c.args.machine.now.core c.args.steps) _ _ _ _ _ (c.in_ok-put.ensures.bytes told) (c.in_err-any.ensures.bytes told)))

pub returns-clause-bytes : goal.returns-clause-bytes
returns-clause-bytes g c = λ told.
    let output = sent_from c.args.machine.now.case c.args.machine.now.core c.args.steps in
    rw (of_golden c.args.machine.now.case c.args.machine.now.core c.args.steps c.requires)
    (MatchResult-weaker c.put-2.result (c.put-2.ensures.bytes told)
    (λ _ moved. line_moved output _ _ _ _ _ _ _ _ _ c.in_ok-any.any c.in_ok-any.ensures.some c.output_end.ensures (c.in_ok-put.ensures.bytes told) (c.in_ok-any.ensures.bytes told) moved)
    (λ _ part. end_fails output _ _ _ _ _ _ _ _ c.in_ok-any.any c.in_ok-any.ensures.some c.output_end.ensures (c.in_ok-put.ensures.bytes told) (c.in_ok-any.ensures.bytes told) part))
