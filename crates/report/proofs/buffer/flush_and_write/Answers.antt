use Rattle.std.proofs.lemmas.Result.{MatchResult-weaker}
use Rattle.fs_outside.proofs.Writes.{fails_first, part_after, whole_after}
use Rattle.report.proofs.buffer.flush_and_write.Goals as goal

pub returns-in_err-flush-clause-bytes : goal.returns-in_err-flush-clause-bytes
returns-in_err-flush-clause-bytes g c =
    fails_first g.O.Sink.tells (g.O.Sink.taken c.args.out.now) (g.O.Sink.taken c.flush.new.out) c.args.waiting.now.items c.args.text.now
    c.from_residual.result c.from_residual.ensures.0 c.in_err-flush.ensures.bytes

pub returns-clause-bytes : goal.returns-clause-bytes
returns-clause-bytes g c = λ told.
    MatchResult-weaker c.write_whole.result (c.write_whole.ensures.bytes told)
    (λ _ whole. whole_after _ _ _ c.args.waiting.now.items c.args.text.now (c.in_ok-flush.ensures.bytes told) whole)
    (λ _ part. part_after _ _ _ c.args.waiting.now.items c.args.text.now (c.in_ok-flush.ensures.bytes told) part)
