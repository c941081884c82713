use Rattle.std.specs.Prelude.{◌++◌}
use Rattle.fs_outside.proofs.Writes.{fails_after, fails_first}
use Rattle.test_files.proofs.tests_of_fs_outside.write_three.Goals as goal

pub returns-in_err-write_two-clause-bytes : goal.returns-in_err-write_two-clause-bytes
returns-in_err-write_two-clause-bytes g c =
    fails_first g.O.Sink.tells (g.O.Sink.taken c.args.out.now) (g.O.Sink.taken c.write_two.new.out) (c.args.a.now ++ c.args.b.now) c.args.c.now
    c.from_residual.result c.from_residual.ensures.0 c.in_err-write_two.ensures.bytes

pub returns-in_err-write_whole-clause-bytes : goal.returns-in_err-write_whole-clause-bytes
returns-in_err-write_whole-clause-bytes g c =
    fails_after g.O.Sink.tells (g.O.Sink.taken c.args.out.now) (g.O.Sink.taken c.write_two.new.out) (g.O.Sink.taken c.write_whole.new.out)
    (c.args.a.now ++ c.args.b.now) c.args.c.now c.from_residual-in_err-write_whole.result c.from_residual-in_err-write_whole.ensures.0
    c.in_ok-write_two.ensures.bytes c.in_err-write_whole.ensures.bytes
