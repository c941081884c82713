use Rattle.std.proofs.Common.{true, false}
use Rattle.std.specs.Prelude.{codes}
use Rattle.fs_outside.proofs.Writes.{fails_first}
use Rattle.report.specs.SymbolLines.{counts_in}
use Rattle.report.specs.Symbols.{group_text}
use Rattle.report.proofs.Behind.{behind}
use Rattle.report.proofs.symbols.write_groups.Goals as goal

pub returns-in_err-write_group-clause-bytes : goal.returns-in_err-write_group-clause-bytes
returns-in_err-write_group-clause-bytes g c =
    fails_first g.O.Sink.tells (g.O.Sink.taken c.args.out.now) (g.O.Sink.taken c.write_group.new.out) (group_text true (codes "function") (codes "(dead)") c.args.symbols.now (counts_in c.args.functions.now))
    (group_text false (codes "object") (codes "(registers)") c.args.symbols.now (counts_in c.args.objects.now)) c.from_residual.result c.from_residual.ensures.0 c.in_err-write_group.ensures.bytes

pub returns-clause-bytes : goal.returns-clause-bytes
returns-clause-bytes g c =
    behind g.O.Sink.tells (g.O.Sink.taken c.args.out.now) (g.O.Sink.taken c.write_group.new.out) (g.O.Sink.taken c.write_group-2.new.out) (group_text true (codes "function") (codes "(dead)") c.args.symbols.now (counts_in c.args.functions.now))
    (group_text false (codes "object") (codes "(registers)") c.args.symbols.now (counts_in c.args.objects.now)) c.write_group-2.result c.in_ok-write_group.ensures.bytes c.write_group-2.ensures.bytes
