use Rattle.std.proofs.Common.{◌≡◌}
use Rattle.fs_model.specs.Run.{State, run}
use Rattle.report.specs.Buffer.{Moved}
use Rattle.replay.specs.Text.{lines_from}
use Rattle.replay.proofs.site_texts.put_lines.Given as goal

abbrev pub invariant-loop-taken : goal.invariant-loop-taken
invariant-loop-taken g l = record {
  same_case : l.machine.case ≡ l.fn.machine.case;
  here : (s : State) → s.core ≡ l.fn.machine.core → l.machine.core ≡ (run l.fn.machine.case l.taken s).core;
  faults : g.O.Sink.faults l.out ≡ g.O.Sink.faults l.fn.out;
  so_far : (s : State) → s.core ≡ l.fn.machine.core → g.O.Sink.tells → Moved (g.O.Sink.taken l.fn.out) l.fn.waiting.items (g.O.Sink.taken l.out) l.waiting.items (lines_from l.fn.machine.case l.first s l.taken);
}
