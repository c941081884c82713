use Rattle.std.proofs.Common.{length, ap, ◌∙◌}
use Rattle.std.proofs.lemmas.List.{length-map}
use Rattle.std.proofs.lemmas.List.FromFn.{length-range_with_len}
use Rattle.std.specs.List.{range_with_len}
use Rattle.window_counts.proofs.windows.Window.of_cycles.Goals as goal

pub returns-clause-cycles : goal.returns-clause-cycles
returns-clause-cycles c = ap length c.in_ok-before.ensures.window ∙ length-map (range_with_len 0 c.args.cycles) _ ∙ length-range_with_len 0 c.args.cycles
