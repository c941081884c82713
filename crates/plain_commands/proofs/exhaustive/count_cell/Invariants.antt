use Rattle.std.proofs.Common.{◌≡◌, ◌+◌}
use Rattle.std.specs.Prelude.{map}
use Rattle.std.specs.List.{range_with_len}
use Rattle.fs_model.specs.Outcome.{sum_of}
use Rattle.plain_commands.specs.Counting.{AddsOutcomes}
use Rattle.plain_commands.proofs.exhaustive.count_cell.Given as goal

abbrev pub invariant-loop-bit : goal.invariant-loop-bit
invariant-loop-bit l = record {
  machine : l.machine.case ≡ l.case;
  counts : AddsOutcomes l.case (map (λ bit. record { cycle = l.cycle; cell = l.cell; bit = bit }) (range_with_len 0 l.bit)) l.fn.totals l.totals;
  sum : sum_of l.totals ≡ sum_of l.fn.totals + l.bit;
}
