use Rattle.std.proofs.Common.{ℕ, ◌<◌, ◌^◌, slice_index}
use Rattle.counting_loops.specs.Rounds.{AllComeBack}
use Rattle.counting_loops.proofs.rounds.all_come_back.Given as goal

abbrev pub invariant-loop-k : goal.invariant-loop-k
invariant-loop-k l = record {
  back : AllComeBack l.before l.after l.first l.next l.k;
  low : (j : ℕ) → j < l.k → slice_index l.first j < 2 ^ 32;
}
