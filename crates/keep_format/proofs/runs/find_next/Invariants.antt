use Rattle.std.proofs.Common.{length}
use Rattle.std.specs.Prelude.{All, ◌∷◌}
use Rattle.keep_format.specs.Runs.{Ascends, joined, with_first}
use Rattle.keep_format.proofs.RunWalk.{Walked}
use Rattle.keep_format.proofs.runs.find_next.Given as goal

abbrev pub invariant-rows : goal.invariant-rows
invariant-rows l = record {
  walked : Walked (joined l.initial.fronts) (l.fn.row ∷ l.initial.rest) (with_first l.next l.rest) l.last l.fronts;
  ascend : All Ascends l.fronts;
}

abbrev pub decreases-rows : goal.decreases-rows
decreases-rows l = length (with_first l.next l.rest)
