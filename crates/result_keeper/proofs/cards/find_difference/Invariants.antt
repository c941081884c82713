use Rattle.std.proofs.Common.{◌≡◌, ◌+◌, drop}
use Rattle.std.specs.Option.{option_map}
use Rattle.result_keeper.specs.Acceptance.{difference}
use Rattle.fs_model.specs.Card.{card}
use Rattle.result_keeper.proofs.cards.find_difference.Given as goal

abbrev pub invariant-loop-i : goal.invariant-loop-i
invariant-loop-i l = option_map (λ at. at + l.i) (difference (drop l.i l.bytes) (drop l.i (card l.case))) ≡ difference l.bytes (card l.case)
