use Rattle.std.proofs.Common.{◌≡◌, ◌+◌, vec_len}
use Rattle.std.specs.Prelude.{All}
use Rattle.result_desk.specs.Tally.{new_tally}
use Rattle.result_desk.proofs.tallies.tallies_of.Given as goal

abbrev pub invariant-loop-i : goal.invariant-loop-i
invariant-loop-i g l = record {
  parts : l.share.parts + l._i ≡ l.hands;
  amount : l.share.amount ≡ 0;
  count : vec_len l.tallies ≡ l._i;
  tallies : All (λ t. t ≡ new_tally l.case l.page) l.tallies.items;
}
