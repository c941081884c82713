use Rattle.std.proofs.Common.{◌≡◌, ◌+◌, ◌*◌, ◌++◌, length}
use Rattle.phases.specs.Demo.{block_bytes, state_after}
use Rattle.phases.proofs.demo.put_blocks.Given as goal

abbrev pub invariant-loop-i : goal.invariant-loop-i
invariant-loop-i l = record {
  state_is : l.state ≡ state_after l.fn.seed l._i;
  bytes : l.code.items ≡ l.fn.code.items ++ block_bytes l.fn.seed l._i;
  len : length l.code.items ≡ length l.fn.code.items + 4 * l._i;
}
