use Rattle.std.proofs.Common.{◌≡◌, ◌++◌}
use Rattle.debug_session.specs.Words.{registers_words}
use Rattle.debug_session.proofs.words.put_registers.Given as goal

abbrev pub invariant-loop-number : goal.invariant-loop-number
invariant-loop-number l = l.text.items ≡ l.fn.text.items ++ registers_words l.injected l.golden l.number
