use Rattle.std.proofs.Common.{◌≡◌, ◌≤◌, ◌++◌}
use Rattle.debug_session.specs.Words.{bytes_words, differing}
use Rattle.debug_session.proofs.words.put_ram.Given as goal

abbrev pub invariant-loop-offset : goal.invariant-loop-offset
invariant-loop-offset l = record {
  text : l.text.items ≡ l.fn.text.items ++ bytes_words l.base l.injected l.golden l.offset;
  count : l.count ≡ differing l.injected l.golden l.offset;
  few : l.count ≤ l.offset;
}
