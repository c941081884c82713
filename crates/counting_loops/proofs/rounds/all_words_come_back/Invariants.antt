use Rattle.std.proofs.Common.{ℕ, ◌<◌, slice_index_or}
use Rattle.counting_loops.specs.declared.words.Held.{Held}
use Rattle.counting_loops.specs.Rounds.{EntryComesBack}
use Rattle.counting_loops.proofs.rounds.all_words_come_back.Given as goal

abbrev pub invariant-loop-j : goal.invariant-loop-j
invariant-loop-j l = (k : ℕ) (d : Held) → k < l.j → EntryComesBack l.after l.first l.next (slice_index_or l.before k d)
