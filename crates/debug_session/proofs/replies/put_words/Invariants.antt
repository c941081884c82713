use Rattle.std.proofs.Common.{◌≡◌, ◌++◌, take}
use Rattle.std.specs.List.{flat_map}
use Rattle.debug_session.specs.Texts.{word_hex}
use Rattle.debug_session.proofs.replies.put_words.Given as goal

abbrev pub invariant-loop-word : goal.invariant-loop-word
invariant-loop-word l = l.text.items ≡ l.fn.text.items ++ flat_map word_hex (take l.word-index l.words)
