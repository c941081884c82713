use Rattle.std.proofs.Common.{ap, sym, take, true, false, string_bytes, ◌∙◌}
use Rattle.command_line.proofs.LineLemmas.{files_read}
use Rattle.command_line.proofs.words.files_of.Goals as goal

pub returns-then-are_file_words : goal.returns-then-are_file_words
returns-then-are_file_words c = sym (files_read string_bytes c.args.place c.args.n c.args.words.now c.split_at-2.result.0.now true c.if-words-place.false
    (c.split_at-2.ensures.front ∙ ap (take c.args.n) c.split_at.ensures.back) c.if-are_file_words.ensures)

pub returns-else-are_file_words : goal.returns-else-are_file_words
returns-else-are_file_words c = sym (files_read string_bytes c.args.place c.args.n c.args.words.now c.split_at-2.result.0.now false c.if-words-place.false
    (c.split_at-2.ensures.front ∙ ap (take c.args.n) c.split_at.ensures.back) c.if-are_file_words.ensures)
