use Rattle.std.proofs.Common.{◌∙◌, rules, string_bytes, tests}
use Rattle.std.proofs.lemmas.Iterator.{YieldsList-from_slice}
use Rattle.std.proofs.lemmas.Iterator.Consumers.{count_from_yields_List}
use Rattle.std.proofs.lemmas.Iterator.Search.{YieldsList-from_take_while}
use Rattle.std.proofs.lemmas.List.Folds.{length-prefix_len}
use Rattle.command_line.specs.Line.{is_file_word}
use Rattle.command_line.proofs.ReplayLemmas.{prefix_mapped}
use Rattle.command_line.proofs.replay.file_words.Goals as goal

pub returns-clause-value : goal.returns-clause-value
returns-clause-value c =
    count_from_yields_List c.take_while.result _ c.count.ensures.ran
    (YieldsList-from_take_while _ (λ word. is_file_word (string_bytes word)) (YieldsList-from_slice c.args.words.now (cc)) c.take_while.ensures.closure c.take_while.ensures.done (λ x b q k. search (rules, tests)))
    ∙ length-prefix_len (λ word. is_file_word (string_bytes word)) c.args.words.now ∙ prefix_mapped string_bytes is_file_word c.args.words.now
