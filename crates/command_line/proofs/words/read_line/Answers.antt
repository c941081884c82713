use Rattle.std.proofs.Common.{string_bytes}
use Rattle.command_line.proofs.LineLemmas.{no_command_word}
use Rattle.command_line.proofs.words.read_line.Goals as goal

pub returns-in_default-clause-usage : goal.returns-in_default-clause-usage
returns-in_default-clause-usage c _ = no_command_word string_bytes c.args.words.now c.in_default.ensures.lookup.3
