use Rattle.std.proofs.Common.{arith}
use Rattle.std.proofs.lemmas.Str.Pattern.{strip_prefix_char}
use Rattle.command_line.proofs.PartLemmas.{dot_stripped}
use Rattle.command_line.proofs.parts.after_dot_of.Goals as goal

pub returns : goal.returns
returns c = dot_stripped c.args.rest.now c.strip_prefix.result (strip_prefix_char 46 c.args.rest.now c.strip_prefix.result c.strip_prefix.ensures.cases (omega arith))
