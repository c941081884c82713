use Rattle.std.proofs.Common.{arith, None}
use Rattle.std.proofs.lemmas.Str.Pattern.{strip_prefix_char}
use Rattle.command_line.proofs.NumberLemmas.{other_x}
use Rattle.command_line.proofs.number.after_x_of.Goals as goal

pub returns-in-None : goal.returns-in-None
returns-in-None c = other_x c.args.rest.now c.strip_prefix-in-None.result
    (strip_prefix_char 120 c.args.rest.now None c.in-None.ensures.cases (omega arith))
    (strip_prefix_char 88 c.args.rest.now c.strip_prefix-in-None.result c.strip_prefix-in-None.ensures.cases (omega arith))
