use Rattle.std.proofs.Common.{arith, false, ◌∙◌}
use Rattle.std.proofs.lemmas.Str.Pattern.{starts_char}
use Rattle.command_line.proofs.NumberLemmas.{plain_numeral}
use Rattle.command_line.proofs.number.read_numeral.Goals as goal

pub returns : goal.returns
returns c = c.ok.ensures.value ∙ plain_numeral c.args.base c.args.most c.args.digits.now c.from_str_radix.result c.from_str_radix.ensures.value
    (λ e. let told = starts_char 43 c.args.digits.now false c.if-starts_with.ensures.cases (omega arith) (omega arith) in let wrong = told.1 e in cc) (omega arith)
