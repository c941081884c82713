use Rattle.std.proofs.Common.{arith, rules, None}
use Rattle.std.proofs.lemmas.Str.Pattern.{strip_prefix_char}
use Rattle.command_line.proofs.NumberLemmas.{no_zero}
use Rattle.command_line.proofs.number.hex_digits_of.Goals as goal

pub returns-in_err-strip_prefix : goal.returns-in_err-strip_prefix
returns-in_err-strip_prefix c =
    rw (← no_zero c.args.text.now (strip_prefix_char 48 c.args.text.now None c.in_err-strip_prefix.ensures.cases (omega arith))) (search rules)
