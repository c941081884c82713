use Rattle.std.proofs.Common.{◌∙◌, sym, arith}
use Rattle.elf_symbols.proofs.Owning.{past, first_one, taken, stays, inside}
use Rattle.elf_symbols.specs.Owners.{has}
use Rattle.elf_symbols.proofs.owners.step.Goals as goal

pub value_of-requires : goal.value_of-requires
value_of-requires c = inside (has c.args.function c.args.at) c.args.symbols.now c.args.i c.in-Some.other c.args.best c.requires.best c.in-Some.is

pub returns-in-None : goal.returns-in-None
returns-in-None c = first_one (has c.args.function c.args.at) c.args.symbols.now c.args.i c.args.best c.requires.inside c.requires.best (sym c.has-here.ensures ∙ c.if-here.true) c.in-None.is

pub returns-then-value_of : goal.returns-then-value_of
returns-then-value_of c =
    taken (has c.args.function c.args.at) c.args.symbols.now c.args.i c.in-Some.other c.args.best c.requires.inside c.requires.best (sym c.has-here.ensures ∙ c.if-here.true) c.in-Some.is (omega (arith, c.if-value_of.true, c.value_of.ensures, c.value_of-in-Some.ensures))

pub returns-else-value_of : goal.returns-else-value_of
returns-else-value_of c =
    stays (has c.args.function c.args.at) c.args.symbols.now c.args.i c.in-Some.other c.args.best c.requires.inside c.requires.best (sym c.has-here.ensures ∙ c.if-here.true) c.in-Some.is (omega (arith, c.if-value_of.false, c.value_of.ensures, c.value_of-in-Some.ensures))

pub returns-else-here : goal.returns-else-here
returns-else-here c = past (has c.args.function c.args.at) c.args.symbols.now c.args.i c.args.best c.requires.inside c.requires.best (sym c.has-here.ensures ∙ c.if-here.false)
