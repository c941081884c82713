use Rattle.std.proofs.Common.{rules, sym, ◌∙◌, arith}
use Rattle.rv_machine.proofs.Marks.{all_same}
use Rattle.rv_machine.proofs.blocks.same_ram.Goals as goal

pub returns : goal.returns
returns c = (
  λ yes. all_same c.args.ram.now c.args.other.now c.loop-at.at c.loop-at.invariant (omega (arith, c.loop-at-test.false)) (c.requires.ram.same_length ∙ sym c.requires.other.same_length),
  λ same. search rules,
)
