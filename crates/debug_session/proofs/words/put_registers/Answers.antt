use Rattle.debug_session.proofs.Growing.{registers_more, registers_none}
use Rattle.debug_session.proofs.words.put_registers.Goals as goal

pub loop-number-init : goal.loop-number-init
loop-number-init c = registers_none c.args.injected.now c.args.golden.now c.args.text.now.items

pub loop-number-preserved : goal.loop-number-preserved
loop-number-preserved c =
    registers_more c.args.injected.now c.args.golden.now c.args.text.now.items c.loop-number.text.items c.put_register.new.text.items c.loop-number.number c.in_ok-put_register.ensures c.loop-number.invariant
