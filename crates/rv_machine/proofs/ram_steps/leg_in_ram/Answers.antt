use Rattle.std.proofs.Common.{◌≡◌, ◌-◌, true, false, sym, ◌∙◌, arith}
use Rattle.fs_model.specs.Machine.{Core}
use Rattle.rv_machine.specs.Cores.{core_with}
use Rattle.rv_machine.specs.Loops.{is_plain}
use Rattle.rv_machine.proofs.Loops.{plain_ends, plain_more, end_all}
use Rattle.rv_machine.proofs.ram_steps.leg_in_ram.Goals as goal

pub returns-then-not-is_plain-clause-ends : goal.returns-then-not-is_plain-clause-ends
returns-then-not-is_plain-clause-ends c =
    let s : Core = core_with c.steps.at c.steps.regs c.steps.ram in
    let t : Core = core_with c.turn_in_ram-told.new.pc c.turn_in_ram-told.new.regs c.turn_in_ram-told.new.ram in
    let tells : is_plain c.turn_in_ram-told.result ≡ false = sym c.is_plain.ensures ∙ c.if-not-is_plain.true in
    plain_ends _ _ _ s t c.steps.left c.turn_in_ram-told.result c.steps.invariant.rest c.steps.invariant.some tells c.turn_in_ram-told.ensures.event c.turn_in_ram-told.ensures.core

pub returns-then-left-eq0-clause-ends : goal.returns-then-left-eq0-clause-ends
returns-then-left-eq0-clause-ends c =
    let s : Core = core_with c.steps.at c.steps.regs c.steps.ram in
    let t : Core = core_with c.turn_in_ram-told.new.pc c.turn_in_ram-told.new.regs c.turn_in_ram-told.new.ram in
    let went : is_plain c.turn_in_ram-told.result ≡ true = sym c.is_plain.ensures ∙ c.if-not-is_plain.false in
    let none : c.steps.left - 1 ≡ 0 = omega arith in
    let rest = plain_more _ _ _ s t c.steps.left c.turn_in_ram-told.result c.steps.invariant.rest c.steps.invariant.some went c.turn_in_ram-told.ensures.event c.turn_in_ram-told.ensures.core in
    end_all _ _ _ t (rw none at rest)

pub steps-preserved : goal.steps-preserved
steps-preserved c =
    let s : Core = core_with c.steps.at c.steps.regs c.steps.ram in
    let t : Core = core_with c.turn_in_ram-told.new.pc c.turn_in_ram-told.new.regs c.turn_in_ram-told.new.ram in
    let went : is_plain c.turn_in_ram-told.result ≡ true = sym c.is_plain.ensures ∙ c.if-not-is_plain.false in record {
      some = omega arith;
      kept = c.turn_in_ram-told.ensures.marks;
      rest = plain_more _ _ _ s t c.steps.left c.turn_in_ram-told.result c.steps.invariant.rest c.steps.invariant.some went c.turn_in_ram-told.ensures.event c.turn_in_ram-told.ensures.core;
    }
