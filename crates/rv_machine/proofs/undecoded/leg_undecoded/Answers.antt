use Rattle.std.proofs.Common.{◌≡◌, ◌+◌, ◌-◌, true, false, sym, ap, ◌∙◌, subst, arith}
use Rattle.fs_model.specs.Machine.{Core, turn}
use Rattle.fs_model.specs.Leg.{is_went}
use Rattle.rv_machine.specs.Cores.{core_of}
use Rattle.rv_machine.specs.Loops.{IsEnd, IsRest}
use Rattle.rv_machine.proofs.Loops.{rest_more, end_told}
use Rattle.rv_machine.proofs.undecoded.leg_undecoded.Goals as goal

pub returns-then-is_went-clause-rest : goal.returns-then-is_went-clause-rest
returns-then-is_went-clause-rest c =
    let before : Core = core_of c.args.state.now in
    let s : Core = core_of c.leg_of_ram-told.new.state in
    let left = c.leg_of_ram-told.result.1 in
    let one : left + 1 - 1 ≡ left = omega arith in
    let rest : IsRest c.args.program.now before c.args.most s (left + 1) = rw c.in_default.is at c.leg_of_ram-told.ensures.rest in
    let event = c.turn_undecoded-event.ensures.event in
    let went : is_went (turn c.args.program.now s).event ≡ true = sym (ap is_went event) ∙ sym c.is_went.ensures ∙ c.if-is_went.true in
    rw c.turn_undecoded-event.ensures.core
    (subst (λ n. IsRest c.args.program.now before c.args.most (turn c.args.program.now s).core n) one
    (rest_more _ _ _ s (left + 1) rest (omega arith) went))

pub returns-else-is_went-clause-ends : goal.returns-else-is_went-clause-ends
returns-else-is_went-clause-ends c =
    let before : Core = core_of c.args.state.now in
    let s : Core = core_of c.leg_of_ram-told.new.state in
    let left = c.leg_of_ram-told.result.1 in
    let one : left + 1 - 1 ≡ left = omega arith in
    let rest : IsRest c.args.program.now before c.args.most s (left + 1) = rw c.in_default.is at c.leg_of_ram-told.ensures.rest in
    let event = c.turn_undecoded-event.ensures.event in
    let tells : is_went (turn c.args.program.now s).event ≡ false = sym (ap is_went event) ∙ sym c.is_went.ensures ∙ c.if-is_went.false in
    rw (event, c.turn_undecoded-event.ensures.core)
    (subst (λ n. IsEnd c.args.program.now before c.args.most (turn c.args.program.now s).event (turn c.args.program.now s).core n) one
    (end_told _ _ _ s (left + 1) rest (omega arith) tells))
