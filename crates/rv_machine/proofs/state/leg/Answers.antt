use Rattle.std.proofs.Common.{◌≡◌, ◌+◌, arith}
use Rattle.fs_model.specs.Machine.{Core}
use Rattle.rv_machine.specs.Cores.{core_of}
use Rattle.rv_machine.specs.Loops.{IsRest}
use Rattle.rv_machine.proofs.Loops.{end_all, rest_end, rest_rest}
use Rattle.rv_machine.proofs.state.leg.Goals as goal

pub returns-in-Some-ended-clause-end : goal.returns-in-Some-ended-clause-end
returns-in-Some-ended-clause-end c =
    let before : Core = core_of c.loop-left.state in
    let s : Core = core_of c.leg_decoded-told.new.state in
    let t : Core = core_of c.leg_undecoded-ended.new.state in
    let left = c.leg_decoded-told.result.1 + 1 in
    let rest : IsRest c.args.program.now before c.loop-left.left s left = rw c.in_default.is at c.leg_decoded-told.ensures.rest in
    let ends = rw c.in-Some-ended.is at c.leg_undecoded-ended.ensures.ends in
    rest_end _ _ _ s t left _ _ (rest_rest _ _ _ before s c.loop-left.left left c.loop-left.invariant.1 rest) ends

pub loop-left-preserved : goal.loop-left-preserved
loop-left-preserved c =
    let before : Core = core_of c.loop-left.state in
    let s : Core = core_of c.leg_decoded-told.new.state in
    let t : Core = core_of c.leg_undecoded-ended.new.state in
    let left = c.leg_decoded-told.result.1 + 1 in
    let less = c.leg_undecoded-ended.result.1 in
    let rest : IsRest c.args.program.now before c.loop-left.left s left = rw c.in_default.is at c.leg_decoded-told.ensures.rest in
    let then : IsRest c.args.program.now s left t less = rw c.in_default-ended.is at c.leg_undecoded-ended.ensures.rest in
    (c.leg_undecoded-ended.ensures.marks, rest_rest _ _ _ s t left less (rest_rest _ _ _ before s c.loop-left.left left c.loop-left.invariant.1 rest) then)

pub returns-clause-end : goal.returns-clause-end
returns-clause-end c =
    let none : c.loop-left.left ≡ 0 = (let test = c.loop-left-test.false in omega arith) in
    end_all _ _ _ (core_of c.loop-left.state) (rw none at c.loop-left.invariant.1)
