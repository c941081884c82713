use Rattle.std.proofs.Common.{◌≡◌, ◌-◌, ◌∙◌, ap, arith}
use Rattle.fs_model.specs.Case.{CaseData}
use Rattle.run_answers.proofs.Legs.{at_limit}
use Rattle.run_answers.proofs.runs.run_on.Goals as goal

pub returns-clause-answer : goal.returns-clause-answer
returns-clause-answer c =
    let limit : c.limit-limit.result ≡ c.args.reference.now.limit = c.limit-limit.ensures ∙ ap (λ (x : CaseData). x.limit) c.reference.view_is in
    let none : c.args.reference.now.limit - c.loop-at.at ≡ 0 = omega (arith, c.loop-at-test.false, limit) in
    c.loop-at.invariant.answer ∙ at_limit c.args.reference.now (c.args.reference.now.limit - c.loop-at.at) (record { core = c.loop-at.machine.core; output = c.loop-at.output.items }) none
