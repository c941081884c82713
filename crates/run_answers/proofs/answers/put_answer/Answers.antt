use Rattle.std.proofs.Common.{◌≡◌, List, ℕ, subst, ap, ◌∙◌}
use Rattle.fs_model.specs.Case.{CaseData}
use Rattle.run_answers.specs.Answers.{answer_with, outcome_with}
use Rattle.run_answers.specs.Line.{line_with}
use Rattle.run_answers.specs.Reference.{IsReferenceOf}
use Rattle.run_answers.proofs.Outcomes.{line_is}
use Rattle.run_answers.proofs.answers.put_answer.Goals as goal

pub returns-clause-text : goal.returns-clause-text
returns-clause-text c =
    let r = c.reference.inside in
    let case = c.args.reference.now in
    let job = c.args.job.now in
    let last = c.in_ok-last.last in
    let o = c.outcome_of-outcome.result in
    let i : IsReferenceOf case r.golden.now r.snaps.now = subst (λ (x : CaseData). IsReferenceOf x r.golden.now r.snaps.now) c.reference.view_is c.reference.invariant in
    let is : o ≡ outcome_with r.golden.now.exit r.golden.now.output c.run_job.new.output.items last =
    c.outcome_of-outcome.ensures ∙ ap (λ (x : List ℕ). outcome_with r.golden.now.exit r.golden.now.output x last) c.deref.ensures.value in
    let line = ap (λ (x : List ℕ). line_with job o (answer_with x last)) c.deref-2.ensures.value ∙ line_is case r.golden.now job _ last o i.golden_is c.in_ok-last.ensures.answer is in
    rw (← line) c.add_line.ensures
