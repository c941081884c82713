use Rattle.fs_model.specs.declared.sites.Site.{Site}
use Rattle.fs_model.specs.Job.{site_of}
use Rattle.run_answers.specs.Answers.{answer_with}
use Rattle.run_answers.proofs.Outcomes.{answer_is, IfOk_map}
use Rattle.run_answers.proofs.answers.run_job.Goals as goal

pub returns-clause-answer : goal.returns-clause-answer
unfolding site_of
returns-clause-answer c =
    let job = c.args.job.now in
    let site : Site = record { cycle = job.cycle; cell = job.cell; bit = job.bit } in
    IfOk_map _ _ _ (λ last is. answer_is c.args.reference.now site _ (answer_with c.run_to_end.new.output.items last) c.in_ok-begin.ensures.state is) c.run_to_end.ensures.answer
