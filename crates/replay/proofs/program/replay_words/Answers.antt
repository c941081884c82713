use Rattle.command_line.specs.Replay.{replay_data}
use Rattle.phases.specs.Failures.{status_for}
use Rattle.phases.proofs.SiteCauses.{of_case, of_image}
use Rattle.replay.proofs.Replayed.{replays, replays_part}
use Rattle.replay.proofs.program.replay_words.Goals as goal

pub returns-in-Ok-load_case-clause-cause : goal.returns-in-Ok-load_case-clause-cause
returns-in-Ok-load_case-clause-cause g c = λ tells.
    let answer = c.replay_case-status.ensures.cause in
    of_case _ (replay_data c.in-Ok.asked) _ c.in-Ok-load_case.loaded.case c.in-Ok.ensures.ok (c.in-Ok-load_case.ensures.loads tells) c.replay_case-status.result (rw c.as_slice-sites.ensures.value at answer)

pub returns-in-Ok-load_case-clause-said : goal.returns-in-Ok-load_case-clause-said
returns-in-Ok-load_case-clause-said g c = λ tells taken done.
    let whole = c.replay_case-status.ensures.output.whole taken done in
    replays _ (replay_data c.in-Ok.asked) _ c.in-Ok-load_case.loaded.case c.in-Ok.ensures.ok (c.in-Ok-load_case.ensures.loads tells) _ _ (rw c.as_slice-sites.ensures.value at whole)

pub returns-in-Ok-load_case-clause-part : goal.returns-in-Ok-load_case-clause-part
returns-in-Ok-load_case-clause-part g c = λ tells taken failed.
    let part = c.replay_case-status.ensures.output.part taken failed in
    replays_part _ (replay_data c.in-Ok.asked) _ c.in-Ok-load_case.loaded.case c.in-Ok.ensures.ok (c.in-Ok-load_case.ensures.loads tells) _ _ (rw c.as_slice-sites.ensures.value at part)

pub returns-clause-cause : goal.returns-clause-cause
returns-clause-cause g c = λ tells.
    rw c.status.ensures (of_image _ (replay_data c.in-Ok.asked) _ (status_for c.in-Err.failure) c.in-Ok.ensures.ok (c.in-Err.ensures.refused tells))
