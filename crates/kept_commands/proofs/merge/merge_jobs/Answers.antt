use Rattle.std.proofs.Common.{◌≡◌, false, inl, Ok, refl, sym, subst, ◌∙◌}
use Rattle.fs_outside.specs.Past.{content}
use Rattle.result_keeper.specs.Acceptance.{accept}
use Rattle.shard_merge.specs.Union.{BoardData, union}
use Rattle.phases.specs.Failures.{status_for, status_of}
use Rattle.phases.proofs.Left.{left_by}
use Rattle.phases.proofs.Outputs.{reworded, silent_story}
use Rattle.phases.proofs.Reported.{halts}
use Rattle.kept_commands.specs.Merge.{BoardAtEnd, MergeSays}
use Rattle.kept_commands.proofs.Crashes.{nothing}
use Rattle.kept_commands.proofs.Merged.{file_cause, file_others, file_says, merge_story, no_other_cause, no_other_end, no_other_keeps, no_other_silent, no_other_union}
use Rattle.kept_commands.proofs.Together.{other_given}
use Rattle.kept_commands.proofs.Trusted.{board_right, same_board, sound_right}
use Rattle.kept_commands.proofs.merge.merge_jobs.Goals as goal

pub returns : goal.returns
returns g c =
    let asked = c.args.merging.now in
    let base = c.args.baseline.now in
    let past = g.D.Disk.past c.args.disk.now in
    let other = g.T.Source.left c.args.second.now in
    let read = c.in_ok-other.ensures in
    let ran = c.merge_board-answer.ensures in
    let board = c.in_ok-other.other in
    let others = file_others g.D.Disk.tells (content past) board base.case (status_of c.merge_board-answer.result) ran.cause in
    record {
      cause = file_cause g.D.Disk.tells g.T.Source.tells (content past) other base.case board read.board (status_of c.merge_board-answer.result) (halts base.case base.golden c.facts.ensures.runs) ran.cause;
      output = reworded _ _ g.O.Sink.taken g.O.Sink.faults _ (MergeSays asked.format (content past) other base.case) c.args.out.now c.merge_board-answer.new.out (status_of c.merge_board-answer.result)
          (λ told. (told.0, told.1.1)) (λ told text says. file_says g.D.Disk.tells g.T.Source.tells (content past) other base.case board read.board asked.format text told.1.0 says) ran.output;
      others = rw others read.faults;
      keeps = ran.keeps;
      story = λ told. merge_story g.T.Source.tells asked.page other base.case board past (g.D.Disk.past c.merge_board-answer.new.disk) (status_of c.merge_board-answer.result) c.facts.ensures.card
          (λ t. other_given other base.case board (read.board t)) (ran.story told);
      union = λ tells told sound each kept others kept_is others_are.
          let gives : accept other base.case ≡ Ok board = other_given other base.case board (read.board told) in
          let same : others ≡ board = same_board board others (sym gives ∙ others_are) in
          subst (λ (o : BoardData). BoardAtEnd base.case (union kept o) (g.D.Disk.past c.merge_board-answer.new.disk) (status_of c.merge_board-answer.result)) (sym same)
          (ran.union tells (board_right base.case false other board gives (λ _. sound_right base.case other c.facts.ensures.card sound)) each kept kept_is);
    }

pub returns-in_err-other : goal.returns-in_err-other
returns-in_err-other g c =
    let base = c.args.baseline.now in
    let past = g.D.Disk.past c.args.disk.now in
    let other = g.T.Source.left c.args.second.now in
    let answer = status_for c.in_err-other.field-0.0 in
    let why = c.in_err-other.ensures.refused in
    let keeps = no_other_keeps g.D.Disk.tells g.T.Source.tells (content past) other base.case answer why in
    rw (left_by c.from_residual.result c.in_err-other.field-0.0 c.from_residual.ensures.1)
    (record {
      cause = no_other_cause g.D.Disk.tells g.T.Source.tells (content past) other base.case answer (halts base.case base.golden c.facts.ensures.runs) why;
      output = silent_story _ g.O.Sink.taken g.O.Sink.faults _ c.args.out.now answer (no_other_silent g.D.Disk.tells g.T.Source.tells (content past) other base.case answer why);
      others = c.in_err-other.ensures.faults;
      keeps = rw keeps refl;
      story = λ told. nothing _ _ _ _ _ _ past past answer refl (λ sure image was. inl was) (λ _. no_other_end g.D.Disk.tells g.T.Source.tells (content past) other base.case _ _ past answer refl why);
      union = λ tells told sound each kept others kept_is others_are. no_other_union g.D.Disk.tells g.T.Source.tells (content past) other base.case _ past answer why;
    })
