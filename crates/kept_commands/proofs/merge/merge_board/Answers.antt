use Rattle.std.proofs.Common.{rules, ◌≡◌, inl, true, false, List, Ok, ap, refl, sym, subst, ◌∙◌}
use Rattle.fs_outside.specs.Past.{content}
use Rattle.fs_outside.proofs.Moments.{ended}
use Rattle.fs_model.proofs.Tables.{list_of}
use Rattle.fs_model.specs.declared.sites.Job.{Job}
use Rattle.fs_model.specs.Card.{HasCard}
use Rattle.fs_model.specs.Case.{CaseData}
use Rattle.fs_model.specs.Job.{HasOutcomes, JobTable, jobs_in}
use Rattle.fs_model.specs.Outcome.{outcome}
use Rattle.result_keeper.specs.Acceptance.{HasRightOldRows, accept}
use Rattle.result_keeper.specs.Keep.{Gives}
use Rattle.shard_merge.specs.Gained.{batches_gained}
use Rattle.shard_merge.specs.Merged.{IsRightFor}
use Rattle.shard_merge.specs.Union.{BoardData, union}
use Rattle.phases.specs.Failures.{status_of}
use Rattle.phases.specs.declared.failure.Failure.TheVariants as failure
use Rattle.phases.proofs.Left.{left_by}
use Rattle.kept_commands.specs.Crash.{AsAtEntry, IsCutOff, IsWorkedOn, KeepsAtEnd, WorkedStory}
use Rattle.kept_commands.specs.Merge.{BoardAtEnd, merge_due}
use Rattle.kept_commands.proofs.Crashes.{OpensSo, nothing, opening_cut, pages_behind, read_now, retold}
use Rattle.kept_commands.proofs.Merged.{file_ends, pages_gained, union_leaves, unopened_story}
use Rattle.kept_commands.proofs.Trusted.{same_board}
use Rattle.kept_commands.proofs.merge.merge_board.Goals as goal

pub returns-in_err-merger-clause-story : goal.returns-in_err-merger-clause-story
returns-in_err-merger-clause-story g c =
    let past = g.D.Disk.past c.args.disk.now in
    λ told. rw (left_by c.from_residual.result failure.NoMemory c.from_residual.ensures.1) (nothing _ _ _ _ _ _ past past _ refl (λ sure image was. AsAtEntry was) (λ _. inl refl))

pub adopt-requires-clause-jobs : goal.adopt-requires-clause-jobs
adopt-requires-clause-jobs g c =
    ap (λ (t : JobTable). t.list) c.list.ensures ∙ list_of c.args.baseline.now.case c.args.baseline.now.list c.facts.ensures.jobs ∙ ap jobs_in (sym c.case.ensures)

pub returns-in-Ok-clause-cause : goal.returns-in-Ok-clause-cause
returns-in-Ok-clause-cause g c =
    let file = content (g.D.Disk.past c.args.disk.now) in
    file_ends g.D.Disk.tells file c.in-Ok.keeper.board c.args.other.now c.args.baseline.now.case (status_of c.merge_opened-answer.result)
    (λ told. ap (accept file) (sym c.case.ensures) ∙ c.in-Ok.ensures.board told refl) c.merge_opened-answer.ensures.cause

pub returns-in-Ok-clause-story : goal.returns-in-Ok-clause-story
returns-in-Ok-clause-story g c =
    let base = c.args.baseline.now in
    let case = c.case.result.now in
    let is : case ≡ base.case = c.case.ensures in
    let page = c.args.merging.now.page in
    let others = c.args.other.now in
    let old = g.D.Disk.past c.args.disk.now in
    let mid = g.D.Disk.past c.adopt.new.disk in
    let new = g.D.Disk.past c.merge_opened-answer.new.disk in
    let answer = status_of c.merge_opened-answer.result in
    let keeper = c.in-Ok.keeper in
    let opened = c.in-Ok.ensures in
    let ran = c.merge_opened-answer.ensures in
    let jobs : c.list.result.now.list ≡ jobs_in case =
    ap (λ (t : JobTable). t.list) c.list.ensures ∙ list_of base.case base.list c.facts.ensures.jobs ∙ ap jobs_in (sym is) in
    let list : keeper.list ≡ jobs_in case = opened.keeper.same_list ∙ jobs in
    let right : HasOutcomes (outcome case) (jobs_in case) others → IsRightFor keeper others =
    λ r. subst (λ (x : CaseData). HasOutcomes (outcome x) keeper.list others) (sym opened.keeper.same_case) (subst (λ (l : List Job). HasOutcomes (outcome case) l others) (sym list) r) in
    let left = λ (sure : Type 0). IsWorkedOn sure false (merge_due page case others) case old in
    let ends = KeepsAtEnd (IsCutOff false (merge_due page case others) case old new) (content new ≡ content old) case new answer in
    λ told.
    let accepted : accept (content old) base.case ≡ Ok keeper.board = ap (accept (content old)) (sym is) ∙ opened.board told refl in
    subst (λ (x : CaseData). WorkedStory (HasOutcomes (outcome x) (jobs_in x) others) false (merge_due page x others) x old new answer) is
    (retold (Unit {0}) (Unit {0}) (IsRightFor keeper others) (HasOutcomes (outcome case) (jobs_in case) others) ⊥ ⊥ (false ≡ false) (false ≡ false) left left ends ends old new answer
    (λ t. t) right (λ o. o) (λ s. s) (λ s. s) (λ sure image l. l) (λ r e. e)
    (pages_behind (IsRightFor keeper others) false (merge_due page case others) case old mid new keeper (batches_gained keeper others) answer
    (record { sound = opened.sound told; old_rows = opened.old_rows told; rows_stay = opened.rows_stay told; three = opened.any_moment told; kept_so = opened.any_moment_kept told })
    (subst HasCard (sym is) c.facts.ensures.card) opened.keeper.same_case (pages_gained keeper page case others list opened.keeper.same_page) (opened.file told) (opened.board told)
    (λ (never : false ≡ true). absurd (cc)) (opened.begun told) (opened.kept told)
    (union_leaves (content old) (content mid) (content new) base.case keeper.board others answer accepted (opened.same told) (ran.story told).untouched ran.cause) (ran.story told)))

pub returns-in-Ok-clause-union : goal.returns-in-Ok-clause-union
returns-in-Ok-clause-union g c =
    let base = c.args.baseline.now in
    let is = c.case.ensures in
    let others = c.args.other.now in
    let old = g.D.Disk.past c.args.disk.now in
    let mid = g.D.Disk.past c.adopt.new.disk in
    let new = g.D.Disk.past c.merge_opened-answer.new.disk in
    let answer = status_of c.merge_opened-answer.result in
    let keeper = c.in-Ok.keeper in
    let opened = c.in-Ok.ensures in
    let case : keeper.case ≡ base.case = opened.keeper.same_case ∙ is in
    let list : keeper.list ≡ jobs_in base.case =
    opened.keeper.same_list ∙ ap (λ (t : JobTable). t.list) c.list.ensures ∙ list_of base.case base.list c.facts.ensures.jobs in
    λ told right each kept kept_is.
    let same : kept ≡ keeper.board = same_board keeper.board kept (sym (opened.board told refl) ∙ ap (accept (content old)) is ∙ kept_is) in
    let right' : IsRightFor keeper others =
    subst (λ (x : CaseData). HasOutcomes (outcome x) keeper.list others) (sym case) (subst (λ (l : List Job). HasOutcomes (outcome base.case) l others) (sym list) right) in
    let gives : Gives keeper.case keeper.board (content mid) =
    subst (λ (x : CaseData). Gives x keeper.board (content mid)) (sym opened.keeper.same_case) (opened.kept told (content mid) (read_now mid (opened.file told).synced)) in
    subst (λ (b : BoardData). BoardAtEnd base.case (union b others) new answer) (sym same)
    (subst (λ (x : CaseData). BoardAtEnd x (union keeper.board others) new answer) case
    (c.merge_opened-answer.ensures.union told right' (ended old mid HasRightOldRows (opened.old_rows told each)) gives))

pub returns-in-Err-DiskFault-clause-story : goal.returns-in-Err-DiskFault-clause-story
returns-in-Err-DiskFault-clause-story g c =
    let opened = c.adopt.ensures in
    let case = c.case.result.now in
    let old = g.D.Disk.past c.args.disk.now in
    let mid = g.D.Disk.past c.adopt.new.disk in
    λ told.
    let opens : OpensSo false case old mid = record { sound = opened.sound told; old_rows = opened.old_rows told; rows_stay = opened.rows_stay told; three = opened.any_moment told; kept_so = opened.any_moment_kept told } in
    unopened_story c.args.merging.now.page case c.args.baseline.now.case c.args.other.now old mid _ c.case.ensures opens (λ l. absurd l)
    (opening_cut false (merge_due c.args.merging.now.page case c.args.other.now) case old mid opens)

pub returns-in-Err-Refused-clause-story : goal.returns-in-Err-Refused-clause-story
returns-in-Err-Refused-clause-story g c =
    let opened = c.adopt.ensures in
    λ told.
    unopened_story c.args.merging.now.page c.case.result.now c.args.baseline.now.case c.args.other.now (g.D.Disk.past c.args.disk.now) (g.D.Disk.past c.adopt.new.disk) _ c.case.ensures
    (record { sound = opened.sound told; old_rows = opened.old_rows told; rows_stay = opened.rows_stay told; three = opened.any_moment told; kept_so = opened.any_moment_kept told })
    (λ l. let err = c.in-Err-Refused.ensures.err told in search rules) tt

pub returns-clause-story : goal.returns-clause-story
returns-clause-story g c =
    let opened = c.adopt.ensures in
    λ told.
    unopened_story c.args.merging.now.page c.case.result.now c.args.baseline.now.case c.args.other.now (g.D.Disk.past c.args.disk.now) (g.D.Disk.past c.adopt.new.disk) _ c.case.ensures
    (record { sound = opened.sound told; old_rows = opened.old_rows told; rows_stay = opened.rows_stay told; three = opened.any_moment told; kept_so = opened.any_moment_kept told })
    (λ l. absurd l) (inl (let err = c.in-Err-NoMemory.ensures.err told in search rules))
