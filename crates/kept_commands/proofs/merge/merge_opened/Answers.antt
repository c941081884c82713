use Rattle.std.proofs.Common.{◌≡◌, ℕ, true, false, List, ap, refl, subst, sym, ◌∙◌}
use Rattle.std.specs.Prelude.{slice_get}
use Rattle.fs_outside.specs.Past.{EachImage, content}
use Rattle.fs_model.specs.Pages.{missing}
use Rattle.keep_format.specs.KeepFile.{rows_held}
use Rattle.phases.specs.Status.{is_keep_fault}
use Rattle.phases.specs.declared.status.Status.{Status}
use Rattle.phases.specs.declared.status.Status.TheVariants as status
use Rattle.phases.specs.Failures.{status_of}
use Rattle.phases.specs.Reports.{board_report}
use Rattle.phases.proofs.Outputs.{reworded}
use Rattle.result_keeper.specs.Acceptance.{HasRightOldRows}
use Rattle.shard_merge.specs.Gained.{batches_gained}
use Rattle.shard_merge.specs.Merged.{IsRightFor}
use Rattle.fs_model.proofs.Tables.{list_of}
use Rattle.fs_model.specs.declared.sites.Job.{Job}
use Rattle.fs_model.specs.Case.{CaseData}
use Rattle.fs_model.specs.Job.{JobTable, jobs_in}
use Rattle.result_keeper.specs.Keep.{Gives, KeeperData}
use Rattle.shard_merge.specs.Union.{BoardData, union}
use Rattle.kept_commands.specs.Crash.{HoldsUpTo, KeepsAtEnd}
use Rattle.kept_commands.specs.Keep.{EndsFrom}
use Rattle.kept_commands.specs.Merging.{UnionSays}
use Rattle.kept_commands.specs.Run.{no_job}
use Rattle.kept_commands.proofs.Crashes.{broken_pages, read_now}
use Rattle.kept_commands.proofs.FileEnds.{ends_writes}
use Rattle.kept_commands.proofs.Merged.{board_at_end, merged_pages, union_ends, union_keeps}
use Rattle.kept_commands.proofs.Together.{agreed_boards, apart_boards}
use Rattle.kept_commands.proofs.merge.merge_opened.Goals as goal

not_fault : {A : Type 0} (answer : Status) → is_keep_fault answer ≡ false → answer ≡ status.KeepFault → A
not_fault answer fine failed = let never : true ≡ false = sym (ap is_keep_fault failed) ∙ fine in absurd (cc)

pub returns-in-Ok-clause-cause : goal.returns-in-Ok-clause-cause
returns-in-Ok-clause-cause g c =
    let merged = c.in-Ok.ensures.merged in
    union_ends c.args.baseline.now.case c.args.keeper.now.board c.args.other.now (status_of c.report_merged.result) (merged.agree refl)
    (subst (λ (b : BoardData). EndsFrom no_job b (status_of c.report_merged.result)) (c.board-board.ensures.value ∙ merged.board) c.report_merged.ensures.cause)

pub returns-in-Ok-clause-output : goal.returns-in-Ok-clause-output
returns-in-Ok-clause-output g c =
    let base = c.args.baseline.now in
    let kept = c.args.keeper.now.board in
    let other = c.args.other.now in
    let merged = c.in-Ok.ensures.merged in
    let board_is : c.board-board.result.now ≡ union kept other = c.board-board.ensures.value ∙ merged.board in
    reworded _ _ g.O.Sink.taken g.O.Sink.faults _ (UnionSays c.args.format base.case kept other) c.args.out.now c.report_merged.new.out (status_of c.report_merged.result)
    (λ told. told) (λ told text says. (union kept other, agreed_boards base.case kept other (merged.agree refl), says ∙ ap (board_report c.args.format base.case) board_is))
    c.report_merged.ensures.output

pub returns-in-Ok-clause-story : goal.returns-in-Ok-clause-story
returns-in-Ok-clause-story g c =
    let old = c.args.keeper.now in
    let new = c.merge.new.keeper in
    let past = g.D.Disk.past c.args.disk.now in
    let now = g.D.Disk.past c.merge.new.disk in
    let answer = status_of c.report_merged.result in
    let merged = c.in-Ok.ensures.merged in
    let on_new : EndsFrom no_job new.board answer = subst (λ (b : BoardData). EndsFrom no_job b answer) c.board-board.ensures.value c.report_merged.ensures.cause in
    λ told.
    merged_pages g.D.Disk.tells old new c.args.other.now past now _ _ _ answer merged told (read_now past (c.requires.file told).synced)
    (λ l. absurd (ends_writes no_job new.board answer on_new l))
    (λ right each gives.
    let images = merged.kept told right each gives refl in
    subst (λ (x : CaseData). KeepsAtEnd (HoldsUpTo (EachImage past HasRightOldRows) (rows_held (content past)) (batches_gained old c.args.other.now) now) ⊥ x now answer) (ap (λ (k : KeeperData). k.case) merged.keeper)
    (union_keeps _ new.case now new.board answer (λ failed. not_fault answer c.report_merged.ensures.keeps failed) images
    on_new
    (λ memory. record { board = new.board; images = images; none_missing = ap missing (sym c.board-board.ensures.value) ∙ c.report_merged.ensures.whole memory })))

pub returns-in-Ok-clause-union : goal.returns-in-Ok-clause-union
returns-in-Ok-clause-union g c =
    let old = c.args.keeper.now in
    let new = c.merge.new.keeper in
    let now = g.D.Disk.past c.merge.new.disk in
    let merged = c.in-Ok.ensures.merged in
    λ told right each gives.
    board_at_end old.case now (union old.board c.args.other.now) (status_of c.report_merged.result)
    (subst (λ (b : BoardData). EachImage now (Gives old.case b)) merged.board
    (subst (λ (x : CaseData). EachImage now (Gives x new.board)) (ap (λ (k : KeeperData). k.case) merged.keeper) (merged.kept told right each gives refl)))

pub returns-in-Err-Disagree-clause-cause : goal.returns-in-Err-Disagree-clause-cause
returns-in-Err-Disagree-clause-cause g c =
    let base = c.args.baseline.now in
    let job = c.in-Err-Disagree.job in
    let list = c.list-in-Err-Disagree.result.now.list in
    let merge = rw c.in-Err-Disagree.field-0-is at c.in-Err-Disagree.ensures in
    let list_is : list ≡ jobs_in base.case = ap (λ (t : JobTable). t.list) c.list-in-Err-Disagree.ensures ∙ list_of base.case base.list c.facts.ensures.jobs in
    apart_boards base.case c.args.keeper.now.board c.args.other.now job c.get-job.result c.in-Err-Disagree.field-0-1 c.in-Err-Disagree.field-0-2
    (ap (λ (l : List Job). slice_get l job) (sym list_is) ∙ ap (λ (n : ℕ). slice_get list n) (sym c.in-Err-Disagree.job-is) ∙ c.get-job.ensures) merge.merged.disagree

pub returns-in-Err-Disagree-clause-story : goal.returns-in-Err-Disagree-clause-story
returns-in-Err-Disagree-clause-story g c =
    let merge = rw c.in-Err-Disagree.field-0-is at c.in-Err-Disagree.ensures in
    λ told.
    merged_pages g.D.Disk.tells c.args.keeper.now c.merge.new.keeper c.args.other.now (g.D.Disk.past c.args.disk.now) (g.D.Disk.past c.merge.new.disk) _ _ _ _ c.merge.ensures.merged told
    (read_now (g.D.Disk.past c.args.disk.now) (c.requires.file told).synced)
    (λ _. ap (λ d. content (g.D.Disk.past d)) merge.untouched) (λ right each gives. tt)

pub returns-in-Err-DiskFault-clause-story : goal.returns-in-Err-DiskFault-clause-story
returns-in-Err-DiskFault-clause-story g c =
    let merge = rw c.in-Err-DiskFault.field-0-is at c.in-Err-DiskFault.ensures in
    λ told.
    merged_pages g.D.Disk.tells c.args.keeper.now c.merge.new.keeper c.args.other.now (g.D.Disk.past c.args.disk.now) (g.D.Disk.past c.merge.new.disk) _ _ _ _ c.merge.ensures.merged told
    (read_now (g.D.Disk.past c.args.disk.now) (c.requires.file told).synced) (λ l. absurd l)
    (λ right each gives.
    broken_pages (g.D.Disk.tells × IsRightFor c.args.keeper.now c.args.other.now) (g.D.Disk.past c.args.disk.now) (g.D.Disk.past c.merge.new.disk) c.args.keeper.now c.merge.new.keeper
    (batches_gained c.args.keeper.now c.args.other.now) (told, right) (merge.merged.broken refl))
