use Rattle.std.proofs.Common.{◌≡◌, List, length, ap, sym, ◌∙◌}
use Rattle.fs_model.specs.declared.sites.Job.{Job}
use Rattle.fs_model.specs.Job.{jobs_in}
use Rattle.def_use.specs.Board.{kept_of}
use Rattle.result_keeper.specs.Keep.{KeeperData}
use Rattle.campaign.specs.Ready.{ReadyData, portion_of}
use Rattle.campaign.specs.Portions.{due, in_portion}
use Rattle.experiment.proofs.JobSites.{list_of}
use Rattle.campaign.specs.Turn.{least_of}
use Rattle.campaign.proofs.Missing.{missing_count, few_kept}
use Rattle.campaign.proofs.Closing.{most_is, most_there, batches_same, steps_same}
use Rattle.campaign.proofs.paging.work_due.Goals as goal

pub overflow_sub-missing : goal.overflow_sub-missing
overflow_sub-missing g c =
    let keeper = ap (λ (r : ReadyData). r.keeper) c.pages.view_is in
    let board : c.board-board.result.now ≡ c.args.pages.now.keeper.board = c.board-board.ensures.value ∙ ap (λ (k : KeeperData). k.board) keeper in
    let jobs : c.len-jobs.result ≡ length c.args.pages.now.keeper.board = c.len-jobs.ensures ∙ ap length board in
    let kept : c.kept-kept.result ≡ kept_of c.args.pages.now.keeper.board = c.kept-kept.ensures ∙ ap kept_of board in
    few_kept c.args.pages.now.keeper.board c.len-jobs.result c.kept-kept.result jobs kept

pub count_due-due-requires : goal.count_due-due-requires
count_due-due-requires g c =
    ap length c.board-board.ensures.value ∙ c.board-board.ensures.long ∙ ap length c.board-board.ensures.jobs
    ∙ ap length (sym (list_of c.pages.inside.keeper.case c.pages.inside.list.now c.pages.invariant.0))

pub returns : goal.returns
returns g c =
    let keeper = ap (λ (r : ReadyData). r.keeper) c.pages.view_is in
    let board : c.board-board.result.now ≡ c.args.pages.now.keeper.board = c.board-board.ensures.value ∙ ap (λ (k : KeeperData). k.board) keeper in
    let jobs : c.len-jobs.result ≡ length c.args.pages.now.keeper.board = c.len-jobs.ensures ∙ ap length board in
    let kept : c.kept-kept.result ≡ kept_of c.args.pages.now.keeper.board = c.kept-kept.ensures ∙ ap kept_of board in
    let those : c.count_due-due.result ≡ length (due (portion_of c.args.pages.now) c.args.pages.now.keeper.board) =
    c.count_due-due.ensures
    ∙ ap (λ (l : List Job). length (due (in_portion c.pages.inside.portion l) c.board-board.result.now)) (list_of c.pages.inside.keeper.case c.pages.inside.list.now c.pages.invariant.0)
    ∙ ap (λ b. length (due (in_portion c.pages.inside.portion (jobs_in c.pages.inside.keeper.case)) b)) c.board-board.ensures.value
    ∙ ap (λ (r : ReadyData). length (due (portion_of r) r.keeper.board)) c.pages.view_is in
    let most : c.within-most.result ≡ least_of c.args.pages.now.budget c.count_due-due.result =
    c.within-most.ensures ∙ ap (λ (r : ReadyData). least_of r.budget c.count_due-due.result) c.pages.view_is in
    let number = most_is c.args.pages.now.budget (portion_of c.args.pages.now) c.args.pages.now.keeper.board c.count_due-due.result c.within-most.result those most in
    record {
      jobs = jobs;
      kept = kept;
      missing = missing_count c.args.pages.now.keeper.board c.len-jobs.result c.kept-kept.result jobs kept;
      due = those;
      most = most;
      there = most_there c.args.pages.now.budget c.count_due-due.result c.within-most.result most;
      batches = batches_same c.args.pages.now c.within-most.result number;
      steps = steps_same c.args.pages.now c.within-most.result number;
      long = rw (← keeper) c.board-board.ensures.long;
      listed = rw (← keeper) c.board-board.ensures.jobs;
    }
