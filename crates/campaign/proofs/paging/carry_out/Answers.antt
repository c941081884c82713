use Rattle.std.proofs.Common.{ℕ, ◌+◌, drop, refl, ap, sym, subst, ◌∙◌, arith}
use Rattle.def_use.specs.Board.{kept_of}
use Rattle.fs_outside.specs.Past.{content, LeavesOnly}
use Rattle.result_keeper.specs.Keep.{KeeperData}
use Rattle.result_keeper.specs.Batches.{after_batches, IsBroken, KeepsSome, appended_all}
use Rattle.campaign.specs.Ready.{ReadyData, portion_of}
use Rattle.campaign.specs.Portions.{due}
use Rattle.campaign.specs.Turn.{first_batches}
use Rattle.experiment.proofs.Rises.{as_same}
use Rattle.campaign.proofs.Closing.{most_is, same_portion, stopped, none_due, not_short, none_left, long_after, is_whole, whole_counts, whole_sums}
use Rattle.campaign.proofs.paging.carry_out.Goals as goal

pub keep_pages-requires-clause-there : goal.keep_pages-requires-clause-there
keep_pages-requires-clause-there g c = let there = c.work_due-work.ensures.there in let those = c.work_due-work.ensures.due in omega (arith, there, those)

pub whole_totals-requires : goal.whole_totals-requires
whole_totals-requires g c =
    let work = c.work_due-work.ensures in
    let ran = c.in-Ok.ensures in
    let old = c.args.pages.now in
    let new = c.keep_pages.new.pages in
    none_left old.keeper.board new.keeper.board c.work_due-work.result.missing c.work_due-work.result.most
    (long_after old.keeper new.keeper (first_batches (portion_of old) old.keeper c.work_due-work.result.most) work.long ran.keeper) work.missing (omega (arith, c.if-work.false)) ran.counted

-- stopped short
pub returns-in-Ok : goal.returns-in-Ok
returns-in-Ok g c =
    let work = c.work_due-work.ensures in
    let ran = c.in-Ok.ensures in
    let counted = c.kept.ensures ∙ ap kept_of (c.board.ensures.value ∙ ap (λ (r : ReadyData). r.keeper.board) c.pages.view_is) in
    record {
      counts = λ has. tt;
      totals = tt;
      done = tt;
      whole = tt;
      stopped =
          stopped c.args.pages.now c.keep_pages.new.pages.keeper.board c.work_due-work.result.jobs c.work_due-work.result.missing c.work_due-work.result.due c.work_due-work.result.most c.kept.result
          work.jobs work.missing work.due work.most (omega (arith, c.if-work.true)) ran.counted counted;
      counted = counted;
      ended = λ fine within.
          none_due c.args.pages.now.budget (portion_of c.args.pages.now) c.args.pages.now.keeper.board c.keep_pages.new.pages.keeper.board c.work_due-work.result.due c.work_due-work.result.most work.due work.most
          (ap (λ p. due p c.keep_pages.new.pages.keeper.board) (sym (same_portion c.args.pages.now c.keep_pages.new.pages ran.shard ran.window (ap (λ (k : KeeperData). k.case) ran.keeper))) ∙ ran.left) within;
      left = λ fine. ap (λ p. due p c.keep_pages.new.pages.keeper.board) (sym (same_portion c.args.pages.now c.keep_pages.new.pages ran.shard ran.window (ap (λ (k : KeeperData). k.case) ran.keeper))) ∙ ran.left ∙ ap (λ (n : ℕ). drop n (due (portion_of c.args.pages.now) c.args.pages.now.keeper.board))
          (most_is c.args.pages.now.budget (portion_of c.args.pages.now) c.args.pages.now.keeper.board c.work_due-work.result.due c.work_due-work.result.most work.due work.most);
      more = λ fine. ran.counted ∙ ap (λ (n : ℕ). kept_of c.args.pages.now.keeper.board + n)
          (most_is c.args.pages.now.budget (portion_of c.args.pages.now) c.args.pages.now.keeper.board c.work_due-work.result.due c.work_due-work.result.most work.due work.most);
      cause = ran.cause;
      keeper = λ fine. ran.keeper ∙ ap (after_batches c.args.pages.now.keeper) work.batches;
      broken = λ fault. absurd (cc);
      file = λ told fine. ran.file told;
      bytes = λ told fine. ran.bytes told ∙ ap (appended_all (content (g.D.Disk.past c.args.disk.now)) c.args.pages.now.keeper.gate) work.batches;
      spacing = ran.spacing;
      shortcuts = ran.shortcuts;
      budget = ran.budget;
      shard = ran.shard;
      window = ran.window;
      taken = λ fine. as_same (g.W.Way.ends_early c.args.pages.now.shortcuts) c.work_due-work.result.most _ _ _ _ _ _ _ ran.taken (most_is c.args.pages.now.budget (portion_of c.args.pages.now) c.args.pages.now.keeper.board c.work_due-work.result.due c.work_due-work.result.most work.due work.most) refl work.steps refl;
      any_moment = λ told. subst (λ b. LeavesOnly (g.D.Disk.past c.args.disk.now) (g.D.Disk.past c.keep_pages.new.disk) (KeepsSome (g.D.Disk.past c.args.disk.now) b)) work.batches (ran.any_moment told);
      kept = λ told sound gives fine. ran.gives told sound gives;
      sound = ran.sound;
      old_rows = ran.old_rows;
      rows_stay = ran.rows_stay;
    }

-- done
pub returns-in-Ok-2 : goal.returns-in-Ok-2
returns-in-Ok-2 g c =
    let work = c.work_due-work.ensures in
    let ran = c.in-Ok-2.ensures in
    let old = c.args.pages.now in
    let new = c.keep_pages.new.pages in
    let none =
    none_left old.keeper.board new.keeper.board c.work_due-work.result.missing c.work_due-work.result.most
    (long_after old.keeper new.keeper (first_batches (portion_of old) old.keeper c.work_due-work.result.most) work.long ran.keeper) work.missing (omega (arith, c.if-work.false)) ran.counted in
    let whole = is_whole (portion_of old) old.keeper new.keeper c.work_due-work.result.most work.listed work.long ran.keeper none in
    let case = ap (λ (k : KeeperData). k.case) ran.keeper in
    record {
      counts = whole_counts c.args.pages.now.keeper c.keep_pages.new.pages.keeper c.whole_totals.result case whole c.whole_totals.ensures.counts;
      totals = λ o. whole_sums c.args.pages.now.keeper c.keep_pages.new.pages.keeper c.whole_totals.result case whole o (c.whole_totals.ensures.sums o);
      done = not_short old.budget (portion_of old) old.keeper.board c.work_due-work.result.missing c.work_due-work.result.due c.work_due-work.result.most work.missing work.due work.most
          (omega (arith, c.if-work.false));
      whole = whole;
      stopped = tt;
      counted = tt;
      ended = λ fine within.
          none_due c.args.pages.now.budget (portion_of c.args.pages.now) c.args.pages.now.keeper.board c.keep_pages.new.pages.keeper.board c.work_due-work.result.due c.work_due-work.result.most work.due work.most
          (ap (λ p. due p c.keep_pages.new.pages.keeper.board) (sym (same_portion c.args.pages.now c.keep_pages.new.pages ran.shard ran.window (ap (λ (k : KeeperData). k.case) ran.keeper))) ∙ ran.left) within;
      left = λ fine. ap (λ p. due p c.keep_pages.new.pages.keeper.board) (sym (same_portion c.args.pages.now c.keep_pages.new.pages ran.shard ran.window (ap (λ (k : KeeperData). k.case) ran.keeper))) ∙ ran.left ∙ ap (λ (n : ℕ). drop n (due (portion_of c.args.pages.now) c.args.pages.now.keeper.board))
          (most_is c.args.pages.now.budget (portion_of c.args.pages.now) c.args.pages.now.keeper.board c.work_due-work.result.due c.work_due-work.result.most work.due work.most);
      more = λ fine. ran.counted ∙ ap (λ (n : ℕ). kept_of c.args.pages.now.keeper.board + n)
          (most_is c.args.pages.now.budget (portion_of c.args.pages.now) c.args.pages.now.keeper.board c.work_due-work.result.due c.work_due-work.result.most work.due work.most);
      cause = ran.cause;
      keeper = λ fine. ran.keeper ∙ ap (after_batches c.args.pages.now.keeper) work.batches;
      broken = λ fault. absurd (cc);
      file = λ told fine. ran.file told;
      bytes = λ told fine. ran.bytes told ∙ ap (appended_all (content (g.D.Disk.past c.args.disk.now)) c.args.pages.now.keeper.gate) work.batches;
      spacing = ran.spacing;
      shortcuts = ran.shortcuts;
      budget = ran.budget;
      shard = ran.shard;
      window = ran.window;
      taken = λ fine. as_same (g.W.Way.ends_early c.args.pages.now.shortcuts) c.work_due-work.result.most _ _ _ _ _ _ _ ran.taken (most_is c.args.pages.now.budget (portion_of c.args.pages.now) c.args.pages.now.keeper.board c.work_due-work.result.due c.work_due-work.result.most work.due work.most) refl work.steps refl;
      any_moment = λ told. subst (λ b. LeavesOnly (g.D.Disk.past c.args.disk.now) (g.D.Disk.past c.keep_pages.new.disk) (KeepsSome (g.D.Disk.past c.args.disk.now) b)) work.batches (ran.any_moment told);
      kept = λ told sound gives fine. ran.gives told sound gives;
      sound = ran.sound;
      old_rows = ran.old_rows;
      rows_stay = ran.rows_stay;
    }

pub returns-in-Err : goal.returns-in-Err
returns-in-Err g c =
    let work = c.work_due-work.ensures in
    let ran = c.in-Err.ensures in
    record {
      counts = λ has. tt;
      totals = tt;
      done = tt;
      whole = tt;
      stopped = tt;
      counted = tt;
      ended = λ fine within. absurd (cc);
      left = λ fine. absurd (cc);
      more = λ fine. absurd (cc);
      cause = ran.cause;
      keeper = λ fine. absurd (cc);
      broken = λ fault. subst (λ b. IsBroken g.D.Disk.tells (g.D.Disk.past c.args.disk.now) (g.D.Disk.past c.keep_pages.new.disk) c.args.pages.now.keeper b c.keep_pages.new.pages.keeper) work.batches ran.keeper;
      file = λ told fine. absurd (cc);
      bytes = λ told fine. absurd (cc);
      spacing = ran.spacing;
      shortcuts = ran.shortcuts;
      budget = ran.budget;
      shard = ran.shard;
      window = ran.window;
      taken = λ fine. absurd (cc);
      any_moment = λ told. subst (λ b. LeavesOnly (g.D.Disk.past c.args.disk.now) (g.D.Disk.past c.keep_pages.new.disk) (KeepsSome (g.D.Disk.past c.args.disk.now) b)) work.batches (ran.any_moment told);
      kept = λ told sound gives fine. absurd (cc);
      sound = ran.sound;
      old_rows = ran.old_rows;
      rows_stay = ran.rows_stay;
    }
