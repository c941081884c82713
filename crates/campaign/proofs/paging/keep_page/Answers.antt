use Rattle.std.proofs.lemmas.Grind.{common_steps}
use Rattle.std.proofs.Common.{All, ◌≡◌, ◌<◌, ◌≤◌, ℕ, List, length, drop, take, refl, ap, sym, subst, ◌∙◌, arith}
use Rattle.fs_outside.specs.Past.{content, EachImage, LeavesOnly}
use Rattle.fs_model.specs.declared.outcomes.Row.{Row}
use Rattle.fs_model.specs.declared.sites.Job.{Job}
use Rattle.fs_model.specs.Job.{jobs_in}
use Rattle.keep_format.specs.KeepFile.{rows_held}
use Rattle.def_use.specs.Board.{kept_of}
use Rattle.job_queue.specs.Pages.{AreDistinct}
use Rattle.result_keeper.specs.Acceptance.{HasRightOldRows}
use Rattle.result_keeper.specs.Keep.{HoldsMore, IsBeforeOrAfter, KeeperData, appended}
use Rattle.result_keeper.proofs.Batches.{either_under, more_under}
use Rattle.fs_outside.proofs.Moments.{weaker}
use Rattle.campaign.specs.Ready.{ReadyData, portion_of}
use Rattle.campaign.specs.Portions.{due, due_behind, in_portion}
use Rattle.experiment.proofs.JobSites.{list_of}
use Rattle.campaign.specs.Turn.{page_of}
use Rattle.campaign.proofs.OnePage.{as_page, page_behind, page_counted, page_fileable, page_is, page_keeper, page_left, page_long, page_right, page_steps}
use Rattle.campaign.proofs.paging.keep_page.Goals as goal

pub next_numbers-next-requires-clause-same : goal.next_numbers-next-requires-clause-same
next_numbers-next-requires-clause-same g c =
    ap length c.board.ensures.value ∙ c.board.ensures.long ∙ ap length c.board.ensures.jobs ∙ ap length (sym (list_of c.pages.inside.keeper.case c.pages.inside.list.now c.pages.invariant.0))

pub next_numbers-next-requires-clause-there : goal.next_numbers-next-requires-clause-there
next_numbers-next-requires-clause-there g c =
    let there : c.args.count ≤ length (due_behind (portion_of c.args.pages.now) c.args.from c.args.pages.now.keeper.board) = rw c.requires.from c.requires.there in
    let here : c.args.count ≤ length (due_behind (in_portion c.pages.inside.portion (jobs_in c.pages.inside.keeper.case)) c.args.from c.pages.inside.keeper.board) =
    subst (λ (r : ReadyData). c.args.count ≤ length (due_behind (portion_of r) c.args.from r.keeper.board)) (sym c.pages.view_is) there in
    rw (list_of c.pages.inside.keeper.case c.pages.inside.list.now c.pages.invariant.0, c.board.ensures.value) here

pub run_page-requires-clause-page : goal.run_page-requires-clause-page
run_page-requires-clause-page g c =
    let longs : length c.board.result.now ≡ length (jobs_in (g.M.PageMachines.seen c.pages.inside.machines).case) =
    ap length c.board.ensures.value ∙ c.board.ensures.long ∙ ap length (c.board.ensures.jobs ∙ ap jobs_in (sym c.pages.invariant.1)) in
    record {
      apart = subst AreDistinct (sym c.deref.ensures.value) c.next_numbers-next.ensures.apart;
      known =
          subst (All (λ n. n < length (jobs_in (g.M.PageMachines.seen c.pages.inside.machines).case))) (sym c.deref.ensures.value)
          (subst (λ (m : ℕ). All (λ n. n < m) c.next_numbers-next.new.numbers.items) longs c.next_numbers-next.ensures.jobs);
      page = grind (arith, common_steps);
      room = grind (arith, common_steps);
    }

pub append-requires : goal.append-requires
append-requires g c =
    let same : c.pages.inside.keeper ≡ c.args.pages.now.keeper = ap (λ (r : ReadyData). r.keeper) c.pages.view_is in
    let page =
    as_page (g.M.PageMachines.seen c.pages.inside.machines).case (jobs_in (g.M.PageMachines.seen c.pages.inside.machines).case) (in_portion c.pages.inside.portion (jobs_in c.pages.inside.keeper.case)) (portion_of c.args.pages.now) c.pages.inside.keeper c.args.pages.now.keeper c.args.from c.args.count c.board.result.now c.next_numbers-next.new.numbers.items c.deref.result.now c.run_page.new.rows.items c.deref-2.result.now
    (ap portion_of c.pages.view_is) (sym c.pages.invariant.1) (c.board.ensures.jobs ∙ ap jobs_in (sym c.pages.invariant.1)) (ap (λ (r : ReadyData). r.keeper) c.pages.view_is) c.board.ensures.value c.board.ensures.long c.board.ensures.jobs
    c.requires.there c.requires.from
    (subst (λ (l : List Job). c.next_numbers-next.new.numbers.items ≡ take c.args.count (due_behind (in_portion c.pages.inside.portion l) c.args.from c.board.result.now)) (list_of c.pages.inside.keeper.case c.pages.inside.list.now c.pages.invariant.0) c.next_numbers-next.ensures.numbers)
    c.next_numbers-next.ensures.jobs c.deref.ensures.value c.run_page.ensures.rows c.deref-2.ensures.value in
    let long = page_long (g.M.PageMachines.seen c.pages.inside.machines).case (jobs_in (g.M.PageMachines.seen c.pages.inside.machines).case) (in_portion c.pages.inside.portion (jobs_in c.pages.inside.keeper.case)) c.pages.inside.keeper c.args.from c.args.count c.deref.result.now c.deref-2.result.now page in
    let few = ap (λ (k : KeeperData). k.page) same in
    record {
      healthy = rw same c.requires.healthy;
      some = omega (arith, long, c.requires.some);
      few = omega (arith, long, few, c.requires.few);
      blank = page_fileable (g.M.PageMachines.seen c.pages.inside.machines).case (jobs_in (g.M.PageMachines.seen c.pages.inside.machines).case) (in_portion c.pages.inside.portion (jobs_in c.pages.inside.keeper.case)) c.pages.inside.keeper c.args.from c.args.count c.deref.result.now c.deref-2.result.now page;
      file = λ told. rw same (c.requires.file told);
    }

pub returns-in_err-append-clause-sound : goal.returns-in_err-append-clause-sound
returns-in_err-append-clause-sound g c =
    let page =
    as_page (g.M.PageMachines.seen c.pages.inside.machines).case (jobs_in (g.M.PageMachines.seen c.pages.inside.machines).case) (in_portion c.pages.inside.portion (jobs_in c.pages.inside.keeper.case)) (portion_of c.args.pages.now) c.pages.inside.keeper c.args.pages.now.keeper c.args.from c.args.count c.board.result.now c.next_numbers-next.new.numbers.items c.deref.result.now c.run_page.new.rows.items c.deref-2.result.now
    (ap portion_of c.pages.view_is) (sym c.pages.invariant.1) (c.board.ensures.jobs ∙ ap jobs_in (sym c.pages.invariant.1)) (ap (λ (r : ReadyData). r.keeper) c.pages.view_is) c.board.ensures.value c.board.ensures.long c.board.ensures.jobs
    c.requires.there c.requires.from
    (subst (λ (l : List Job). c.next_numbers-next.new.numbers.items ≡ take c.args.count (due_behind (in_portion c.pages.inside.portion l) c.args.from c.board.result.now)) (list_of c.pages.inside.keeper.case c.pages.inside.list.now c.pages.invariant.0) c.next_numbers-next.ensures.numbers)
    c.next_numbers-next.ensures.jobs c.deref.ensures.value c.run_page.ensures.rows c.deref-2.ensures.value in
    λ told each. c.append.ensures.sound told (page_right (g.M.PageMachines.seen c.pages.inside.machines).case (jobs_in (g.M.PageMachines.seen c.pages.inside.machines).case) (in_portion c.pages.inside.portion (jobs_in c.pages.inside.keeper.case)) c.pages.inside.keeper c.args.from c.args.count c.deref.result.now c.deref-2.result.now page) each

pub returns-in_err-append-clause-old_rows : goal.returns-in_err-append-clause-old_rows
returns-in_err-append-clause-old_rows g c =
    let page =
    as_page (g.M.PageMachines.seen c.pages.inside.machines).case (jobs_in (g.M.PageMachines.seen c.pages.inside.machines).case) (in_portion c.pages.inside.portion (jobs_in c.pages.inside.keeper.case)) (portion_of c.args.pages.now) c.pages.inside.keeper c.args.pages.now.keeper c.args.from c.args.count c.board.result.now c.next_numbers-next.new.numbers.items c.deref.result.now c.run_page.new.rows.items c.deref-2.result.now
    (ap portion_of c.pages.view_is) (sym c.pages.invariant.1) (c.board.ensures.jobs ∙ ap jobs_in (sym c.pages.invariant.1)) (ap (λ (r : ReadyData). r.keeper) c.pages.view_is) c.board.ensures.value c.board.ensures.long c.board.ensures.jobs
    c.requires.there c.requires.from
    (subst (λ (l : List Job). c.next_numbers-next.new.numbers.items ≡ take c.args.count (due_behind (in_portion c.pages.inside.portion l) c.args.from c.board.result.now)) (list_of c.pages.inside.keeper.case c.pages.inside.list.now c.pages.invariant.0) c.next_numbers-next.ensures.numbers)
    c.next_numbers-next.ensures.jobs c.deref.ensures.value c.run_page.ensures.rows c.deref-2.ensures.value in
    λ told each. c.append.ensures.old_rows told (page_right (g.M.PageMachines.seen c.pages.inside.machines).case (jobs_in (g.M.PageMachines.seen c.pages.inside.machines).case) (in_portion c.pages.inside.portion (jobs_in c.pages.inside.keeper.case)) c.pages.inside.keeper c.args.from c.args.count c.deref.result.now c.deref-2.result.now page) each

pub returns-in_err-append-clause-any_moment : goal.returns-in_err-append-clause-any_moment
returns-in_err-append-clause-any_moment g c =
    let page =
    as_page (g.M.PageMachines.seen c.pages.inside.machines).case (jobs_in (g.M.PageMachines.seen c.pages.inside.machines).case) (in_portion c.pages.inside.portion (jobs_in c.pages.inside.keeper.case)) (portion_of c.args.pages.now) c.pages.inside.keeper c.args.pages.now.keeper c.args.from c.args.count c.board.result.now c.next_numbers-next.new.numbers.items c.deref.result.now c.run_page.new.rows.items c.deref-2.result.now
    (ap portion_of c.pages.view_is) (sym c.pages.invariant.1) (c.board.ensures.jobs ∙ ap jobs_in (sym c.pages.invariant.1)) (ap (λ (r : ReadyData). r.keeper) c.pages.view_is) c.board.ensures.value c.board.ensures.long c.board.ensures.jobs
    c.requires.there c.requires.from
    (subst (λ (l : List Job). c.next_numbers-next.new.numbers.items ≡ take c.args.count (due_behind (in_portion c.pages.inside.portion l) c.args.from c.board.result.now)) (list_of c.pages.inside.keeper.case c.pages.inside.list.now c.pages.invariant.0) c.next_numbers-next.ensures.numbers)
    c.next_numbers-next.ensures.jobs c.deref.ensures.value c.run_page.ensures.rows c.deref-2.ensures.value in
    let rows = page_is (g.M.PageMachines.seen c.pages.inside.machines).case (jobs_in (g.M.PageMachines.seen c.pages.inside.machines).case) (in_portion c.pages.inside.portion (jobs_in c.pages.inside.keeper.case)) c.pages.inside.keeper c.args.from c.args.count c.deref.result.now c.deref-2.result.now page in
    λ told. subst (λ (r : ReadyData). LeavesOnly (g.D.Disk.past c.args.disk.now) (g.D.Disk.past c.append.new.disk) (IsBeforeOrAfter (EachImage (g.D.Disk.past c.args.disk.now) HasRightOldRows) (rows_held (content (g.D.Disk.past c.args.disk.now))) (page_of (portion_of r) r.keeper c.args.count))) c.pages.view_is
    (subst (λ (r : List Row). LeavesOnly (g.D.Disk.past c.args.disk.now) (g.D.Disk.past c.append.new.disk) (IsBeforeOrAfter (EachImage (g.D.Disk.past c.args.disk.now) HasRightOldRows) (rows_held (content (g.D.Disk.past c.args.disk.now))) r)) rows
    (weaker (g.D.Disk.past c.args.disk.now) (g.D.Disk.past c.append.new.disk) _ _ (λ image either. either_under _ (EachImage (g.D.Disk.past c.args.disk.now) HasRightOldRows) (rows_held (content (g.D.Disk.past c.args.disk.now))) _ image (λ each. ((page_right (g.M.PageMachines.seen c.pages.inside.machines).case (jobs_in (g.M.PageMachines.seen c.pages.inside.machines).case) (in_portion c.pages.inside.portion (jobs_in c.pages.inside.keeper.case)) c.pages.inside.keeper c.args.from c.args.count c.deref.result.now c.deref-2.result.now page), each)) either) (c.append.ensures.any_moment told)))

pub returns-in_err-append-clause-rows_stay : goal.returns-in_err-append-clause-rows_stay
returns-in_err-append-clause-rows_stay g c =
    let page =
    as_page (g.M.PageMachines.seen c.pages.inside.machines).case (jobs_in (g.M.PageMachines.seen c.pages.inside.machines).case) (in_portion c.pages.inside.portion (jobs_in c.pages.inside.keeper.case)) (portion_of c.args.pages.now) c.pages.inside.keeper c.args.pages.now.keeper c.args.from c.args.count c.board.result.now c.next_numbers-next.new.numbers.items c.deref.result.now c.run_page.new.rows.items c.deref-2.result.now
    (ap portion_of c.pages.view_is) (sym c.pages.invariant.1) (c.board.ensures.jobs ∙ ap jobs_in (sym c.pages.invariant.1)) (ap (λ (r : ReadyData). r.keeper) c.pages.view_is) c.board.ensures.value c.board.ensures.long c.board.ensures.jobs
    c.requires.there c.requires.from
    (subst (λ (l : List Job). c.next_numbers-next.new.numbers.items ≡ take c.args.count (due_behind (in_portion c.pages.inside.portion l) c.args.from c.board.result.now)) (list_of c.pages.inside.keeper.case c.pages.inside.list.now c.pages.invariant.0) c.next_numbers-next.ensures.numbers)
    c.next_numbers-next.ensures.jobs c.deref.ensures.value c.run_page.ensures.rows c.deref-2.ensures.value in
    λ told. c.append.ensures.rows_stay told (page_right (g.M.PageMachines.seen c.pages.inside.machines).case (jobs_in (g.M.PageMachines.seen c.pages.inside.machines).case) (in_portion c.pages.inside.portion (jobs_in c.pages.inside.keeper.case)) c.pages.inside.keeper c.args.from c.args.count c.deref.result.now c.deref-2.result.now page)

-- in the words of the keeper that the campaign has
pub returns : goal.returns
returns g c =
    let page =
    as_page (g.M.PageMachines.seen c.pages.inside.machines).case (jobs_in (g.M.PageMachines.seen c.pages.inside.machines).case) (in_portion c.pages.inside.portion (jobs_in c.pages.inside.keeper.case)) (portion_of c.args.pages.now) c.pages.inside.keeper c.args.pages.now.keeper c.args.from c.args.count c.board.result.now c.next_numbers-next.new.numbers.items c.deref.result.now c.run_page.new.rows.items c.deref-2.result.now
    (ap portion_of c.pages.view_is) (sym c.pages.invariant.1) (c.board.ensures.jobs ∙ ap jobs_in (sym c.pages.invariant.1)) (ap (λ (r : ReadyData). r.keeper) c.pages.view_is) c.board.ensures.value c.board.ensures.long c.board.ensures.jobs
    c.requires.there c.requires.from
    (subst (λ (l : List Job). c.next_numbers-next.new.numbers.items ≡ take c.args.count (due_behind (in_portion c.pages.inside.portion l) c.args.from c.board.result.now)) (list_of c.pages.inside.keeper.case c.pages.inside.list.now c.pages.invariant.0) c.next_numbers-next.ensures.numbers)
    c.next_numbers-next.ensures.jobs c.deref.ensures.value c.run_page.ensures.rows c.deref-2.ensures.value in
    let wrote = c.in_ok-append.ensures in
    let rows = page_is (g.M.PageMachines.seen c.pages.inside.machines).case (jobs_in (g.M.PageMachines.seen c.pages.inside.machines).case) (in_portion c.pages.inside.portion (jobs_in c.pages.inside.keeper.case)) c.pages.inside.keeper c.args.from c.args.count c.deref.result.now c.deref-2.result.now page in
    let board = ap (λ (k : KeeperData). k.board) wrote.keeper in
    let jobs = ap (λ (k : KeeperData). jobs_in k.case) wrote.keeper in
    rw (← c.pages.view_is) (record {
      keeper = page_keeper (g.M.PageMachines.seen c.pages.inside.machines).case (jobs_in (g.M.PageMachines.seen c.pages.inside.machines).case) (in_portion c.pages.inside.portion (jobs_in c.pages.inside.keeper.case)) c.pages.inside.keeper c.args.from c.args.count c.deref.result.now c.deref-2.result.now page _ wrote.keeper;
      behind = rw (jobs, board) (page_behind (g.M.PageMachines.seen c.pages.inside.machines).case (jobs_in (g.M.PageMachines.seen c.pages.inside.machines).case) (in_portion c.pages.inside.portion (jobs_in c.pages.inside.keeper.case)) c.pages.inside.keeper c.args.from c.args.count c.deref.result.now c.deref-2.result.now page c.next_numbers-next.result (rw (sym c.board.ensures.value)
          (subst (λ (l : List Job). due_behind (in_portion c.pages.inside.portion l) c.next_numbers-next.result c.board.result.now ≡ drop c.args.count (due_behind (in_portion c.pages.inside.portion l) c.args.from c.board.result.now)) (list_of c.pages.inside.keeper.case c.pages.inside.list.now c.pages.invariant.0) c.next_numbers-next.ensures.behind)));
      left = rw jobs (ap (due (in_portion c.pages.inside.portion (jobs_in c.pages.inside.keeper.case))) board ∙ page_left (g.M.PageMachines.seen c.pages.inside.machines).case (jobs_in (g.M.PageMachines.seen c.pages.inside.machines).case) (in_portion c.pages.inside.portion (jobs_in c.pages.inside.keeper.case)) c.pages.inside.keeper c.args.from c.args.count c.deref.result.now c.deref-2.result.now page);
      counted = ap kept_of board ∙ page_counted (g.M.PageMachines.seen c.pages.inside.machines).case (jobs_in (g.M.PageMachines.seen c.pages.inside.machines).case) (in_portion c.pages.inside.portion (jobs_in c.pages.inside.keeper.case)) c.pages.inside.keeper c.args.from c.args.count c.deref.result.now c.deref-2.result.now page;
      taken = page_steps (g.M.PageMachines.seen c.pages.inside.machines).case (jobs_in (g.M.PageMachines.seen c.pages.inside.machines).case) (in_portion c.pages.inside.portion (jobs_in c.pages.inside.keeper.case)) c.pages.inside.keeper c.args.from c.args.count c.deref.result.now c.deref-2.result.now page (g.W.Way.ends_early (g.M.PageMachines.seen c.pages.inside.machines).shortcuts) (g.M.PageMachines.seen c.pages.inside.machines).spacing _ _ c.run_page.ensures.taken;
      spacing = c.run_page.ensures.same.1;
      shortcuts = c.run_page.ensures.same.3;
      budget = refl;
      shard = refl;
      window = refl;
      cause = wrote.cause;
      file = wrote.file;
      bytes = λ told. wrote.bytes told ∙ ap (appended (content (g.D.Disk.past c.args.disk.now)) c.pages.inside.keeper.gate) rows;
      added = λ told. subst (λ (r : List Row). HoldsMore (EachImage (g.D.Disk.past c.args.disk.now) HasRightOldRows) (rows_held (content (g.D.Disk.past c.args.disk.now))) r (content (g.D.Disk.past c.append.new.disk))) rows
          (more_under _ (EachImage (g.D.Disk.past c.args.disk.now) HasRightOldRows) (rows_held (content (g.D.Disk.past c.args.disk.now))) _ (content (g.D.Disk.past c.append.new.disk)) (λ each. ((page_right (g.M.PageMachines.seen c.pages.inside.machines).case (jobs_in (g.M.PageMachines.seen c.pages.inside.machines).case) (in_portion c.pages.inside.portion (jobs_in c.pages.inside.keeper.case)) c.pages.inside.keeper c.args.from c.args.count c.deref.result.now c.deref-2.result.now page), each)) (wrote.added told));
      any_moment = λ told. subst (λ (r : List Row). LeavesOnly (g.D.Disk.past c.args.disk.now) (g.D.Disk.past c.append.new.disk) (IsBeforeOrAfter (EachImage (g.D.Disk.past c.args.disk.now) HasRightOldRows) (rows_held (content (g.D.Disk.past c.args.disk.now))) r)) rows
          (weaker (g.D.Disk.past c.args.disk.now) (g.D.Disk.past c.append.new.disk) _ _ (λ image either. either_under _ (EachImage (g.D.Disk.past c.args.disk.now) HasRightOldRows) (rows_held (content (g.D.Disk.past c.args.disk.now))) _ image (λ each. ((page_right (g.M.PageMachines.seen c.pages.inside.machines).case (jobs_in (g.M.PageMachines.seen c.pages.inside.machines).case) (in_portion c.pages.inside.portion (jobs_in c.pages.inside.keeper.case)) c.pages.inside.keeper c.args.from c.args.count c.deref.result.now c.deref-2.result.now page), each)) either) (wrote.any_moment told));
      sound = λ told each. wrote.sound told (page_right (g.M.PageMachines.seen c.pages.inside.machines).case (jobs_in (g.M.PageMachines.seen c.pages.inside.machines).case) (in_portion c.pages.inside.portion (jobs_in c.pages.inside.keeper.case)) c.pages.inside.keeper c.args.from c.args.count c.deref.result.now c.deref-2.result.now page) each;
      old_rows = λ told each. wrote.old_rows told (page_right (g.M.PageMachines.seen c.pages.inside.machines).case (jobs_in (g.M.PageMachines.seen c.pages.inside.machines).case) (in_portion c.pages.inside.portion (jobs_in c.pages.inside.keeper.case)) c.pages.inside.keeper c.args.from c.args.count c.deref.result.now c.deref-2.result.now page) each;
      rows_stay = λ told. wrote.rows_stay told (page_right (g.M.PageMachines.seen c.pages.inside.machines).case (jobs_in (g.M.PageMachines.seen c.pages.inside.machines).case) (in_portion c.pages.inside.portion (jobs_in c.pages.inside.keeper.case)) c.pages.inside.keeper c.args.from c.args.count c.deref.result.now c.deref-2.result.now page);
    })
