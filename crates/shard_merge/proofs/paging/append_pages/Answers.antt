use Rattle.std.specs.Prelude.{⊤}
use Rattle.std.proofs.Common.{◌≡◌, length, refl, ap, sym, ◌∙◌, arith}
use Rattle.std.proofs.lemmas.Result.{MatchResult-from_err}
use Rattle.result_keeper.specs.Batches.{IsBroken, after_batches}
use Rattle.shard_merge.specs.Gained.{batches_gained}
use Rattle.shard_merge.specs.Merged.{IsCutShort, IsRightFor}
use Rattle.shard_merge.proofs.OnWay.{at_start, cut_left, cut_recorded, cut_short, end_gives, one_more}
use Rattle.shard_merge.proofs.paging.append_pages.Goals as goal

pub loop-left-init : goal.loop-left-init
loop-left-init g c = record {
  way =
      at_start g.D.Disk.tells (g.D.Disk.past c.args.disk.now) (g.D.Disk.faults c.args.disk.now) c.args.keeper.now c.args.other.now c.args.all
      (c.requires.board ∙ ap length (sym c.requires.jobs)) c.requires.healthy c.requires.file c.requires.all;
  room = refl;
}

pub loop-left-preserved : goal.loop-left-preserved
loop-left-preserved g c =
    let e = c.in_ok-from.ensures in
    let way =
    one_more g.D.Disk.tells (g.D.Disk.past c.args.disk.now) (g.D.Disk.past c.loop-left.disk) (g.D.Disk.past c.append_page.new.disk) (g.D.Disk.faults c.args.disk.now) (g.D.Disk.faults c.loop-left.disk) c.args.keeper.now c.loop-left.keeper
    c.args.other.now c.loop-left.left c.loop-left.from c.min-count.result c.args.page c.loop-left.invariant.way c.requires.page c.requires.some c.loop-left-test.true c.min-count.ensures
    (g.D.Disk.faults c.append_page.new.disk) c.in_ok-from.from c.append_page.new.keeper e.cause
    (record { keeper = e.keeper; file = e.file; bytes = e.bytes; added = e.added; any_moment = e.any_moment; sound = e.sound; old_rows = e.old_rows; rows_stay = e.rows_stay }) e.behind in
    record { way = way; room = e.room ∙ c.loop-left.invariant.room }

pub returns-in_err-from-clause-keeper : goal.returns-in_err-from-clause-keeper
returns-in_err-from-clause-keeper g c =
    let broken =
    cut_short g.D.Disk.tells (g.D.Disk.past c.args.disk.now) (g.D.Disk.past c.loop-left.disk) (g.D.Disk.past c.append_page.new.disk) (g.D.Disk.faults c.args.disk.now) (g.D.Disk.faults c.loop-left.disk) c.args.keeper.now c.loop-left.keeper
    c.args.other.now c.loop-left.left c.loop-left.from c.min-count.result c.args.page c.loop-left.invariant.way c.requires.page c.requires.some c.loop-left-test.true c.min-count.ensures
    c.append_page.new.keeper c.in_err-from.ensures.keeper c.append_page.ensures.any_moment in
    MatchResult-from_err c.from_residual.result (λ _. c.append_page.new.keeper ≡ after_batches c.args.keeper.now (batches_gained c.args.keeper.now c.args.other.now))
    (λ _. IsBroken (g.D.Disk.tells × IsRightFor c.args.keeper.now c.args.other.now) (g.D.Disk.past c.args.disk.now) (g.D.Disk.past c.append_page.new.disk) c.args.keeper.now (batches_gained c.args.keeper.now c.args.other.now) c.append_page.new.keeper)
    c.from_residual.ensures.0 (λ _. broken)

pub returns-in_err-from-clause-cut_short : goal.returns-in_err-from-clause-cut_short
returns-in_err-from-clause-cut_short g c =
    let cut =
    cut_recorded g.D.Disk.tells (g.D.Disk.past c.args.disk.now) (g.D.Disk.past c.loop-left.disk) (g.D.Disk.past c.append_page.new.disk) (g.D.Disk.faults c.args.disk.now) (g.D.Disk.faults c.loop-left.disk) c.args.keeper.now c.loop-left.keeper
    c.args.other.now c.loop-left.left c.loop-left.from c.min-count.result c.args.page c.loop-left.invariant.way c.requires.page c.requires.some c.loop-left-test.true c.min-count.ensures
    c.append_page.new.keeper c.in_err-from.ensures.keeper c.append_page.ensures.any_moment in
    MatchResult-from_err c.from_residual.result (λ _. ⊤) (λ _. IsCutShort g.D.Disk.tells (g.D.Disk.past c.args.disk.now) (g.D.Disk.past c.append_page.new.disk) c.args.keeper.now (batches_gained c.args.keeper.now c.args.other.now) c.append_page.new.keeper)
    c.from_residual.ensures.0 (λ _. cut)

pub returns-in_err-from-clause-any_moment : goal.returns-in_err-from-clause-any_moment
returns-in_err-from-clause-any_moment g c =
    (cut_left g.D.Disk.tells (g.D.Disk.past c.args.disk.now) (g.D.Disk.past c.loop-left.disk) (g.D.Disk.past c.append_page.new.disk) (g.D.Disk.faults c.args.disk.now) (g.D.Disk.faults c.loop-left.disk) c.args.keeper.now c.loop-left.keeper
    c.args.other.now c.loop-left.left c.loop-left.from c.min-count.result c.args.page c.loop-left.invariant.way c.requires.page c.requires.some c.loop-left-test.true c.min-count.ensures
    c.append_page.ensures.any_moment c.append_page.ensures.sound c.append_page.ensures.old_rows c.append_page.ensures.rows_stay).any_moment

pub returns-in_err-from-clause-any_moment_kept : goal.returns-in_err-from-clause-any_moment_kept
returns-in_err-from-clause-any_moment_kept g c =
    (cut_left g.D.Disk.tells (g.D.Disk.past c.args.disk.now) (g.D.Disk.past c.loop-left.disk) (g.D.Disk.past c.append_page.new.disk) (g.D.Disk.faults c.args.disk.now) (g.D.Disk.faults c.loop-left.disk) c.args.keeper.now c.loop-left.keeper
    c.args.other.now c.loop-left.left c.loop-left.from c.min-count.result c.args.page c.loop-left.invariant.way c.requires.page c.requires.some c.loop-left-test.true c.min-count.ensures
    c.append_page.ensures.any_moment c.append_page.ensures.sound c.append_page.ensures.old_rows c.append_page.ensures.rows_stay).any_moment_kept

pub returns-in_err-from-clause-sound : goal.returns-in_err-from-clause-sound
returns-in_err-from-clause-sound g c =
    (cut_left g.D.Disk.tells (g.D.Disk.past c.args.disk.now) (g.D.Disk.past c.loop-left.disk) (g.D.Disk.past c.append_page.new.disk) (g.D.Disk.faults c.args.disk.now) (g.D.Disk.faults c.loop-left.disk) c.args.keeper.now c.loop-left.keeper
    c.args.other.now c.loop-left.left c.loop-left.from c.min-count.result c.args.page c.loop-left.invariant.way c.requires.page c.requires.some c.loop-left-test.true c.min-count.ensures
    c.append_page.ensures.any_moment c.append_page.ensures.sound c.append_page.ensures.old_rows c.append_page.ensures.rows_stay).sound

pub returns-in_err-from-clause-old_rows : goal.returns-in_err-from-clause-old_rows
returns-in_err-from-clause-old_rows g c =
    (cut_left g.D.Disk.tells (g.D.Disk.past c.args.disk.now) (g.D.Disk.past c.loop-left.disk) (g.D.Disk.past c.append_page.new.disk) (g.D.Disk.faults c.args.disk.now) (g.D.Disk.faults c.loop-left.disk) c.args.keeper.now c.loop-left.keeper
    c.args.other.now c.loop-left.left c.loop-left.from c.min-count.result c.args.page c.loop-left.invariant.way c.requires.page c.requires.some c.loop-left-test.true c.min-count.ensures
    c.append_page.ensures.any_moment c.append_page.ensures.sound c.append_page.ensures.old_rows c.append_page.ensures.rows_stay).old_rows

pub returns-in_err-from-clause-rows_stay : goal.returns-in_err-from-clause-rows_stay
returns-in_err-from-clause-rows_stay g c =
    (cut_left g.D.Disk.tells (g.D.Disk.past c.args.disk.now) (g.D.Disk.past c.loop-left.disk) (g.D.Disk.past c.append_page.new.disk) (g.D.Disk.faults c.args.disk.now) (g.D.Disk.faults c.loop-left.disk) c.args.keeper.now c.loop-left.keeper
    c.args.other.now c.loop-left.left c.loop-left.from c.min-count.result c.args.page c.loop-left.invariant.way c.requires.page c.requires.some c.loop-left-test.true c.min-count.ensures
    c.append_page.ensures.any_moment c.append_page.ensures.sound c.append_page.ensures.old_rows c.append_page.ensures.rows_stay).rows_stay

pub returns-clause-gives : goal.returns-clause-gives
returns-clause-gives g c =
    let none : c.loop-left.left ≡ 0 = omega (arith, c.loop-left-test.false) in
    λ told right sound gives.
    end_gives g.D.Disk.tells (g.D.Disk.past c.args.disk.now) (g.D.Disk.past c.loop-left.disk) (g.D.Disk.faults c.args.disk.now) (g.D.Disk.faults c.loop-left.disk) c.args.keeper.now c.loop-left.keeper c.args.other.now
    c.loop-left.left c.loop-left.from none c.loop-left.invariant.way c.requires.file told right sound gives

pub returns-clause-sound : goal.returns-clause-sound
returns-clause-sound g c = λ told right. c.loop-left.invariant.way.way.sound (told, right)

pub returns-clause-old_rows : goal.returns-clause-old_rows
returns-clause-old_rows g c = λ told right. c.loop-left.invariant.way.way.old_rows (told, right)
