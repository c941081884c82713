use Rattle.fs_model.specs.Card.{card}
use Rattle.result_keeper.specs.Acceptance.{HasRightOldRows, IsSound}
use Rattle.fs_outside.specs.Past.{IsImage}
use Rattle.result_keeper.proofs.Gives.{settled_gives}
use Rattle.result_keeper.proofs.Begun.{stays, stays_one}
use Rattle.result_keeper.proofs.Settled.{opened_old, opened_sound, opened_stays}
use Rattle.result_keeper.proofs.Stays.{stays_at_first}
use Rattle.result_keeper.proofs.keeper.Keeper.adopt.Goals as goal

pub returns-in-Err-clause-any_moment : goal.returns-in-Err-clause-any_moment
returns-in-Err-clause-any_moment g c = λ told. stays_one (g.D.Disk.past c.args.disk.now) (card c.args.case.now)

pub returns-in-Err-clause-any_moment_kept : goal.returns-in-Err-clause-any_moment_kept
returns-in-Err-clause-any_moment_kept g c = λ told not_begun. stays (g.D.Disk.past c.args.disk.now) (IsImage (g.D.Disk.past c.args.disk.now)) (λ image now. now)

pub returns-in-Err-clause-sound : goal.returns-in-Err-clause-sound
returns-in-Err-clause-sound g c = λ told sound. stays (g.D.Disk.past c.args.disk.now) IsSound sound

pub returns-in-Err-clause-rows_stay : goal.returns-in-Err-clause-rows_stay
returns-in-Err-clause-rows_stay g c = λ told stale row. stays_at_first (g.D.Disk.past c.args.disk.now) row

pub returns-in-Ok-open_file-clause-kept : goal.returns-in-Ok-open_file-clause-kept
returns-in-Ok-open_file-clause-kept g c =
    λ told. settled_gives c.args.case.now c.in-Ok-open_file.opened.board c.in-Ok-open_file.opened.gate (g.D.Disk.past c.open_file.new.disk) (c.in-Ok-open_file.ensures.settled told) (c.in-Ok-open_file.ensures.gives told)

pub returns-in-Ok-open_file-clause-sound : goal.returns-in-Ok-open_file-clause-sound
returns-in-Ok-open_file-clause-sound g c =
    λ told sound. opened_sound (g.D.Disk.past c.args.disk.now) (g.D.Disk.past c.open_file.new.disk) (card c.args.case.now) (c.open_file.ensures.any_moment told) sound

pub returns-in-Ok-open_file-clause-rows_stay : goal.returns-in-Ok-open_file-clause-rows_stay
returns-in-Ok-open_file-clause-rows_stay g c =
    λ told stale row. opened_stays (g.D.Disk.past c.args.disk.now) (g.D.Disk.past c.open_file.new.disk) c.args.fresh (g.met.D.Disk.reads_image c.args.disk.now told) (c.open_file.ensures.any_moment_kept told) stale row

pub returns-clause-sound : goal.returns-clause-sound
returns-clause-sound g c =
    λ told sound. opened_sound (g.D.Disk.past c.args.disk.now) (g.D.Disk.past c.open_file.new.disk) (card c.args.case.now) (c.open_file.ensures.any_moment told) sound

pub returns-clause-rows_stay : goal.returns-clause-rows_stay
returns-clause-rows_stay g c =
    λ told stale row. opened_stays (g.D.Disk.past c.args.disk.now) (g.D.Disk.past c.open_file.new.disk) c.args.fresh (g.met.D.Disk.reads_image c.args.disk.now told) (c.open_file.ensures.any_moment_kept told) stale row

pub returns-in-Err-clause-old_rows : goal.returns-in-Err-clause-old_rows
returns-in-Err-clause-old_rows g c = λ told right. stays (g.D.Disk.past c.args.disk.now) HasRightOldRows right

pub returns-in-Ok-open_file-clause-old_rows : goal.returns-in-Ok-open_file-clause-old_rows
returns-in-Ok-open_file-clause-old_rows g c =
    λ told right. opened_old (g.D.Disk.past c.args.disk.now) (g.D.Disk.past c.open_file.new.disk) (card c.args.case.now) (c.open_file.ensures.any_moment told) right

pub returns-clause-old_rows : goal.returns-clause-old_rows
returns-clause-old_rows g c =
    λ told right. opened_old (g.D.Disk.past c.args.disk.now) (g.D.Disk.past c.open_file.new.disk) (card c.args.case.now) (c.open_file.ensures.any_moment told) right
