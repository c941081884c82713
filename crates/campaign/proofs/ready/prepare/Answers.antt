use Rattle.std.proofs.Common.{inl, refl}
use Rattle.result_keeper.specs.Acceptance.{HasRightOldRows, IsSound}
use Rattle.fs_model.specs.Card.{card}
use Rattle.fs_outside.specs.Past.{IsImage}
use Rattle.fs_outside.proofs.Moments.{started}
use Rattle.result_keeper.specs.Begin.{IsOneOfThree}
use Rattle.result_keeper.proofs.Stays.{stays_at_first}
use Rattle.experiment.proofs.JobSites.{list_of}
use Rattle.campaign.proofs.ready.prepare.Goals as goal

-- no memory: nothing befell the disk
pub returns-in-Err : goal.returns-in-Err
returns-in-Err g c = record {
  ready = tt;
  file = λ told. tt;
  board = λ told goes_on. tt;
  fresh = λ begun. tt;
  refused = λ told. tt;
  cause = refl;
  begun = λ told begun. tt;
  same = λ told kept. refl;
  err = λ told. refl;
  kept = λ told. tt;
  any_moment = λ told. started (g.D.Disk.past c.args.disk.now) (IsOneOfThree (g.D.Disk.past c.args.disk.now) (card c.args.case.now)) (λ image now. inl now);
  any_moment_kept = λ told kept. started (g.D.Disk.past c.args.disk.now) (IsImage (g.D.Disk.past c.args.disk.now)) (λ image now. now);
  sound = λ told each. started (g.D.Disk.past c.args.disk.now) IsSound each;
  old_rows = λ told each. started (g.D.Disk.past c.args.disk.now) HasRightOldRows each;
  rows_stay = λ told goes_on. stays_at_first (g.D.Disk.past c.args.disk.now);
}

pub adopt-requires-clause-jobs : goal.adopt-requires-clause-jobs
adopt-requires-clause-jobs g c = list_of c.args.case.now c.args.list.now c.requires.list
