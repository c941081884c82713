-- What a replay leaves on its output, and what its error output is told.
use Rattle.std.specs.Prelude.{◌≡◌, ◌≢◌, ℕ, List, ◌++◌, All, Option, codes}
use Rattle.fs_model.specs.declared.sites.Site.{Site}
use Rattle.fs_model.specs.Case.{CaseData}
use Rattle.fs_outside.specs.Faults.{IsCaused}
use Rattle.fs_outside.specs.Writing.{TookPart}
use Rattle.command_line.specs.Replay.{ReplayData}
use Rattle.command_line.specs.declared.replay.View.{View}
use Rattle.phases.specs.Output.{IsText, Wrote, WrotePart}
use Rattle.phases.specs.SiteCauses.{Loads}
use Rattle.phases.specs.Sites.{IsSite}
use Rattle.phases.specs.SiteStatus.{is_writing, site_status_text}
use Rattle.phases.specs.declared.status.Status.TheVariants as status
use Rattle.phases.specs.declared.site_status.SiteStatus.{SiteStatus}
use Rattle.phases.specs.declared.site_status.SiteStatus.TheVariants.{Ended}
use Rattle.replay.specs.Text.{replay_text}

abbrev pub usage_text : List ℕ
usage_text = codes "usage: fail_replay [--whole | --brief] IMAGE CYCLE CELL BIT .. [options]\n"

-- what the error output is told: one line, or nothing where the text was written
abbrev pub told_text : SiteStatus → List ℕ
told_text answer = site_status_text usage_text answer

-- what a replay of sites of a case did to its output
pub record SitesStory {T : Type 0} (tells : Type 0) (taken : T → List ℕ) (faults : T → ℕ)
    (c : CaseData) (view : View) (sites : List Site) (old new : T) (answer : SiteStatus) : Type 0 where
  pub whole : tells → answer ≡ Ended status.Done → All (IsSite c) sites × Wrote (IsText (replay_text c view sites)) (taken old) (taken new)
  pub part : tells → answer ≡ Ended status.WriteFault → All (IsSite c) sites × WrotePart (IsText (replay_text c view sites)) (taken old) (taken new)
  pub nothing : answer ≢ Ended status.Done → answer ≢ Ended status.WriteFault → new ≡ old
  pub cause : IsCaused (is_writing answer) (faults old) (faults new)

-- the text of the sites that are asked for, in the case that is asked for, follows what the output took before
pub record Replays (said : Option ReplayData) (bytes : List ℕ) (before after : List ℕ) : Type 0 where
  pub case : CaseData
  pub loads : Loads said bytes case
  pub sites : All (IsSite case) loads.settings.sites
  pub written : after ≡ before ++ replay_text case loads.settings.view loads.settings.sites

-- a part of it does
pub record ReplaysPart (said : Option ReplayData) (bytes : List ℕ) (before after : List ℕ) : Type 0 where
  pub case : CaseData
  pub loads : Loads said bytes case
  pub sites : All (IsSite case) loads.settings.sites
  pub written : TookPart before after (replay_text case loads.settings.view loads.settings.sites)
