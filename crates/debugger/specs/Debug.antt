-- What a debugger is asked for, and what it leaves on its output.
use Rattle.std.specs.Prelude.{◌≡◌, ◌⊎◌, ℕ, Bool, true, false, List, [], ◌∷◌, Option, Some, None, Result, Ok, Err, codes}
use Rattle.std.specs.Prelude.{option_and_then, option_map}
use Rattle.fs_model.specs.declared.sites.Site.{Site}
use Rattle.fs_model.specs.AccessLog.{job_of, log, weight}
use Rattle.fs_model.specs.Case.{CaseData}
use Rattle.fs_model.specs.Outcome.{outcome}
use Rattle.command_line.specs.Commands.{Text}
use Rattle.command_line.specs.Said.{CaseLineData}
use Rattle.command_line.specs.Replay.{ReplayData, replay_line}
use Rattle.command_line.specs.declared.replay.View.{View}
use Rattle.command_line.specs.declared.replay.View.TheVariants.{FromFlip, Whole, Brief}
use Rattle.phases.specs.SiteCauses.{Loads}
use Rattle.phases.specs.SiteStatus.{site_status_text}
use Rattle.phases.specs.declared.status.Status.TheVariants as status
use Rattle.phases.specs.declared.site_status.SiteStatus.{SiteStatus}
use Rattle.phases.specs.declared.site_status.SiteStatus.TheVariants.{Ended, NoSite, InputFault}
use Rattle.debug_session.specs.declared.session.SiteFacts.{SiteFacts}
use Rattle.debugger.specs.Talk.{BrokenOff, TalkData, IsTalk, talk_begun}
use Rattle.debugger.specs.declared.serve.TalkFailure.{TalkFailure}
use Rattle.debugger.specs.declared.serve.TalkFailure.TheVariants as failure

abbrev pub usage_text : List ℕ
usage_text = codes "usage: fail_debug IMAGE CYCLE CELL BIT [options]\n"

-- what the error output is told: one line, or nothing where the talk ended
abbrev pub told_text : SiteStatus → List ℕ
told_text answer = site_status_text usage_text answer

-- how a call ends that talked
abbrev pub talk_status : {T : Type 0} → Result T TalkFailure → SiteStatus
talk_status (Ok value) = Ended status.Done
talk_status (Err failure.InputFault) = InputFault
talk_status (Err failure.OutputFault) = Ended status.WriteFault
talk_status (Err failure.NoMemory) = Ended status.NoMemory

-- ---- words

abbrev pub only : List Site → Option Site
only [] = None
only (site ∷ []) = Some site
only (site ∷ other ∷ rest) = None

abbrev pub asked_site : View → List Site → Option Site
asked_site FromFlip sites = only sites
asked_site Whole sites = None
asked_site Brief sites = None

-- a line with this site alone, which is followed from the flip on
abbrev pub asked_for : CaseLineData → Site → ReplayData
asked_for case site = record { case = case; view = FromFlip; sites = site ∷ [] }

abbrev pub debug_asked : ReplayData → Option ReplayData
debug_asked r = option_map (asked_for r.case) (asked_site r.view r.sites)

-- the words are a line of `fail_replay` with one site and neither `--whole` nor `--brief`
abbrev pub debug_line : List Text → Option ReplayData
debug_line words = option_and_then debug_asked (replay_line words)

-- ---- what is written

-- how many sites have the effect of this one, or none if it is dead
abbrev pub weight_of : CaseData → Site → Option ℕ
weight_of c site = option_map (weight (log c)) (job_of (log c) site)

-- what is told of the site
pub record AreFacts (c : CaseData) (site : Site) (facts : SiteFacts) : Type 0 where
  pub weight_is : facts.weight ≡ weight_of c site
  pub outcome_is : facts.outcome ≡ outcome c site

-- a talk about the site took bytes from the front of what the input had left, and the output has taken what is written for them
pub record Talked (c : CaseData) (site : Site) (left left' before after : List ℕ) : Type 0 where
  pub talk : TalkData
  pub facts : SiteFacts
  pub facts_are : AreFacts c site facts
  pub talks : IsTalk (talk_begun c site facts) talk left left' before after

-- it is a talk about the site that is asked for, in the case that is
pub record Debugs (said : Option ReplayData) (bytes left left' before after : List ℕ) : Type 0 where
  pub case : CaseData
  pub site : Site
  pub loads : Loads said bytes case
  pub names : loads.settings.sites ≡ site ∷ []
  pub talked : Talked case site left left' before after

-- a talk about the site was broken off
pub record TalkedUntil (why : TalkFailure) (c : CaseData) (site : Site) (left left' before after : List ℕ) : Type 0 where
  pub facts : SiteFacts
  pub facts_are : AreFacts c site facts
  pub breaks : BrokenOff why (talk_begun c site facts) left left' before after

-- and it is one about the site that is asked for
pub record DebugsUntil (why : TalkFailure) (said : Option ReplayData) (bytes left left' before after : List ℕ) : Type 0 where
  pub case : CaseData
  pub site : Site
  pub loads : Loads said bytes case
  pub names : loads.settings.sites ≡ site ∷ []
  pub talked : TalkedUntil why case site left left' before after

-- nothing was read from the input, and nothing written
abbrev pub IsSilent : List ℕ → List ℕ → List ℕ → List ℕ → Type 0
IsSilent left left' before after = (left' ≡ left) × (after ≡ before)

-- what the work on a case leaves that ends with a device that failed, or without memory, which may be missing before the talk or in it
abbrev pub CaseUntil : SiteStatus → CaseData → Site → List ℕ → List ℕ → List ℕ → List ℕ → Type 0
CaseUntil InputFault c site left left' before after = TalkedUntil failure.InputFault c site left left' before after
CaseUntil (Ended status.WriteFault) c site left left' before after = TalkedUntil failure.OutputFault c site left left' before after
CaseUntil (Ended status.NoMemory) c site left left' before after =
    IsSilent left left' before after ⊎ TalkedUntil failure.NoMemory c site left left' before after
CaseUntil (Ended answer) c site left left' before after = Unit {0}
CaseUntil (NoSite missing) c site left left' before after = Unit {0}

-- the same of a call
abbrev pub Until : SiteStatus → Option ReplayData → List ℕ → List ℕ → List ℕ → List ℕ → List ℕ → Type 0
Until InputFault said bytes left left' before after = DebugsUntil failure.InputFault said bytes left left' before after
Until (Ended status.WriteFault) said bytes left left' before after = DebugsUntil failure.OutputFault said bytes left left' before after
Until (Ended status.NoMemory) said bytes left left' before after =
    IsSilent left left' before after ⊎ DebugsUntil failure.NoMemory said bytes left left' before after
Until (Ended answer) said bytes left left' before after = Unit {0}
Until (NoSite missing) said bytes left left' before after = Unit {0}

-- the call may have talked
abbrev pub may_talk : SiteStatus → Bool
may_talk (Ended status.Done) = true
may_talk (Ended status.WriteFault) = true
may_talk (Ended status.NoMemory) = true
may_talk (Ended answer) = false
may_talk (NoSite missing) = false
may_talk InputFault = true
