-- What parts of a call say of its words, its image and its talk.
use Rattle.std.proofs.Common.{◌≡◌, ℕ, true, List, length, inl, inr, refl, sym, ap, subst, ◌∙◌, arith}
use Rattle.std.specs.Prelude.{Option, Some, None, Result, Ok, Err, IfErr, OnOk, option_and_then, option_map}
use Rattle.fs_model.specs.declared.sites.Site.{Site}
use Rattle.command_line.specs.Replay.{ReplayData}
use Rattle.command_line.specs.Said.{CaseLineData}
use Rattle.fs_model.specs.Case.{CaseData}
use Rattle.fs_model.specs.Job.{log_of}
use Rattle.access_log.specs.LogData.{LogData, log_in}
use Rattle.def_use.specs.SiteJobs.{IsOfSpace}
use Rattle.golden_trace.specs.Goldens.{GoldenData, IsGolden}
use Rattle.phases.specs.Loading.{IsImageCause, LoadsBy}
use Rattle.phases.specs.SiteCauses.{Loads}
use Rattle.phases.specs.Sites.{IsSite}
use Rattle.phases.specs.declared.status.Status.{Status}
use Rattle.phases.specs.declared.status.Status.TheVariants as status
use Rattle.phases.specs.declared.site_status.SiteStatus.{SiteStatus}
use Rattle.phases.specs.declared.site_status.SiteStatus.TheVariants.{Ended, NoSite, InputFault}
use Rattle.phases.proofs.Reported.{cycles_is}
use Rattle.phases.proofs.SiteCauses.{loaded}
use Rattle.debug_session.specs.declared.session.SiteFacts.{SiteFacts}
use Rattle.debugger.specs.declared.serve.TalkFailure.{TalkFailure}
use Rattle.debugger.specs.declared.serve.TalkFailure.TheVariants as failure
use Rattle.debugger.specs.Talk.{BrokenOff, TalkData, IsTalk, talk_begun}
use Rattle.debugger.specs.Debug.{AreFacts, CaseUntil, Talked, TalkedUntil, Debugs, Until, asked_for, debug_asked, asked_site, may_talk, talk_status}

-- nothing is left of a call that an image is refused to
pub until_image : (said : Option ReplayData) (asked : CaseLineData) (bytes left before : List ℕ) (answer : Status) → IsImageCause asked bytes answer → Until (Ended answer) said bytes left left before before
until_image said asked bytes left before (status.BadImage n) h = tt
until_image said asked bytes left before status.ReadFault h = tt
until_image said asked bytes left before status.NoMemory h = inl (refl, refl)
until_image said asked bytes left before answer h = absurd h

module _ (said : Option ReplayData) (asked : CaseLineData) (site : Site) (bytes : List ℕ) (c : CaseData) (e : said ≡ Some (asked_for asked site)) (loads : LoadsBy asked bytes c) where
  abbrev its_case : Loads said bytes c
  its_case = loaded said (asked_for asked site) bytes c e loads

  -- what the work on a case leaves that was broken off is left of the call
  pub until_case : (answer : SiteStatus) (left left' before after : List ℕ) → CaseUntil answer c site left left' before after → Until answer said bytes left left' before after
  until_case InputFault left left' before after h = record { case = c; site = site; loads = its_case; names = refl; talked = h }
  until_case (Ended status.WriteFault) left left' before after h = record { case = c; site = site; loads = its_case; names = refl; talked = h }
  until_case (Ended status.NoMemory) left left' before after (inl silent) = inl silent
  until_case (Ended status.NoMemory) left left' before after (inr h) = inr (record { case = c; site = site; loads = its_case; names = refl; talked = h })
  until_case (Ended answer) left left' before after h = tt
  until_case (NoSite missing) left left' before after h = tt

  pub debugs : (left left' before after : List ℕ) → Talked c site left left' before after → Debugs said bytes left left' before after
  debugs left left' before after h = record { case = c; site = site; loads = its_case; names = refl; talked = h }

-- ---- words

-- what a line of `fail_replay` says, by the site that is taken of it
pub line_of : (said : Option ReplayData) (r : ReplayData) (site : Option Site) → said ≡ Some r → site ≡ asked_site r.view r.sites
    → option_and_then debug_asked said ≡ option_map (asked_for r.case) site
line_of said r site e f = ap (option_and_then debug_asked) e ∙ ap (option_map (asked_for r.case)) (sym f)

pub no_line : (said : Option ReplayData) → said ≡ None → option_and_then debug_asked said ≡ None
no_line said e = ap (option_and_then debug_asked) e

-- ---- how a talk ends

module _ (c : CaseData) (site : Site) (facts : SiteFacts) (t : TalkData) (left left' before after : List ℕ) (are : AreFacts c site facts) (e : t ≡ talk_begun c site facts) where
  -- it began at the flip
  pub talked_of : {T E : Type 0} (r : Result T E) (t' : TalkData) → OnOk r (IsTalk t t' left left' before after) → OnOk r (Talked c site left left' before after)
  talked_of (Ok value) t' h = record { talk = t'; facts = facts; facts_are = are; talks = subst (λ (s : TalkData). IsTalk s t' left left' before after) e h }
  talked_of (Err why) t' h = tt

  until : (why : TalkFailure) → BrokenOff why t left left' before after → TalkedUntil why c site left left' before after
  until why h = record { facts = facts; facts_are = are; breaks = subst (λ (s : TalkData). BrokenOff why s left left' before after) e h }

  -- and was broken off
  pub until_of : {T : Type 0} (r : Result T TalkFailure) → IfErr r (λ why. BrokenOff why t left left' before after) → CaseUntil (talk_status r) c site left left' before after
  until_of (Ok value) h = tt
  until_of (Err failure.InputFault) h = until failure.InputFault h
  until_of (Err failure.OutputFault) h = until failure.OutputFault h
  until_of (Err failure.NoMemory) h = inr (until failure.NoMemory h)

-- a call that talked may have
pub talk_may : {T : Type 0} (r : Result T TalkFailure) → may_talk (talk_status r) ≡ true
talk_may (Ok value) = refl
talk_may (Err failure.InputFault) = refl
talk_may (Err failure.OutputFault) = refl
talk_may (Err failure.NoMemory) = refl

-- ---- the site's job

-- a site of the case is one of the log of its golden run
pub of_space : (c : CaseData) (g : GoldenData) (site : Site) (l : LogData) → IsGolden c g → IsSite c site → l.touches ≡ g.touches → l.ram ≡ length c.ram → l.pc ≡ c.pc_cell → IsOfSpace (log_in l) site
unfolding log_of
of_space c g site l h is touches ram pc =
    let count = cycles_is c g h in
    let early = is.early in
    let low = is.cell.0 in
    let high = is.cell.1 in
    let all : length l.touches ≡ length g.touches = ap length touches in
    record { early = omega (arith, count, early, all); low = rw pc low; in_cells = omega (arith, high, ram); in_bits = is.bit }
