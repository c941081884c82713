-- What parts of a call that names sites say of its words and its image.
use Rattle.std.proofs.Common.{◌≡◌, List, ℕ, All, sym, ◌∙◌}
use Rattle.std.specs.Prelude.{Option, Some, None}
use Rattle.fs_model.specs.declared.sites.Site.{Site}
use Rattle.fs_model.specs.Case.{CaseData}
use Rattle.golden_trace.specs.Goldens.{GoldenData, IsGolden}
use Rattle.command_line.specs.Replay.{ReplayData}
use Rattle.phases.specs.Loading.{IsImageCause, LoadsBy}
use Rattle.phases.specs.SiteCauses.{IsCaseAnswer, IsCause, Loads}
use Rattle.phases.specs.Sites.{IsSite}
use Rattle.phases.specs.Status.{IsWriting}
use Rattle.phases.specs.declared.status.Status.{Status}
use Rattle.phases.specs.declared.status.Status.TheVariants as status
use Rattle.phases.specs.declared.site_status.SiteStatus.{SiteStatus}
use Rattle.phases.specs.declared.site_status.SiteStatus.TheVariants.{Ended, NoSite, InputFault}
use Rattle.phases.proofs.Reported.{halts}

-- only writing was left
pub of_writing : (c : CaseData) (g : GoldenData) (sites : List Site) (answer : Status) → IsGolden c g → All (IsSite c) sites → IsWriting answer → IsCaseAnswer c sites (Ended answer)
of_writing c g sites status.Done golden all left = (halts c g golden, all)
of_writing c g sites status.WriteFault golden all left = (halts c g golden, all)
of_writing c g sites status.NoMemory golden all left = tt
of_writing c g sites answer golden all left = absurd left

-- what an image is refused for is a cause of that answer
pub of_image : (said : Option ReplayData) (settings : ReplayData) (bytes : List ℕ) (answer : Status) → said ≡ Some settings → IsImageCause settings.case bytes answer
    → IsCause said bytes (Ended answer)
of_image said settings bytes (status.BadImage n) e h = record { settings = settings; line_is = e; refused = h }
of_image said settings bytes status.ReadFault e h = λ none. let no : Some settings ≡ None = sym e ∙ none in absurd cc
of_image said settings bytes status.NoMemory e h = tt
of_image said settings bytes answer e h = absurd h

module _ (said : Option ReplayData) (settings : ReplayData) (bytes : List ℕ) (c : CaseData) (e : said ≡ Some settings) (loads : LoadsBy settings.case bytes c) where
  abbrev pub loaded : Loads said bytes c
  loaded = record { settings = settings; line_is = e; loads = loads }

  -- and so is how the work on its case ends
  pub of_case : (answer : SiteStatus) → IsCaseAnswer c settings.sites answer → IsCause said bytes answer
  of_case (Ended (status.BadGolden fault)) h = record { case = c; loads = loaded; ends = h }
  of_case (Ended status.Done) h = record { case = c; loads = loaded; ends = h }
  of_case (Ended status.WriteFault) h = record { case = c; loads = loaded; ends = h }
  of_case (Ended status.NoMemory) h = tt
  of_case (Ended answer) h = absurd h
  of_case (NoSite site) h = record { case = c; loads = loaded; ends = h }
  of_case InputFault h = record { case = c; loads = loaded; ends = h }
