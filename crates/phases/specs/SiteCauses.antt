-- The cause of each answer of a call that names sites, by its words and its image.
use Rattle.std.specs.Prelude.{◌≡◌, ◌≢◌, ℕ, List, All, Option, Some, None}
use Rattle.fs_model.specs.declared.sites.Site.{Site}
use Rattle.fs_model.specs.Case.{CaseData}
use Rattle.fs_model.specs.Run.{golden}
use Rattle.golden_trace.specs.Goldens.{IsFault}
use Rattle.command_line.specs.Replay.{ReplayData}
use Rattle.phases.specs.Baselines.{Halts}
use Rattle.phases.specs.Loading.{IsBadImage, LoadsBy}
use Rattle.phases.specs.Sites.{IsFirstMissing, IsSite}
use Rattle.phases.specs.declared.status.Status.TheVariants as status
use Rattle.phases.specs.declared.site_status.SiteStatus.{SiteStatus}
use Rattle.phases.specs.declared.site_status.SiteStatus.TheVariants.{Ended, NoSite, InputFault}

-- how the work on sites of a case may end
abbrev pub IsCaseAnswer : CaseData → List Site → SiteStatus → Type 0
IsCaseAnswer c sites (Ended (status.BadGolden fault)) = IsFault fault c.limit (golden c)
IsCaseAnswer c sites (Ended status.Done) = Halts c × All (IsSite c) sites
IsCaseAnswer c sites (Ended status.WriteFault) = Halts c × All (IsSite c) sites
IsCaseAnswer c sites (Ended status.NoMemory) = Unit {0}
IsCaseAnswer c sites (Ended answer) = ⊥
IsCaseAnswer c sites (NoSite site) = Halts c × IsFirstMissing c sites site
IsCaseAnswer c sites InputFault = Halts c × All (IsSite c) sites

-- the words are a line, and the image that it asks for is that of the case
pub record Loads (said : Option ReplayData) (bytes : List ℕ) (c : CaseData) : Type 0 where
  pub settings : ReplayData
  pub line_is : said ≡ Some settings
  pub loads : LoadsBy settings.case bytes c

-- the words are a line, and the image that it asks for is refused by this number
pub record IsRefused (said : Option ReplayData) (bytes : List ℕ) (number : ℕ) : Type 0 where
  pub settings : ReplayData
  pub line_is : said ≡ Some settings
  pub refused : IsBadImage settings.case bytes number

-- a case is loaded, and the work on the sites that are asked for may end so
pub record EndsOnCase (said : Option ReplayData) (bytes : List ℕ) (answer : SiteStatus) : Type 0 where
  pub case : CaseData
  pub loads : Loads said bytes case
  pub ends : IsCaseAnswer case loads.settings.sites answer

-- The cause of each answer, by the words and the image. Of the causes of Usage, BadImage, BadGolden, NoSite and Done no two hold at once,
-- so each of these comes exactly where its cause holds, unless a device fails or memory runs out.
abbrev pub IsCause : Option ReplayData → List ℕ → SiteStatus → Type 0
IsCause said bytes (Ended status.Usage) = said ≡ None
IsCause said bytes (Ended status.ReadFault) = said ≢ None
IsCause said bytes (Ended (status.BadImage number)) = IsRefused said bytes number
IsCause said bytes (Ended status.NoMemory) = Unit {0}
IsCause said bytes answer = EndsOnCase said bytes answer

-- the call answers for the words and the image alone, and not for a device or for memory
abbrev pub IsOwn : SiteStatus → Type 0
IsOwn (Ended status.ReadFault) = ⊥
IsOwn (Ended status.WriteFault) = ⊥
IsOwn (Ended status.NoMemory) = ⊥
IsOwn (Ended answer) = Unit {0}
IsOwn (NoSite site) = Unit {0}
IsOwn InputFault = ⊥
