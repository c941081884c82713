-- What a worker keeps for its runs.
use Rattle.std.specs.Prelude.{List}
use Rattle.fs_model.specs.declared.sites.Site.{Site}
use Rattle.fs_model.specs.Case.{CaseData}
use Rattle.known_states.specs.Known.{KeyData}

-- the case, the site whose run is in hand, and the keys of states that this run has passed
pub record ShortcutsData : Type 0 where
  pub case : CaseData
  pub own : Site
  pub keys : List KeyData
