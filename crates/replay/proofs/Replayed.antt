-- What is written of a case is what was asked for.
use Rattle.std.proofs.Common.{◌≡◌, ℕ, List, ◌++◌, All, ap, ◌∙◌, subst}
use Rattle.std.specs.Prelude.{Option, Some}
use Rattle.fs_model.specs.Case.{CaseData}
use Rattle.fs_outside.specs.Writing.{TookPart}
use Rattle.command_line.specs.Replay.{ReplayData}
use Rattle.phases.specs.Loading.{LoadsBy}
use Rattle.phases.specs.Output.{IsText, Wrote, WrotePart}
use Rattle.phases.specs.Sites.{IsSite}
use Rattle.phases.proofs.SiteCauses.{loaded}
use Rattle.replay.specs.Replay.{Replays, ReplaysPart}
use Rattle.replay.specs.Text.{replay_text}

module _ (said : Option ReplayData) (settings : ReplayData) (bytes : List ℕ) (c : CaseData) (e : said ≡ Some settings) (loads : LoadsBy settings.case bytes c) where
  pub replays : (before after : List ℕ) → All (IsSite c) settings.sites × Wrote (IsText (replay_text c settings.view settings.sites)) before after → Replays said bytes before after
  replays before after h = record { case = c; loads = loaded said settings bytes c e loads; sites = h.0; written = h.1.written ∙ ap (λ (x : List ℕ). before ++ x) h.1.says }

  pub replays_part : (before after : List ℕ) → All (IsSite c) settings.sites × WrotePart (IsText (replay_text c settings.view settings.sites)) before after → ReplaysPart said bytes before after
  replays_part before after h = record { case = c; loads = loaded said settings bytes c e loads; sites = h.0; written = subst (λ (x : List ℕ). TookPart before after x) h.1.says h.1.written }
