-- The workers of a page: each has the jobs of its share, and the text of their lines once it has run them.
use Rattle.std.specs.Prelude.{◌≡◌, ℕ, ◌<◌, false, List, All, length, slice_index_or}
use Rattle.std.specs.List.{flat_map}
use Rattle.fs_model.specs.Case.{CaseData}
use Rattle.run_answers.specs.Line.{answer_line}
use Rattle.run_answers.specs.Reference.{IsJobIn}
use Rattle.answer_pages.specs.declared.worker.Claim.{Claim}
use Rattle.answer_pages.specs.declared.worker.Worker.{Worker}

-- the lines of the jobs of a share, in order
abbrev pub share_text : CaseData → List Claim → List ℕ
share_text c claims = flat_map (λ (claim : Claim). answer_line c claim.job) claims

-- the lines of the shares of all workers, in their order
abbrev pub shares_text : CaseData → List Worker → List ℕ
shares_text c workers = flat_map (λ (w : Worker). share_text c w.claims.items) workers

-- a worker whose runner and jobs are of the case
pub record IsWorkerIn (c : CaseData) (w : Worker) : Type 0 where
  pub runner : w.runner ≡ c
  pub jobs : All (λ (claim : Claim). IsJobIn c claim.job) w.claims.items

-- it has the lines of its share, unless memory was refused
pub record HasAnswered (c : CaseData) (before after : Worker) : Type 0 where
  pub ready : IsWorkerIn c after
  pub claims : after.claims.items ≡ before.claims.items
  pub text : after.refused ≡ false → after.text.items ≡ share_text c before.claims.items

-- each worker has
abbrev pub EachAnswered : CaseData → List Worker → List Worker → Type 0
EachAnswered c before after = (k : ℕ) (d : Worker) → k < length before → HasAnswered c (slice_index_or before k d) (slice_index_or after k d)
