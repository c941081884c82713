-- The totals of a whole board, in the words of the campaign.
use Rattle.std.proofs.Common.{◌≡◌, ℕ, ◌+◌, cond, List, Option, ap, sym, subst, ◌∙◌}
use Rattle.fs_model.specs.declared.sites.Job.{Job}
use Rattle.fs_model.specs.declared.outcomes.Outcome.{Outcome}
use Rattle.fs_model.specs.declared.outcomes.Outcome.TheVariants.{NoEffect}
use Rattle.fs_model.specs.Job.{jobs_in, JobTable, jobs_of, HasOutcomes}
use Rattle.fs_model.specs.AccessLog.{log, dead}
use Rattle.fs_model.specs.Case.{CaseData}
use Rattle.fs_model.specs.Filling.{board_total}
use Rattle.fs_model.specs.Outcome.{TotalsData, outcome, count, total_at, same_outcome}
use Rattle.result_keeper.specs.Keep.{KeeperData}
use Rattle.experiment.proofs.JobSites.{list_of, dead_of}

module _ (c : CaseData) (table : JobTable) (k k' : KeeperData) (board : List (Option Outcome)) where
  pub counts_in : (totals : TotalsData) → table ≡ jobs_of (log c) → k.case ≡ c → k ≡ k' → board ≡ k.board
      → ((d : CaseData) → table ≡ jobs_of (log d) → HasOutcomes (outcome d) table.list board → (o : Outcome) → total_at totals o ≡ count d o)
      → HasOutcomes (outcome k'.case) (jobs_in k'.case) k'.board → (o : Outcome) → total_at totals o ≡ count k'.case o
  counts_in totals is case same board_is counted has o =
      let cases : c ≡ k'.case = sym case ∙ ap (λ (x : KeeperData). x.case) same in
      let boards : board ≡ k'.board = board_is ∙ ap (λ (x : KeeperData). x.board) same in
      let here : HasOutcomes (outcome c) (jobs_in c) board = rw (cases, boards) has in
      let listed : HasOutcomes (outcome c) table.list board = subst (λ (l : List Job). HasOutcomes (outcome c) l board) (sym (list_of c table is)) here in
      counted c is listed o ∙ ap (λ (x : CaseData). count x o) cases

  pub sums_in : (o : Outcome) → table ≡ jobs_of (log c) → k.case ≡ c → k ≡ k' → board ≡ k.board
      → board_total table.list board o + cond (same_outcome NoEffect o) table.dead 0 ≡ board_total (jobs_in k'.case) k'.board o + cond (same_outcome NoEffect o) (dead (log k'.case)) 0
  sums_in o is case same board_is =
      let cases : c ≡ k'.case = sym case ∙ ap (λ (x : KeeperData). x.case) same in
      let boards : board ≡ k'.board = board_is ∙ ap (λ (x : KeeperData). x.board) same in
      ap (λ (l : List Job). board_total l board o + cond (same_outcome NoEffect o) table.dead 0) (list_of c table is)
      ∙ ap (λ (d : ℕ). board_total (jobs_in c) board o + cond (same_outcome NoEffect o) d 0) (dead_of c table is)
      ∙ ap (λ (x : CaseData). board_total (jobs_in x) board o + cond (same_outcome NoEffect o) (dead (log x)) 0) cases
      ∙ ap (λ (b : List (Option Outcome)). board_total (jobs_in k'.case) b o + cond (same_outcome NoEffect o) (dead (log k'.case)) 0) boards
