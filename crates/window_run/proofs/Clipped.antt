-- The totals of a window on a board to which rows were added, in the words of the board with its blanks filled.
use Rattle.std.proofs.Common.{All, ◌≡◌, ℕ, zero, suc, ◌+◌, ◌<◌, ◌≤◌, cond, Bool, true, false, List, [], ◌∷◌, length, Option, Some, None, refl, ap, sym, subst, ◌∙◌, ⊎_elim, arith}
use Rattle.std.specs.Prelude.{slice_get}
use Rattle.std.proofs.Math.Path.{fun_ext}
use Rattle.std.proofs.lemmas.Bool.{cases_lt}
use Rattle.fs_model.specs.declared.sites.Site.{Site}
use Rattle.fs_model.specs.declared.sites.Job.{Job}
use Rattle.fs_model.specs.declared.outcomes.Outcome.{Outcome}
use Rattle.fs_model.specs.declared.outcomes.Outcome.TheVariants.{NoEffect}
use Rattle.fs_model.specs.declared.outcomes.Row.{Row}
use Rattle.fs_model.specs.AccessLog.{log}
use Rattle.fs_model.specs.Case.{CaseData}
use Rattle.fs_model.specs.Filling.{board_filled, board_total, filled_place, share}
use Rattle.fs_model.specs.Job.{HasOutcomes, JobTable, jobs_in, jobs_of, site_of}
use Rattle.fs_model.specs.Outcome.{TotalsData, outcome, same_outcome, total_at}
use Rattle.fs_model.specs.Run.{cycles}
use Rattle.fs_model.specs.Verdict.{IsRight}
use Rattle.golden_trace.specs.Goldens.{GoldenData, IsGolden}
use Rattle.command_line.specs.declared.commands.Format.{Format}
use Rattle.phases.proofs.Reported.{cycles_is}
use Rattle.fs_model.proofs.Tables.{list_of}
use Rattle.result_keeper.specs.Acceptance.{outcome_in}
use Rattle.result_keeper.specs.Boards.{filed}
use Rattle.result_keeper.proofs.Right.{right_rows}
use Rattle.campaign.proofs.Whole.{filled_right}
use Rattle.kept_commands.proofs.Trusted.{each_place, length-filled}
use Rattle.window_counts.specs.Windows.{HasDueBelow, HasDueOutcomes, clipped, clipped_jobs, weight_inside, window_count, window_dead, window_len, window_sites}
use Rattle.window_counts.proofs.Due.{weighs_due}
use Rattle.window_counts.proofs.Summed.{counts_right}
use Rattle.window_run.specs.Ends.{HasEachDue}
use Rattle.window_run.specs.Says.{board_report_in, window_text_in, window_totals}

-- ---- a job that is not due counts nothing

clipped_weight : (w : List Bool) (job : Job) → (clipped w job).weight ≡ weight_inside w job
unfolding clipped
clipped_weight w job = refl

share_none : (job : Job) (place : Option Outcome) (o : Outcome) → job.weight ≡ 0 → share job place o ≡ 0
share_none job None o e = refl
share_none job (Some x) o e = elim (same_outcome x o) as (λ b. cond b job.weight 0 ≡ 0) [ true ↦ e | false ↦ refl ]

-- ---- the board to which right rows were added

module _ (c : CaseData) (rows : List Row) (right : All (IsRight c) rows) (w : List Bool) (o : Outcome) where
  -- a blank place that a row filled, or that is not due
  place_same : (job : Job) (place : Option Outcome) → outcome_in rows (site_of job) ≡ place → (0 < weight_inside w job → (x : Outcome) × (place ≡ Some x))
      → share (clipped w job) place o ≡ share (clipped w job) (filled_place (outcome c) job None) o
  place_same job (Some x) is each = ap (λ (p : Outcome). share (clipped w job) (Some p) o) (right_rows c rows (site_of job) x right is)
  place_same job None is each =
      ⊎_elim
      (λ (some : 0 < weight_inside w job). let there = (each some).1 in absurd (cc))
      (λ (none : weight_inside w job ≤ 0). sym (share_none (clipped w job) (filled_place (outcome c) job None) o (omega (arith, clipped_weight w job))))
      (cases_lt 0 (weight_inside w job))

  pub filed_total : (list : List Job) (board : List (Option Outcome)) → length board ≡ length list → HasDueBelow w list (filed list board rows) (length list)
      → board_total (clipped_jobs w list) (filed list board rows) o ≡ board_total (clipped_jobs w list) (board_filled (outcome c) list board) o
  unfolding board_filled
  filed_total [] board long each = refl
  filed_total (job ∷ list) [] long each = absurd (omega arith)
  filed_total (job ∷ list) (Some x ∷ board) long each =
      ap (λ (n : ℕ). share (clipped w job) (Some x) o + n)
      (filed_total list board (omega arith) (λ i j low at due. each (suc i) j (omega arith) at due))
  filed_total (job ∷ list) (None ∷ board) long each =
      ap (λ (n : ℕ). n + board_total (clipped_jobs w list) (filed list board rows) o)
      (place_same job (outcome_in rows (site_of job)) refl
      (λ some. let there = each 0 job (omega arith) refl (weighs_due w job some) in let at = there.1 in (there.0, cc)))
      ∙ ap (λ (n : ℕ). share (clipped w job) (filled_place (outcome c) job None) o + n)
      (filed_total list board (omega arith) (λ i j low at due. each (suc i) j (omega arith) at due))

  pub filed_totals : (board new : List (Option Outcome)) → length board ≡ length (jobs_in c) → new ≡ filed (jobs_in c) board rows → HasEachDue w c new
      → window_totals c w new o ≡ window_totals c w (board_filled (outcome c) (jobs_in c) board) o
  filed_totals board new long is each =
      let each_filed = subst (HasEachDue w c) is each in
      ap (λ (b : List (Option Outcome)). window_totals c w b o) is
      ∙ ap (λ (n : ℕ). n + cond (same_outcome NoEffect o) (window_dead (log c) w) 0) (filed_total (jobs_in c) board long each_filed)

-- ---- the totals that were counted

-- those of a table of the case's jobs
pub table_totals : (d c : CaseData) (table : JobTable) (t : TotalsData) (w : List Bool) (board : List (Option Outcome)) → d ≡ c → table ≡ jobs_of (log c)
    → ((o : Outcome) → total_at t o ≡ board_total (clipped_jobs w table.list) board o + cond (same_outcome NoEffect o) (window_dead (log d) w) 0)
    → (o : Outcome) → total_at t o ≡ window_totals c w board o
table_totals d c table t w board same is each o =
    each o
    ∙ ap (λ (x : CaseData). board_total (clipped_jobs w table.list) board o + cond (same_outcome NoEffect o) (window_dead (log x) w) 0) same
    ∙ ap (λ (l : List Job). board_total (clipped_jobs w l) board o + cond (same_outcome NoEffect o) (window_dead (log c) w) 0) (list_of c table is)

-- the text of a board, by what was counted
pub counted_text : (asked : Format) (c : CaseData) (g : GoldenData) (w : List Bool) (board : List (Option Outcome)) (n inside sites : ℕ) (t : TotalsData) → IsGolden c g → n ≡ length g.touches
    → inside ≡ window_len w → sites ≡ length (window_sites c w) → ((o : Outcome) → total_at t o ≡ window_totals c w board o)
    → window_text_in asked n inside sites (total_at t) ≡ board_report_in asked c w board
counted_text asked c g w board n inside sites t golden n_is inside_is sites_are each =
    ap (λ (k : ℕ). window_text_in asked k inside sites (total_at t)) (n_is ∙ sym (cycles_is c g golden))
    ∙ ap (λ (k : ℕ). window_text_in asked (cycles c) k sites (total_at t)) inside_is
    ∙ ap (λ (k : ℕ). window_text_in asked (cycles c) (window_len w) k (total_at t)) sites_are
    ∙ ap (window_text_in asked (cycles c) (window_len w) (length (window_sites c w))) (fun_ext each)

-- where the outcomes of the board are right, those of the filled one are the counts of the sites
pub filled_counts : (c : CaseData) (w : List Bool) (board : List (Option Outcome)) → length board ≡ length (jobs_in c) → HasOutcomes (outcome c) (jobs_in c) board
    → (o : Outcome) → window_totals c w (board_filled (outcome c) (jobs_in c) board) o ≡ window_count c w o
unfolding jobs_of
filled_counts c w board long right o =
    let filled = board_filled (outcome c) (jobs_in c) board in
    let right_now = filled_right (outcome c) (jobs_in c) board right in
    counts_right w c (jobs_of (log c)) filled (window_totals c w filled o) o refl (length-filled (outcome c) (jobs_in c) board long)
    (λ i job low at due. each_place (outcome c) (jobs_in c) board i long low)
    (λ i job x at due here. right_now i job x at here) refl
