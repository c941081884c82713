-- Totals over a board, job by job, of the jobs that are due in a window.
use Rattle.std.proofs.Common.{◌≡◌, ℕ, zero, suc, ◌+◌, ◌-◌, ◌<◌, ◌≤◌, cond, Bool, true, false, List, [], ◌∷◌, length, take, Option, Some, None, refl, sym, ap, ◌∙◌, ⊎_elim, arith}
use Rattle.std.specs.Prelude.{slice_get, sum_by, filter}
use Rattle.std.proofs.lemmas.List.{length-map, take_all}
use Rattle.std.proofs.lemmas.List.Sums.{sum_by-cons}
use Rattle.std.proofs.lemmas.Option.{slice_get-get_or, slice_get_within}
use Rattle.std.proofs.lemmas.Bool.{cases_lt, cases_eq}
use Rattle.std.proofs.Common.{get_or}
use Rattle.fs_model.specs.declared.sites.Site.{Site}
use Rattle.fs_model.specs.declared.sites.Job.{Job}
use Rattle.fs_model.specs.declared.outcomes.Outcome.{Outcome}
use Rattle.fs_model.specs.declared.outcomes.Outcome.TheVariants.{NoEffect}
use Rattle.fs_model.specs.Case.{CaseData}
use Rattle.fs_model.specs.Run.{cycles}
use Rattle.fs_model.specs.Outcome.{TotalsData, no_totals, total_at, sum_of, same_outcome, added, outcome}
use Rattle.fs_model.specs.AccessLog.{log}
use Rattle.fs_model.specs.Job.{site_of, total, JobTable, jobs_of, job_list}
use Rattle.fs_model.specs.Filling.{share, board_total}
use Rattle.fs_model.proofs.EachOutcome.{total_at-added, total_at-totals_of, sum_of-totals_of}
use Rattle.def_use.specs.Board.{HasOutcomeAt}
use Rattle.def_use.specs.declared.pass.Read.{Read}
use Rattle.fault_space.proofs.Boards.{all_weights, board_sum, total_more, sum_more, sum_within}
use Rattle.fault_space.proofs.Numbered.{IsJobOf}
use Rattle.window_counts.specs.Windows.{cycles_inside, weight_inside, window_sites, window_count, window_dead, clipped, clipped_jobs, IsDue, HasDueBelow, HasDueOutcomes}
use Rattle.window_counts.proofs.Tables.{before-le}
use Rattle.window_counts.proofs.Due.{due_weighs, weighs_due}
use Rattle.window_counts.proofs.InWindow.{pruned_window}
use Rattle.window_counts.proofs.Size.{window_whole, window_size}

-- ---- clipped jobs

clipped_at : (w : List Bool) (list : List Job) (i : ℕ) (job : Job) → slice_get list i ≡ Some job → slice_get (clipped_jobs w list) i ≡ Some (clipped w job)
clipped_at w [] i job e = absurd cc
clipped_at w (x ∷ list) zero job e = let same : x ≡ job = cc in ap (λ j. Some (clipped w j)) same
clipped_at w (x ∷ list) (suc i) job e = clipped_at w list i job e

clipped_weight : (w : List Bool) (job : Job) → (clipped w job).weight ≡ weight_inside w job
unfolding clipped
clipped_weight w job = refl

clipped_site : (w : List Bool) (job : Job) → site_of (clipped w job) ≡ site_of job
unfolding clipped site_of
clipped_site w job = refl

clipped-le : (w : List Bool) (list : List Job) → all_weights (clipped_jobs w list) ≤ all_weights list
clipped-le w [] = omega arith
clipped-le w (x ∷ list) =
    let few = before-le w (x.cycle + 1 - x.weight) (x.cycle + 1) in
    omega (arith, few, clipped_weight w x, clipped-le w list, sum_by-cons (λ (j : Job). j.weight) x list, sum_by-cons (λ (j : Job). j.weight) (clipped w x) (clipped_jobs w list))

-- the clipped weight of a job of a read
pub read_weight : (w : List Bool) (list : List Job) (n : ℕ) (read : Read) (is : IsJobOf list n read) → (clipped w is.job).weight ≡ cycles_inside w (read.cycle + 1 - read.weight) read.cycle
unfolding clipped
read_weight w list n read is = rw (is.cycle, is.weight) refl

-- ---- the first n places

-- the totals are those of the first n places, and each due job of them has an outcome
pub record IsSummed (w : List Bool) (list : List Job) (board : List (Option Outcome)) (n : ℕ) (t : TotalsData) : Type 0 where
  pub totals : (o : Outcome) → total_at t o ≡ board_total (take n (clipped_jobs w list)) (take n board) o
  pub sum : sum_of t ≡ board_sum (take n (clipped_jobs w list)) (take n board)
  pub whole : HasDueBelow w list board n

pub none_summed : (w : List Bool) (list : List Job) (board : List (Option Outcome)) (t : TotalsData) → t ≡ no_totals → IsSummed w list board 0 t
none_summed w list board t e = record {
  totals = λ o. ap (λ (x : TotalsData). total_at x o) e ∙ total_at-totals_of (λ p. 0) o;
  sum = ap sum_of e ∙ sum_of-totals_of (λ p. 0);
  whole = λ i job low at due. absurd (omega arith);
}

pub one_more : (w : List Bool) (list : List Job) (board : List (Option Outcome)) (n : ℕ) (read : Read) (weight : ℕ) (x : Outcome) (t u : TotalsData) → IsJobOf list n read →
    weight ≡ cycles_inside w (read.cycle + 1 - read.weight) read.cycle → slice_get board n ≡ Some (Some x) →
    u ≡ added t x weight → sum_of u ≡ sum_of t + weight → IsSummed w list board n t → IsSummed w list board (n + 1) u
one_more w list board n read weight x t u is weighs at plus sum before =
    let next : n + 1 ≡ suc n = omega arith in
    let there = clipped_at w list n is.job is.there in
    let same : (clipped w is.job).weight ≡ weight = read_weight w list n read is ∙ sym weighs in
    record {
      totals = λ o. ap (λ v. total_at v o) plus ∙ total_at-added t x o weight
          ∙ rw (next, total_more (clipped_jobs w list) board n (clipped w is.job) (Some x) o there at, same) (ap (λ m. m + cond (same_outcome x o) weight 0) (before.totals o));
      sum = sum ∙ rw (next, sum_more (clipped_jobs w list) board n (clipped w is.job) (Some x) there at, same) (ap (λ m. m + weight) before.sum);
      whole = λ i job low found due. ⊎_elim (λ (e : i ≡ n). (x, rw e at)) (λ (ne : i ≡ n → ⊥). before.whole i job (omega arith) found due) (cases_eq i n);
    }

-- ---- a job that is not due

share_none : (job : Job) (place : Option Outcome) (o : Outcome) → job.weight ≡ 0 → share job place o ≡ 0
share_none job None o e = refl
share_none job (Some x) o e = elim (same_outcome x o) as (λ b. cond b job.weight 0 ≡ 0) [ true ↦ e | false ↦ refl ]

one_past : (w : List Bool) (list : List Job) (board : List (Option Outcome)) (n : ℕ) (read : Read) (t : TotalsData) → IsJobOf list n read → length board ≡ length list →
    cycles_inside w (read.cycle + 1 - read.weight) read.cycle ≡ 0 → IsSummed w list board n t → IsSummed w list board (n + 1) t
one_past w list board n read t is long none before =
    let next : n + 1 ≡ suc n = omega arith in
    let there = clipped_at w list n is.job is.there in
    let same : (clipped w is.job).weight ≡ 0 = read_weight w list n read is ∙ none in
    let low : n < length board = omega (arith, slice_get_within list n is.job is.there) in
    let at : slice_get board n ≡ Some (get_or board n None) = slice_get-get_or board n None low in
    record {
      totals = λ o. before.totals o ∙ rw (next, total_more (clipped_jobs w list) board n (clipped w is.job) (get_or board n None) o there at, share_none (clipped w is.job) (get_or board n None) o same) (omega arith);
      sum = before.sum ∙ rw (next, sum_more (clipped_jobs w list) board n (clipped w is.job) (get_or board n None) there at, same) (omega arith);
      whole = λ i job below found due. ⊎_elim (λ (e : i ≡ n).
          let here : slice_get list n ≡ Some job = rw e at found in
          let both : is.job ≡ job = let two : Some is.job ≡ Some job = sym is.there ∙ here in cc in
          let some = due_weighs w job due in
          let zero_weight : weight_inside w job ≡ 0 = ap (weight_inside w) (sym both) ∙ sym (clipped_weight w is.job) ∙ same in
          absurd (omega arith))
          (λ (ne : i ≡ n → ⊥). before.whole i job (omega arith) found due) (cases_eq i n);
    }

-- all jobs of a read are due, or none is
pub all_past : (w : List Bool) (list : List Job) (board : List (Option Outcome)) (first count : ℕ) (read : Read) (t : TotalsData) → ((number : ℕ) → first ≤ number → number < first + count → IsJobOf list number read) →
    length board ≡ length list → cycles_inside w (read.cycle + 1 - read.weight) read.cycle ≡ 0 → IsSummed w list board first t → (k : ℕ) → k ≤ count → IsSummed w list board (first + k) t
all_past w list board first count read t jobs long none before zero low = let e : first + 0 ≡ first = omega arith in rw e before
all_past w list board first count read t jobs long none before (suc k) low =
    let e : first + suc k ≡ (first + k) + 1 = omega arith in
    rw e (one_past w list board (first + k) read t (jobs (first + k) (omega arith) (omega arith)) long none (all_past w list board first count read t jobs long none before k (omega arith)))

pub job_due : (w : List Bool) (list : List Job) (n : ℕ) (read : Read) (is : IsJobOf list n read) → 0 < cycles_inside w (read.cycle + 1 - read.weight) read.cycle → IsDue w is.job
job_due w list n read is some = weighs_due w is.job (omega (arith, read_weight w list n read is, clipped_weight w is.job))

-- ---- room

pub within_weights : (w : List Bool) (list : List Job) (board : List (Option Outcome)) (n : ℕ) (read : Read) → IsJobOf list n read →
    board_sum (take n (clipped_jobs w list)) (take n board) + cycles_inside w (read.cycle + 1 - read.weight) read.cycle ≤ all_weights list
within_weights w list board n read is =
    omega (arith, sum_within (clipped_jobs w list) board n (clipped w is.job) (clipped_at w list n is.job is.there), read_weight w list n read is, clipped-le w list)

board_all : (list : List Job) (board : List (Option Outcome)) → length board ≡ length list → board_sum list board ≡ all_weights list
board_all [] board e = refl
board_all (x ∷ list) [] e = absurd (omega arith)
board_all (x ∷ list) (y ∷ board) e = rw (sum_by-cons (λ (j : Job). j.weight) x list) (ap (λ n. x.weight + n) (board_all list board (omega arith)))

-- ---- the whole board

pub all_sum : (w : List Bool) (list : List Job) (board : List (Option Outcome)) (n : ℕ) (t : TotalsData) → IsSummed w list board n t → length list ≤ n → length board ≡ length list → sum_of t ≡ all_weights (clipped_jobs w list)
all_sum w list board n t h long len =
    let few : length (clipped_jobs w list) ≤ n = omega (arith, length-map list (clipped w)) in
    let low : length board ≤ n = omega arith in
    h.sum ∙ rw (take_all n (clipped_jobs w list) few, take_all n board low) (board_all (clipped_jobs w list) board (omega (arith, length-map list (clipped w))))

pub all_totals : (w : List Bool) (list : List Job) (board : List (Option Outcome)) (n : ℕ) (t : TotalsData) → IsSummed w list board n t → length list ≤ n → length board ≡ length list → (o : Outcome) →
    total_at t o ≡ board_total (clipped_jobs w list) board o
all_totals w list board n t h long len o =
    let few : length (clipped_jobs w list) ≤ n = omega (arith, length-map list (clipped w)) in
    let low : length board ≤ n = omega arith in
    h.totals o ∙ rw (take_all n (clipped_jobs w list) few, take_all n board low) refl

-- the sites of the window, live and dead
pub case_whole : (w : List Bool) (c : CaseData) (table : JobTable) → table ≡ jobs_of (log c) → length w ≡ cycles c →
    all_weights (clipped_jobs w table.list) + window_dead (log c) w ≡ length (window_sites c w)
unfolding jobs_of log
case_whole w c table is n_is =
    let lists : table.list ≡ job_list (log c) = ap (λ (x : JobTable). x.list) is in
    ap (λ js. all_weights (clipped_jobs w js) + window_dead (log c) w) lists ∙ window_whole (log c) w n_is ∙ sym (window_size c w n_is)

-- ---- on a board of right outcomes

total-cons : (outcomes : Site → Outcome) (job : Job) (list : List Job) (o : Outcome) → total outcomes (job ∷ list) o ≡ cond (same_outcome (outcomes (site_of job)) o) job.weight 0 + total outcomes list o
unfolding total
total-cons outcomes job list o =
    elim (same_outcome (outcomes (site_of job)) o) as (λ b. sum_by (λ (j : Job). j.weight) (cond b (job ∷ filter (λ j. same_outcome (outcomes (site_of j)) o) list) (filter (λ j. same_outcome (outcomes (site_of j)) o) list)) ≡ cond b job.weight 0 + sum_by (λ (j : Job). j.weight) (filter (λ j. same_outcome (outcomes (site_of j)) o) list))
    [ true ↦ sum_by-cons (λ (j : Job). j.weight) job (filter (λ j. same_outcome (outcomes (site_of j)) o) list) | false ↦ omega arith ]

total-nil : (outcomes : Site → Outcome) (o : Outcome) → total outcomes [] o ≡ 0
unfolding total
total-nil outcomes o = refl

cond_none : (b : Bool) (n : ℕ) → n ≡ 0 → cond b n 0 ≡ 0
cond_none true n e = e
cond_none false n e = refl

place_right : (w : List Bool) (outcomes : Site → Outcome) (job : Job) (place : Option Outcome) (o : Outcome) → (0 < weight_inside w job → place ≡ Some (outcomes (site_of job))) →
    share (clipped w job) place o ≡ cond (same_outcome (outcomes (site_of (clipped w job))) o) (clipped w job).weight 0
place_right w outcomes job place o right =
    ⊎_elim (λ (some : 0 < weight_inside w job). rw (right some, clipped_site w job) refl)
    (λ (none : weight_inside w job ≤ 0).
    let e : (clipped w job).weight ≡ 0 = omega (arith, clipped_weight w job) in
    share_none (clipped w job) place o e ∙ sym (cond_none (same_outcome (outcomes (site_of (clipped w job))) o) (clipped w job).weight e))
    (cases_lt 0 (weight_inside w job))

pub board_right : (w : List Bool) (outcomes : Site → Outcome) (list : List Job) (board : List (Option Outcome)) (o : Outcome) → length board ≡ length list → HasDueBelow w list board (length list) → HasDueOutcomes w outcomes list board →
    board_total (clipped_jobs w list) board o ≡ total outcomes (clipped_jobs w list) o
board_right w outcomes [] board o len whole has = sym (total-nil outcomes o)
board_right w outcomes (x ∷ list) [] o len whole has = absurd (omega arith)
board_right w outcomes (x ∷ list) (y ∷ board) o len whole has =
    let here = place_right w outcomes x y o (λ some.
    let due = weighs_due w x some in
    let first : HasOutcomeAt (y ∷ board) 0 = whole 0 x (omega arith) refl due in
    let is : first.0 ≡ outcomes (site_of x) = has 0 x first.0 refl due first.1 in
    let place : y ≡ Some first.0 = let e = first.1 in cc in
    place ∙ ap Some is) in
    let rest = board_right w outcomes list board o (omega arith) (λ i job low at due. whole (suc i) job (omega arith) at due) (λ i job z at due b. has (suc i) job z at due b) in
    rw (total-cons outcomes (clipped w x) (clipped_jobs w list) o, here, rest) refl

pub counts_right : (w : List Bool) (c : CaseData) (table : JobTable) (board : List (Option Outcome)) (t : ℕ) (o : Outcome) → table ≡ jobs_of (log c) →
    length board ≡ length table.list → HasDueBelow w table.list board (length table.list) → HasDueOutcomes w (outcome c) table.list board →
    t ≡ board_total (clipped_jobs w table.list) board o + cond (same_outcome NoEffect o) (window_dead (log c) w) 0 → t ≡ window_count c w o
unfolding jobs_of
counts_right w c table board t o is len whole has made =
    let lists : table.list ≡ job_list (log c) = ap (λ (x : JobTable). x.list) is in
    made
    ∙ ap (λ m. m + cond (same_outcome NoEffect o) (window_dead (log c) w) 0) (board_right w (outcome c) table.list board o len whole has ∙ ap (λ js. total (outcome c) (clipped_jobs w js) o) lists)
    ∙ sym (pruned_window c w o)
