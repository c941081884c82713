-- Totals over a board, job by job, of the jobs that pass.
use Rattle.std.proofs.Common.{◌≡◌, ℕ, zero, suc, ◌+◌, ◌<◌, ◌≤◌, ◌&&◌, cond, Bool, true, false, List, [], ◌∷◌, length, take, Option, Some, None, refl, sym, ap, ◌∙◌, arith}
use Rattle.std.specs.Prelude.{slice_get, sum_by, filter}
use Rattle.std.proofs.lemmas.List.Sums.{sum_by-cons}
use Rattle.std.proofs.lemmas.List.{take_all}
use Rattle.fs_model.specs.declared.sites.Site.{Site}
use Rattle.fs_model.specs.declared.sites.Job.{Job}
use Rattle.fs_model.specs.declared.outcomes.Outcome.{Outcome}
use Rattle.fs_model.specs.declared.outcomes.Outcome.TheVariants.{NoEffect}
use Rattle.fs_model.specs.Outcome.{TotalsData, no_totals, total_at, sum_of, same_outcome, added}
use Rattle.fs_model.specs.AccessLog.{AccessLog}
use Rattle.fs_model.specs.Job.{site_of, JobTable, jobs_of, job_list, HasOutcomes}
use Rattle.fs_model.specs.Filling.{share}
use Rattle.fs_model.proofs.EachOutcome.{total_at-added, total_at-totals_of, sum_of-totals_of}
use Rattle.def_use.specs.Board.{HasOutcomeBelow}
use Rattle.def_use.specs.declared.pass.Read.{Read}
use Rattle.fault_space.proofs.Numbered.{IsJobOf}
use Rattle.site_counts.specs.Boards.{board_where}
use Rattle.site_counts.specs.Counts.{total_where, weight_where, count_where, dead_where, spread}
use Rattle.site_counts.proofs.Passing.{pruned_board}

-- the totals are those of the first n places
pub record IsSummed (live : Site → Bool) (list : List Job) (board : List (Option Outcome)) (n : ℕ) (t : TotalsData) : Type 0 where
  pub totals : (o : Outcome) → total_at t o ≡ board_where live (take n list) (take n board) o
  pub sum : sum_of t ≡ weight_where live (take n list)

-- ---- one place more

pub total_more : (live : Site → Bool) (list : List Job) (board : List (Option Outcome)) (i : ℕ) (job : Job) (place : Option Outcome) (o : Outcome) → slice_get list i ≡ Some job → slice_get board i ≡ Some place →
    board_where live (take (suc i) list) (take (suc i) board) o ≡ board_where live (take i list) (take i board) o + cond (live (site_of job)) (share job place o) 0
total_more live [] board i job place o a b = absurd cc
total_more live (x ∷ list) [] i job place o a b = absurd cc
total_more live (x ∷ list) (y ∷ board) zero job place o a b =
    let a' : x ≡ job = cc in
    let b' : y ≡ place = cc in
    rw (a', b') (omega arith)
total_more live (x ∷ list) (y ∷ board) (suc i) job place o a b = rw (total_more live list board i job place o a b) (omega arith)

pub weight-cons : (live : Site → Bool) (job : Job) (list : List Job) → weight_where live (job ∷ list) ≡ cond (live (site_of job)) job.weight 0 + weight_where live list
unfolding weight_where
weight-cons live job list =
    elim (live (site_of job)) as (λ b. sum_by (λ (j : Job). j.weight) (cond b (job ∷ filter (λ j. live (site_of j)) list) (filter (λ j. live (site_of j)) list)) ≡ cond b job.weight 0 + sum_by (λ (j : Job). j.weight) (filter (λ j. live (site_of j)) list))
    [ true ↦ sum_by-cons (λ (j : Job). j.weight) job (filter (λ j. live (site_of j)) list) | false ↦ omega arith ]

pub weight-nil : (live : Site → Bool) → weight_where live [] ≡ 0
unfolding weight_where
weight-nil live = refl

pub weight_more : (live : Site → Bool) (list : List Job) (i : ℕ) (job : Job) → slice_get list i ≡ Some job → weight_where live (take (suc i) list) ≡ weight_where live (take i list) + cond (live (site_of job)) job.weight 0
weight_more live [] i job a = absurd cc
weight_more live (x ∷ list) zero job a =
    let a' : x ≡ job = cc in
    let none = weight-nil live in
    rw (a', weight-cons live job [], none) (omega arith)
weight_more live (x ∷ list) (suc i) job a = rw (weight-cons live x (take (suc i) list), weight-cons live x (take i list), weight_more live list i job a) (omega arith)

cond-le : (b : Bool) (n : ℕ) → cond b n 0 ≤ n
cond-le true n = omega arith
cond-le false n = omega arith

pub weight_within : (live : Site → Bool) (list : List Job) (i : ℕ) (job : Job) → slice_get list i ≡ Some job → weight_where live (take i list) + job.weight ≤ sum_by (λ (j : Job). j.weight) list
weight_within live [] i job a = absurd cc
weight_within live (x ∷ list) zero job a = let a' : x ≡ job = cc in rw (a', weight-nil live, sum_by-cons (λ (j : Job). j.weight) job list) (omega arith)
weight_within live (x ∷ list) (suc i) job a = rw (weight-cons live x (take i list), sum_by-cons (λ (j : Job). j.weight) x list) (omega (arith, cond-le (live (site_of x)) x.weight, weight_within live list i job a))

-- ---- the whole board

pub all_totals : (live : Site → Bool) (list : List Job) (board : List (Option Outcome)) (n : ℕ) (t : TotalsData) → IsSummed live list board n t → length list ≤ n → length board ≡ length list → (o : Outcome) → total_at t o ≡ board_where live list board o
all_totals live list board n t h long len o =
    let low : length board ≤ n = omega arith in
    rw (take_all n list long, take_all n board low) at (h.totals o)

pub all_weight : (live : Site → Bool) (list : List Job) (board : List (Option Outcome)) (n : ℕ) (t : TotalsData) → IsSummed live list board n t → length list ≤ n → sum_of t ≡ weight_where live list
all_weight live list board n t h long = rw (take_all n list long) at h.sum

-- on a board of right outcomes it is the weights of the jobs that pass and have the outcome
pub where_right : (live : Site → Bool) (outcomes : Site → Outcome) (list : List Job) (board : List (Option Outcome)) (o : Outcome) → length board ≡ length list → HasOutcomeBelow board (length board) → HasOutcomes outcomes list board →
    board_where live list board o ≡ total_where live outcomes list o
unfolding total_where
where_right live outcomes [] board o len whole has = refl
where_right live outcomes (x ∷ list) [] o len whole has = absurd (omega arith)
where_right live outcomes (x ∷ list) (y ∷ board) o len whole has =
    let first = whole 0 (omega arith) in
    let place : y ≡ Some first.0 = let e = first.1 in cc in
    let is : first.0 ≡ outcomes (site_of x) = has 0 x first.0 refl first.1 in
    let rest = where_right live outcomes list board o (omega arith) (λ i h. whole (suc i) (omega arith)) (λ i job z a b. has (suc i) job z a b) in
    rw (place, is, rest) (by (live (site_of x)) (same_outcome (outcomes (site_of x)) o))
  where
    p : Job → Bool
    p j = live (site_of j) && same_outcome (outcomes (site_of j)) o

    by : (a b : Bool) → cond a (cond b x.weight 0) 0 + sum_by (λ (j : Job). j.weight) (filter p list) ≡ sum_by (λ (j : Job). j.weight) (cond (a && b) (x ∷ filter p list) (filter p list))
    by true true = sym (sum_by-cons (λ (j : Job). j.weight) x (filter p list))
    by true false = omega arith
    by false true = omega arith
    by false false = omega arith

pub counts_right : (live : Site → Bool) (l : AccessLog) (outcomes : Site → Outcome) (table : JobTable) (board : List (Option Outcome)) (t : TotalsData) → table ≡ jobs_of l → HasOutcomes outcomes table.list board → length board ≡ length table.list → HasOutcomeBelow board (length board) →
    ((o : Outcome) → total_at t o ≡ board_where live table.list board o) → (still : Site → Bool) (o : Outcome) → total_at t o + cond (same_outcome NoEffect o) (dead_where l still) 0 ≡ count_where l (spread l outcomes) live still o
unfolding jobs_of
counts_right live l outcomes table board t is has len whole made still o =
    let lists : table.list ≡ job_list l = ap (λ (x : JobTable). x.list) is in
    ap (λ n. n + cond (same_outcome NoEffect o) (dead_where l still) 0) (made o ∙ where_right live outcomes table.list board o len whole has ∙ ap (λ js. total_where live outcomes js o) lists)
    ∙ sym (pruned_board l outcomes live still o)

-- ---- the totals of one place more

pub none_summed : (live : Site → Bool) (list : List Job) (board : List (Option Outcome)) (t : TotalsData) → t ≡ no_totals → IsSummed live list board 0 t
none_summed live list board t e = record {
  totals = λ o. ap (λ (x : TotalsData). total_at x o) e ∙ total_at-totals_of (λ p. 0) o;
  sum = ap sum_of e ∙ sum_of-totals_of (λ p. 0) ∙ sym (weight-nil live);
}

-- of a test of cycles and cells
abbrev pub by_place : (ℕ → ℕ → Bool) → Site → Bool
by_place passes site = passes site.cycle site.cell

job_passes : (passes : ℕ → ℕ → Bool) (list : List Job) (n : ℕ) (read : Read) (is : IsJobOf list n read) → by_place passes (site_of is.job) ≡ passes read.cycle read.cell
unfolding site_of
job_passes passes list n read is = rw (is.cycle, is.cell) refl

pub one_more : (passes : ℕ → ℕ → Bool) (list : List Job) (board : List (Option Outcome)) (n : ℕ) (read : Read) (x : Outcome) (t u : TotalsData) → IsJobOf list n read → slice_get board n ≡ Some (Some x) → passes read.cycle read.cell ≡ true →
    u ≡ added t x read.weight → sum_of u ≡ sum_of t + read.weight → IsSummed (by_place passes) list board n t → IsSummed (by_place passes) list board (n + 1) u
one_more passes list board n read x t u is at yes' plus sum before =
    let next : n + 1 ≡ suc n = omega arith in
    let live : by_place passes (site_of is.job) ≡ true = job_passes passes list n read is ∙ yes' in
    record {
      totals = λ o. ap (λ v. total_at v o) plus ∙ total_at-added t x o read.weight
          ∙ rw (next, total_more (by_place passes) list board n is.job (Some x) o is.there at, live, is.weight) (ap (λ m. m + cond (same_outcome x o) read.weight 0) (before.totals o));
      sum = sum ∙ rw (next, weight_more (by_place passes) list n is.job is.there, live, is.weight) (ap (λ m. m + read.weight) before.sum);
    }

pub one_past : (passes : ℕ → ℕ → Bool) (list : List Job) (board : List (Option Outcome)) (n : ℕ) (read : Read) (x : Outcome) (t : TotalsData) → IsJobOf list n read → slice_get board n ≡ Some (Some x) → passes read.cycle read.cell ≡ false →
    IsSummed (by_place passes) list board n t → IsSummed (by_place passes) list board (n + 1) t
one_past passes list board n read x t is at missed before =
    let next : n + 1 ≡ suc n = omega arith in
    let live : by_place passes (site_of is.job) ≡ false = job_passes passes list n read is ∙ missed in
    record {
      totals = λ o. before.totals o ∙ rw (next, total_more (by_place passes) list board n is.job (Some x) o is.there at, live) (omega arith);
      sum = before.sum ∙ rw (next, weight_more (by_place passes) list n is.job is.there, live) (omega arith);
    }

pub room_for : (passes : ℕ → ℕ → Bool) (list : List Job) (board : List (Option Outcome)) (n : ℕ) (read : Read) (t : TotalsData) → IsJobOf list n read → IsSummed (by_place passes) list board n t → sum_of t + read.weight ≤ sum_by (λ (j : Job). j.weight) list
room_for passes list board n read t is before = omega (arith, before.sum, weight_within (by_place passes) list n is.job is.there, is.weight)

pub not_blank : (board : List (Option Outcome)) (n : ℕ) (place : Option Outcome) → HasOutcomeBelow board (length board) → n < length board → slice_get board n ≡ Some place → place ≡ None → ⊥
not_blank board n place whole low at none =
    let some = whole n low in
    let e : ◌≡◌ {A = Option (Option Outcome)} (Some (Some some.0)) (Some None) = sym some.1 ∙ at ∙ ap Some none in
    absurd cc
