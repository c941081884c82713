-- Lines of sites add up.
use Rattle.std.proofs.Common.{◌≡◌, ℕ, ◌<◌, ◌&&◌, Bool, cond, length, Option, Some, None, refl, sym, ap, ◌∙◌, arith}
use Rattle.std.specs.Prelude.{◌==◌}
use Rattle.std.specs.List.{range_with_len, filter, sum_by}
use Rattle.std.proofs.lemmas.List.Sums.{length-filter}
use Rattle.std.proofs.lemmas.Bool.{ne_eqb, eq-eqb}
use Rattle.fs_model.specs.declared.sites.Site.{Site}
use Rattle.fs_model.specs.Outcome.{outcome, count, same_outcome}
use Rattle.fs_model.specs.AccessLog.{log, job_of, all_sites}
use Rattle.fs_model.proofs.Sums.{sum_each, sum_swap, sum_one}
use Rattle.site_counts.specs.Counts.{by_job, passes, count_where}
use Rattle.site_counts.specs.Laws.{LinesAddUp, CaseLinesAddUp}

-- ---- lines

keyed : (Site → ℕ) → ℕ → Option Site → ℕ
keyed live still None = still
keyed live still (Some job) = live job

key_passes : (live : Site → ℕ) (still k : ℕ) (m : Option Site) → by_job (λ j. live j == k) (still == k) m ≡ (keyed live still m == k)
unfolding keyed
key_passes live still k None = refl
key_passes live still k (Some job) = refl

key_low : (live : Site → ℕ) (still n : ℕ) (m : Option Site) → ((site : Site) → live site < n) → still < n → keyed live still m < n
unfolding keyed
key_low live still n None a b = b
key_low live still n (Some job) a b = a job

one_key : (key n : ℕ) (r : Bool) → key < n → sum_by (λ k. cond (key == k && r) 1 0) (range_with_len 0 n) ≡ cond r 1 0
one_key key n r low =
    sum_one (λ k. cond (key == k && r) 1 0) 0 n key (omega arith) (omega arith) (λ k ne. rw (ne_eqb key k ne) refl)
    ∙ ap (λ b. cond (b && r) 1 0) (eq-eqb key key refl)

pub lines_add_up : LinesAddUp
unfolding count_where passes
lines_add_up l outcomes live still n o live_low still_low =
    sum_each (λ k. length (filter (λ s. by_job (λ j. live j == k) (still s == k) (job_of l s) && r s) (all_sites l))) (λ k. sum_by (λ s. cond (key s == k && r s) 1 0) (all_sites l)) (range_with_len 0 n) (λ k.
    length-filter (λ s. by_job (λ j. live j == k) (still s == k) (job_of l s) && r s) (all_sites l)
    ∙ sum_each (λ s. cond (by_job (λ j. live j == k) (still s == k) (job_of l s) && r s) 1 0) (λ s. cond (key s == k && r s) 1 0) (all_sites l) (λ s. ap (λ b. cond (b && r s) 1 0) (key_passes live (still s) k (job_of l s))))
    ∙ sum_swap (λ k s. cond (key s == k && r s) 1 0) (range_with_len 0 n) (all_sites l)
    ∙ sum_each (λ s. sum_by (λ k. cond (key s == k && r s) 1 0) (range_with_len 0 n)) (λ s. cond (r s) 1 0) (all_sites l) (λ s. one_key (key s) n (r s) (key_low live (still s) n (job_of l s) live_low (still_low s)))
    ∙ sym (length-filter r (all_sites l))
  where
    key : Site → ℕ
    key s = keyed live (still s) (job_of l s)

    r : Site → Bool
    r s = same_outcome (outcomes s) o

pub case_lines_add_up : CaseLinesAddUp
unfolding count log
case_lines_add_up c live still n o a b = lines_add_up (log c) (outcome c) live still n o a b
