-- No two jobs of a log have one site: a second one would count the sites of both once more.
use Rattle.std.proofs.Common.{◌≡◌, ℕ, zero, suc, ◌+◌, ◌<◌, ◌≤◌, Bool, true, false, cond, List, [], ◌∷◌, map, get_or, Option, Some, None, refl, sym, ap, ◌∙◌, ⊎_elim, arith}
use Rattle.std.specs.Prelude.{slice_get}
use Rattle.std.specs.List.{filter, sum_by}
use Rattle.std.proofs.lemmas.Bool.{cases_lt}
use Rattle.std.proofs.lemmas.List.Sums.{length-filter, sum_by-cons}
use Rattle.std.proofs.lemmas.Option.{slice_get-get_or}
use Rattle.fs_model.specs.declared.sites.Site.{Site}
use Rattle.fs_model.specs.declared.sites.Job.{Job}
use Rattle.fs_model.specs.Site.{same_site}
use Rattle.fs_model.specs.AccessLog.{AccessLog, job_of, is_job, is_read, all_sites, jobs, weight}
use Rattle.fs_model.specs.Job.{site_of, with_weight, job_list}
use Rattle.fs_model.proofs.Counts.{same_site-refl, same_site-true}
use Rattle.fs_model.proofs.SiteList.{IsSite, sites_hold}
use Rattle.fs_model.proofs.Sums.{sum_each, sum_filter}
use Rattle.def_use.proofs.Search.{below_length}
use Rattle.def_use.proofs.Weights.{weight_is, since-le}
use Rattle.site_counts.specs.Boards.{Once}
use Rattle.site_counts.specs.Counts.{by_job}
use Rattle.site_counts.proofs.Live.{live_count}

-- ---- what is in a list twice adds up twice

once_in : (f : Site → ℕ) (k : Site) (xs : List Site) (i : ℕ) → slice_get xs i ≡ Some k → f k ≤ sum_by f xs
once_in f k [] i e = absurd cc
once_in f k (x ∷ xs) zero e = let same : x ≡ k = cc in rw (sum_by-cons f x xs, same) (omega arith)
once_in f k (x ∷ xs) (suc i) e = rw (sum_by-cons f x xs) (omega (arith, once_in f k xs i e))

twice_in : (f : Site → ℕ) (k : Site) (xs : List Site) (i j : ℕ) → i < j → slice_get xs i ≡ Some k → slice_get xs j ≡ Some k → f k + f k ≤ sum_by f xs
twice_in f k [] i j low a b = absurd cc
twice_in f k (x ∷ xs) i zero low a b = absurd (omega arith)
twice_in f k (x ∷ xs) zero (suc j) low a b = let same : x ≡ k = cc in rw (sum_by-cons f x xs, same) (omega (arith, once_in f k xs j b))
twice_in f k (x ∷ xs) (suc i) (suc j) low a b = rw (sum_by-cons f x xs) (omega (arith, twice_in f k xs i j (omega arith) a b))

-- ---- the site of a job is read

record IsIn (p : Site → Bool) (xs : List Site) (k : Site) : Type 0 where
  passes : p k ≡ true
  place : ℕ
  there : slice_get xs place ≡ Some k

filtered : (p : Site → Bool) (xs : List Site) (i : ℕ) (k : Site) → slice_get (filter p xs) i ≡ Some k → IsIn p xs k
filtered p [] i k e = absurd cc
filtered p (x ∷ xs) i k e = by (λ n h. filtered p xs n k h) (p x) refl i e
  where
    later : IsIn p xs k → IsIn p (x ∷ xs) k
    later rest = record { passes = rest.passes; place = suc rest.place; there = rest.there }

    by : ((n : ℕ) → slice_get (filter p xs) n ≡ Some k → IsIn p xs k) → (b : Bool) → p x ≡ b → (n : ℕ) → slice_get (cond b (x ∷ filter p xs) (filter p xs)) n ≡ Some k → IsIn p (x ∷ xs) k
    by rest true is zero h = let same : x ≡ k = cc in record { passes = ap p (sym same) ∙ is; place = 0; there = ap Some same }
    by rest true is (suc n) h = later (rest n h)
    by rest false is n h = later (rest n h)

listed : (l : AccessLog) (js : List Site) (i : ℕ) (job : Job) → slice_get (map (with_weight l) js) i ≡ Some job → slice_get js i ≡ Some (site_of job)
unfolding with_weight site_of
listed l [] i job e = absurd cc
listed l (x ∷ js) zero job e = let same : with_weight l x ≡ job = cc in ap (λ j. Some (site_of j)) same
listed l (x ∷ js) (suc i) job e = listed l js i job e

module _ (l : AccessLog) where
  reads : Site → Bool
  reads s = is_read (l.access s.cycle s.cell)

  in_space : (i : ℕ) (k : Site) → slice_get (all_sites l) i ≡ Some k → IsSite l.cycles l.ram l.pc k
  in_space i k e =
      let at : get_or (all_sites l) i k ≡ k = let same = slice_get-get_or (all_sites l) i k (below_length (all_sites l) i k e) in let both : Some (get_or (all_sites l) i k) ≡ Some k = sym same ∙ e in cc in
      rw at at (sites_hold l.cycles l.ram l.pc (λ s. IsSite l.cycles l.ram l.pc s) (λ s h. h) i k (below_length (all_sites l) i k e))

  -- a job has a site at least, its own
  weighs : (i : ℕ) (k : Site) → slice_get (jobs l) i ≡ Some k → 1 ≤ weight l k
  unfolding jobs reads
  weighs i k e =
      let is = filtered reads (all_sites l) i k e in
      let some = weight_is l k (in_space is.place k is.there) is.passes in
      omega (arith, some, since-le l k.cell k.cycle)

  -- the sites of a job are counted by the jobs that have its site
  counts : (k : Site) → weight l k ≡ sum_by (λ j. cond (same_site j k) (weight l j) 0) (jobs l)
  unfolding weight is_job
  counts k =
      length-filter (λ s. is_job (job_of l s) k) (all_sites l)
      ∙ sum_each (λ s. cond (is_job (job_of l s) k) 1 0) (λ s. cond (by_job (λ j. same_site j k) false (job_of l s)) 1 0) (all_sites l) (λ s. ap (λ b. cond b 1 0) (same_test (job_of l s)))
      ∙ sym (length-filter (λ s. by_job (λ j. same_site j k) false (job_of l s)) (all_sites l))
      ∙ live_count l (λ j. same_site j k)
      ∙ sum_filter (λ j. same_site j k) (weight l) (jobs l)
    where
      same_test : (m : Option Site) → is_job m k ≡ by_job (λ j. same_site j k) false m
      same_test None = refl
      same_test (Some j) = refl

  not_twice : (k : Site) (i j : ℕ) → i < j → slice_get (jobs l) i ≡ Some k → slice_get (jobs l) j ≡ Some k → ⊥
  not_twice k i j low a b =
      let twice = twice_in (λ s. cond (same_site s k) (weight l s) 0) k (jobs l) i j low a b in
      let own : cond (same_site k k) (weight l k) 0 ≡ weight l k = rw (same_site-refl k) refl in
      omega (arith, twice, own, counts k, weighs i k a)

pub once : Once
unfolding job_list
once l i j a b p q same =
    let first : slice_get (jobs l) i ≡ Some (site_of a) = listed l (jobs l) i a p in
    let second : slice_get (jobs l) j ≡ Some (site_of a) = listed l (jobs l) j b q ∙ ap Some (sym same) in
    ⊎_elim (λ (lt : i < j). absurd (not_twice l (site_of a) i j lt first second))
    (λ (le : j ≤ i). ⊎_elim (λ (lt : j < i). absurd (not_twice l (site_of a) j i lt second first)) (λ (ge : i ≤ j). omega arith) (cases_lt j i)) (cases_lt i j)
