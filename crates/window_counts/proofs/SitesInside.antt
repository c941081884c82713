-- The clipped weights of the jobs of a log.
use Rattle.std.proofs.Common.{◌≡◌, ◌&&◌, Bool, true, false, cond, length, List, [], ◌∷◌, refl, ◌∙◌}
use Rattle.std.specs.List.{filter, All}
use Rattle.std.proofs.lemmas.List.Sums.{length-filter}
use Rattle.std.proofs.lemmas.List.Elements.{All-nil, All-cons, All-head, All-tail, All-map}
use Rattle.fs_model.specs.declared.sites.Job.{Job}
use Rattle.fs_model.specs.AccessLog.{is_read, job_of, all_sites, jobs, is_job}
use Rattle.fs_model.specs.Job.{site_of, with_weight, job_list}
use Rattle.fs_model.proofs.SiteList.{sites_hold}
use Rattle.window_counts.specs.Windows.{in_window, weight_inside}
use Rattle.window_counts.specs.Laws.{SitesInside}
use Rattle.window_counts.proofs.Columns.{sites_inside}

All-filter : {X : Type 0} (p : X → Bool) (P : X → Type 0) (xs : List X) → All (λ x. p x ≡ true → P x) xs → All P (filter p xs)
All-filter p P [] h = All-nil P
All-filter p P (x ∷ xs) h = by (p x) refl (All-head (λ x. p x ≡ true → P x) x xs h) (All-filter p P xs (All-tail (λ x. p x ≡ true → P x) x xs h))
  where
    by : (b : Bool) → p x ≡ b → (p x ≡ true → P x) → All P (filter p xs) → All P (cond b (x ∷ filter p xs) (filter p xs))
    by true e here rest = All-cons P x (filter p xs) (here e) rest
    by false e here rest = rest

pub each_inside : SitesInside
unfolding job_list jobs with_weight site_of
each_inside l w =
    All-map (λ (job : Job). length (filter (λ site. is_job (job_of l site) (site_of job) && in_window w site.cycle) (all_sites l)) ≡ weight_inside w job) (with_weight l) (jobs l)
    (All-filter (λ j. is_read (l.access j.cycle j.cell)) (λ j. length (filter (λ site. is_job (job_of l site) j && in_window w site.cycle) (all_sites l)) ≡ weight_inside w (with_weight l j)) (all_sites l)
    (sites_hold l.cycles l.ram l.pc (λ j. is_read (l.access j.cycle j.cell) ≡ true → length (filter (λ site. is_job (job_of l site) j && in_window w site.cycle) (all_sites l)) ≡ weight_inside w (with_weight l j)) (λ j h read.
    length-filter (λ site. is_job (job_of l site) j && in_window w site.cycle) (all_sites l) ∙ sites_inside l w j h read)))
