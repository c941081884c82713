-- How many sites a window has.
use Rattle.std.proofs.Common.{◌≡◌, ℕ, zero, suc, ◌+◌, ◌*◌, ◌-◌, ◌&&◌, Bool, true, false, cond, length, List, [], ◌∷◌, Option, Some, None, refl, sym, ap, ◌∙◌, arith}
use Rattle.std.specs.Prelude.{MatchOption}
use Rattle.std.specs.List.{range_with_len, filter, sum_by}
use Rattle.std.proofs.lemmas.List.Sums.{length-filter, sum_by-cons}
use Rattle.fs_model.specs.declared.sites.Site.{Site}
use Rattle.fs_model.specs.declared.sites.Job.{Job}
use Rattle.fs_model.specs.declared.outcomes.Outcome.{Outcome}
use Rattle.fs_model.specs.declared.outcomes.Outcome.TheVariants.{NoEffect}
use Rattle.fs_model.specs.Outcome.{same_outcome}
use Rattle.fs_model.specs.Run.{cycles}
use Rattle.fs_model.specs.Cell.{bits}
use Rattle.fs_model.specs.Laws.{bits_of_all}
use Rattle.fs_model.specs.Site.{sites, cycle_sites, cells, cell_sites}
use Rattle.fs_model.specs.AccessLog.{job_of, all_sites}
use Rattle.fs_model.specs.Job.{job_list, total}
use Rattle.fs_model.proofs.Space.{cycle_length}
use Rattle.fs_model.proofs.Sums.{sum_each, sum_flat_map, sum_map}
use Rattle.window_counts.specs.Windows.{in_window, cycles_between, window_len, window_sites, window_dead, clipped_jobs}
use Rattle.window_counts.specs.Laws.{WindowWhole, WindowSize}
use Rattle.window_counts.proofs.InWindow.{counted_in}

sum_const : {X : Type 0} (b : Bool) (xs : List X) → sum_by (λ x. cond b 1 0) xs ≡ cond b (length xs) 0
sum_const true [] = refl
sum_const false [] = refl
sum_const true (x ∷ xs) = rw (sum_by-cons (λ x. cond true 1 0) x xs) (omega (arith, sum_const true xs))
sum_const false (x ∷ xs) = rw (sum_by-cons (λ x. cond false 1 0) x xs) (omega (arith, sum_const false xs))

-- of the sites of a cycle, all or none are in a window
cycle_inside : (w : List Bool) (pc : Bool) (ram t : ℕ) → sum_by (λ site. cond (in_window w site.cycle) 1 0) (cycle_sites pc ram t) ≡ cond (in_window w t) (bits_of_all ram pc) 0
unfolding cycle_sites cell_sites
cycle_inside w pc ram t =
    sum_flat_map (λ (site : Site). cond (in_window w site.cycle) 1 0) (cell_sites t) (cells pc ram)
    ∙ sum_each (λ cell. sum_by (λ (site : Site). cond (in_window w site.cycle) 1 0) (cell_sites t cell)) (λ cell. sum_by (λ (site : Site). cond (in_window w t) 1 0) (cell_sites t cell)) (cells pc ram)
    (λ cell. sum_map (λ (site : Site). cond (in_window w site.cycle) 1 0) (site_at cell) (range_with_len 0 (bits cell)) ∙ sym (sum_map (λ (site : Site). cond (in_window w t) 1 0) (site_at cell) (range_with_len 0 (bits cell))))
    ∙ sym (sum_flat_map (λ (site : Site). cond (in_window w t) 1 0) (cell_sites t) (cells pc ram))
    ∙ sum_const (in_window w t) (cycle_sites pc ram t)
    ∙ ap (λ n. cond (in_window w t) n 0) (cycle_length pc ram t)
  where
    site_at : ℕ → ℕ → Site
    site_at cell bit = record { cycle = t; cell = cell; bit = bit }

sum_times : (q : ℕ → Bool) (m a n : ℕ) → sum_by (λ t. cond (q t) m 0) (range_with_len a n) ≡ sum_by (λ t. cond (q t) 1 0) (range_with_len a n) * m
sum_times q m a zero = omega arith
sum_times q m a (suc n) =
    rw (sum_by-cons (λ t. cond (q t) m 0) a (range_with_len (a + 1) n), sum_by-cons (λ t. cond (q t) 1 0) a (range_with_len (a + 1) n), sum_times q m (a + 1) n)
    (by (q a) (sum_by (λ t. cond (q t) 1 0) (range_with_len (a + 1) n)))
  where
    by : (b : Bool) (k : ℕ) → cond b m 0 + k * m ≡ (cond b 1 0 + k) * m
    by true k = omega arith
    by false k = omega arith

pub sites_of_window : (w : List Bool) (n ram : ℕ) (pc : Bool) → length w ≡ n → length (filter (λ site. in_window w site.cycle) (sites n ram pc)) ≡ window_len w * bits_of_all ram pc
unfolding sites cycles_between
sites_of_window w n ram pc e =
    let len : n ≡ length w - 0 = omega arith in
    length-filter (λ site. in_window w site.cycle) (sites n ram pc)
    ∙ sum_flat_map (λ (site : Site). cond (in_window w site.cycle) 1 0) (cycle_sites pc ram) (range_with_len 0 n)
    ∙ sum_each (λ t. sum_by (λ (site : Site). cond (in_window w site.cycle) 1 0) (cycle_sites pc ram t)) (λ t. cond (in_window w t) (bits_of_all ram pc) 0) (range_with_len 0 n) (cycle_inside w pc ram)
    ∙ sum_times (in_window w) (bits_of_all ram pc) 0 n
    ∙ ap (λ k. k * bits_of_all ram pc) (sym (length-filter (in_window w) (range_with_len 0 n)) ∙ ap (λ m. length (filter (in_window w) (range_with_len 0 m))) len)

and_true : (b : Bool) → (b && true) ≡ b
and_true true = refl
and_true false = refl

filter_true : {X : Type 0} (xs : List X) → filter (λ x. true) xs ≡ xs
filter_true [] = refl
filter_true (x ∷ xs) = ap (λ r. x ∷ r) (filter_true xs)

either : {X : Type 0} (m : Option X) (o : Outcome) → MatchOption m (o ≡ o) (λ x. o ≡ o)
either None o = refl
either (Some x) o = refl

pub window_whole : WindowWhole
unfolding same_outcome total
window_whole l w e =
    ap (λ js. sum_by (λ (j : Job). j.weight) js + window_dead l w) (sym (filter_true (clipped_jobs w (job_list l))))
    ∙ sym (counted_in l w (λ site. NoEffect) (λ site h. either (job_of l site) NoEffect) NoEffect)
    ∙ length-filter (λ s. in_window w s.cycle && true) (all_sites l)
    ∙ sum_each (λ s. cond (in_window w s.cycle && true) 1 0) (λ s. cond (in_window w s.cycle) 1 0) (all_sites l) (λ s. ap (λ b. cond b 1 0) (and_true (in_window w s.cycle)))
    ∙ sym (length-filter (λ s. in_window w s.cycle) (all_sites l))
    ∙ sites_of_window w l.cycles l.ram l.pc e

pub window_size : WindowSize
unfolding window_sites
window_size c w e = sites_of_window w (cycles c) (length c.ram) c.pc_cell e
