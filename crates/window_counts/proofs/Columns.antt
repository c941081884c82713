-- The sites of a job that are in a window.
use Rattle.std.proofs.Common.{◌≡◌, ℕ, ◌+◌, ◌-◌, ◌<◌, ◌≤◌, ◌&&◌, Bool, true, false, cond, length, get_or, List, Option, Some, None, refl, sym, ap, ◌∙◌, ⊎_elim, arith}
use Rattle.std.specs.Prelude.{◌==◌, nat_le, nat_lt}
use Rattle.std.specs.List.{range_with_len, filter, sum_by, All}
use Rattle.std.proofs.lemmas.List.Sums.{length-filter}
use Rattle.std.proofs.lemmas.Bool.{cases_lt, le-leb, lt-leb, le-ltb, ne_eqb, and_right}
use Rattle.fs_model.specs.declared.sites.Site.{Site}
use Rattle.fs_model.specs.Site.{same_site}
use Rattle.fs_model.specs.AccessLog.{AccessLog, next_touch, moved_to, job_of, is_read, all_sites, is_job, weight}
use Rattle.fs_model.proofs.SiteList.{IsSite, sum_column}
use Rattle.fs_model.proofs.Sums.{sum_same, sum_each}
use Rattle.def_use.proofs.Weights.{since, since-le, weight_is, belongs_since}
use Rattle.window_counts.specs.Windows.{in_window, cycles_between}
use Rattle.window_counts.proofs.Ranges.{sum_part, sum_ones, sum_tight}

-- ---- only sites of its cell and bit belong to a job

other_cell : (site : Site) (o : Option (ℕ × Bool)) (k : Site) → (k.cell ≡ site.cell → ⊥) → is_job (moved_to site o) k ≡ false
unfolding is_job moved_to same_site
other_cell site None k ne = refl
other_cell site (Some (w, true)) k ne = rw (ne_eqb site.cell k.cell (λ e. ne (sym e)), and_right (w == k.cycle) false refl) refl
other_cell site (Some (w, false)) k ne = refl

other_bit : (site : Site) (o : Option (ℕ × Bool)) (k : Site) → (k.bit ≡ site.bit → ⊥) → is_job (moved_to site o) k ≡ false
unfolding is_job moved_to same_site
other_bit site None k ne = refl
other_bit site (Some (w, true)) k ne = rw (ne_eqb site.bit k.bit (λ e. ne (sym e)), and_right (site.cell == k.cell) false refl, and_right (w == k.cycle) false refl) refl
other_bit site (Some (w, false)) k ne = refl

-- whether the site of the same cell and bit at cycle t belongs to the job k
belongs : AccessLog → Site → ℕ → Bool
belongs l k t = is_job (job_of l (record k { cycle = t })) k

-- a sum over the sites of a job is one over cycles
column : (l : AccessLog) (q : ℕ → Bool) (k : Site) → IsSite l.cycles l.ram l.pc k →
    sum_by (λ site. cond (is_job (job_of l site) k && q site.cycle) 1 0) (all_sites l) ≡ sum_by (λ t. cond (belongs l k t && q t) 1 0) (range_with_len 0 l.cycles)
unfolding belongs job_of
column l q k h =
    sum_column l.cycles l.ram l.pc (λ site. cond (is_job (job_of l site) k && q site.cycle) 1 0) k h.low h.in_cells h.in_bits
    (λ t cell bit ne. rw (other_cell (record { cycle = t; cell = cell; bit = bit }) (next_touch l cell t) k ne) refl)
    (λ t cell bit ne. rw (other_bit (record { cycle = t; cell = cell; bit = bit }) (next_touch l cell t) k ne) refl)

and_true : (b : Bool) → (b && true) ≡ b
and_true true = refl
and_true false = refl

same_flag : (x y : Bool) → ◌≡◌ {A = ℕ} (cond x 1 0) (cond y 1 0) → x ≡ y
same_flag true true e = refl
same_flag true false e = absurd (omega arith)
same_flag false true e = absurd (omega arith)
same_flag false false e = refl

flag-le : (b : Bool) → cond b 1 0 ≤ 1
flag-le true = omega arith
flag-le false = omega arith

-- the cycles of a job are those from one past the touch before it up to its own
within : AccessLog → Site → ℕ → Bool
within l k t = nat_le (since l k.cell k.cycle) t && nat_lt t (k.cycle + 1)

within-le : (l : AccessLog) (k : Site) → k.cycle < l.cycles → is_read (l.access k.cycle k.cell) ≡ true → (t : ℕ) → cond (within l k t) 1 0 ≤ cond (belongs l k t) 1 0
unfolding within belongs
within-le l k early read t =
    ⊎_elim (λ (low : t < since l k.cell k.cycle). rw (lt-leb (since l k.cell k.cycle) t low) (omega arith))
    (λ (low : since l k.cell k.cycle ≤ t). ⊎_elim (λ (high : t < k.cycle + 1). rw (belongs_since l k t early read low (omega arith)) (omega (arith, flag-le (nat_le (since l k.cell k.cycle) t && nat_lt t (k.cycle + 1)))))
    (λ (high : k.cycle + 1 ≤ t). rw (le-leb (since l k.cell k.cycle) t low, le-ltb t (k.cycle + 1) high) (omega arith))
    (cases_lt t (k.cycle + 1)))
    (cases_lt t (since l k.cell k.cycle))

-- since these are as many as its weight, no other cycles are
only_within : (l : AccessLog) (k : Site) → IsSite l.cycles l.ram l.pc k → is_read (l.access k.cycle k.cell) ≡ true → All (λ t. ◌≡◌ {A = ℕ} (cond (within l k t) 1 0) (cond (belongs l k t) 1 0)) (range_with_len 0 l.cycles)
unfolding within weight
only_within l k h read =
    let early : k.cycle < l.cycles = h.early in
    let low = since-le l k.cell k.cycle in
    let these : sum_by (λ t. cond (within l k t) 1 0) (range_with_len 0 l.cycles) ≡ k.cycle + 1 - since l k.cell k.cycle =
    sum_each (λ t. cond (within l k t) 1 0) (λ t. cond (within l k t && true) 1 0) (range_with_len 0 l.cycles) (λ t. ap (λ b. cond b 1 0) (sym (and_true (within l k t))))
    ∙ sum_part (λ t. true) (since l k.cell k.cycle) (k.cycle + 1) l.cycles (omega arith) (omega arith)
    ∙ sum_ones (since l k.cell k.cycle) (k.cycle + 1 - since l k.cell k.cycle) in
    let all : sum_by (λ t. cond (belongs l k t) 1 0) (range_with_len 0 l.cycles) ≡ k.cycle + 1 - since l k.cell k.cycle =
    sum_each (λ t. cond (belongs l k t) 1 0) (λ t. cond (belongs l k t && true) 1 0) (range_with_len 0 l.cycles) (λ t. ap (λ b. cond b 1 0) (sym (and_true (belongs l k t))))
    ∙ sym (column l (λ t. true) k h)
    ∙ sum_each (λ site. cond (is_job (job_of l site) k && true) 1 0) (λ site. cond (is_job (job_of l site) k) 1 0) (all_sites l) (λ site. ap (λ b. cond b 1 0) (and_true (is_job (job_of l site) k)))
    ∙ sym (length-filter (λ site. is_job (job_of l site) k) (all_sites l))
    ∙ weight_is l k h read in
    sum_tight (λ t. cond (within l k t) 1 0) (λ t. cond (belongs l k t) 1 0) (range_with_len 0 l.cycles) (within-le l k early read) (these ∙ sym all)

-- so the sites of a job in a window are as many as its cycles there
pub sites_inside : (l : AccessLog) (w : List Bool) (k : Site) → IsSite l.cycles l.ram l.pc k → is_read (l.access k.cycle k.cell) ≡ true →
    sum_by (λ site. cond (is_job (job_of l site) k && in_window w site.cycle) 1 0) (all_sites l) ≡ cycles_between w (k.cycle + 1 - weight l k) (k.cycle + 1)
unfolding cycles_between within
sites_inside l w k h read =
    let early : k.cycle < l.cycles = h.early in
    let low = since-le l k.cell k.cycle in
    let first : k.cycle + 1 - weight l k ≡ since l k.cell k.cycle = omega (arith, weight_is l k h read) in
    let only = only_within l k h read in
    column l (in_window w) k h
    ∙ sum_same (λ t. cond (belongs l k t && in_window w t) 1 0) (λ t. cond (within l k t && in_window w t) 1 0) (range_with_len 0 l.cycles)
    (λ i d below. ap (λ b. cond (b && in_window w (get_or (range_with_len 0 l.cycles) i d)) 1 0) (sym (same_flag _ _ (only i d below))))
    ∙ sum_part (in_window w) (since l k.cell k.cycle) (k.cycle + 1) l.cycles (omega arith) (omega arith)
    ∙ sym (length-filter (in_window w) (range_with_len (since l k.cell k.cycle) (k.cycle + 1 - since l k.cell k.cycle)))
    ∙ ap (λ s. length (filter (in_window w) (range_with_len s (k.cycle + 1 - s)))) (sym first)
