-- Tests of cells.
use Rattle.std.proofs.Common.{◌≡◌, ℕ, ◌+◌, ◌*◌, ◌&&◌, Bool, true, false, cond, length, Option, Some, None, refl, sym, ap, ◌∙◌, arith}
use Rattle.std.specs.Prelude.{is_none}
use Rattle.std.specs.List.{range_with_len, filter, sum_by, flat_map}
use Rattle.std.proofs.lemmas.List.Sums.{length-filter}
use Rattle.std.proofs.Math.Nat.{mul_comm}
use Rattle.fs_model.specs.declared.sites.Site.{Site}
use Rattle.fs_model.specs.Cell.{bits}
use Rattle.fs_model.specs.Run.{cycles}
use Rattle.fs_model.specs.Site.{sites, cells, cycle_sites, cell_sites}
use Rattle.fs_model.specs.Outcome.{same_outcome}
use Rattle.fs_model.specs.AccessLog.{AccessLog, job_of, all_sites}
use Rattle.fs_model.proofs.Sums.{sum_each, sum_add, sum_filter, sum_flat_map, sum_map}
use Rattle.fs_model.proofs.Space.{listed_weights}
use Rattle.def_use.proofs.Numbers.{sum_const}
use Rattle.site_counts.specs.Counts.{by_job, passes, count_where, dead_where, weight_where, bits_where}
use Rattle.site_counts.specs.Laws.{CellLine, CellWhole}
use Rattle.site_counts.proofs.Live.{job_cell, live_count}

-- ---- tests of cells

cell_passes : (l : AccessLog) (q : ℕ → Bool) (site : Site) (m : Option Site) → m ≡ job_of l site → by_job (λ s. q s.cell) (q site.cell) m ≡ q site.cell
cell_passes l q site None e = refl
cell_passes l q site (Some k) e = ap q (job_cell l site k (sym e))

pub cell_line : CellLine
unfolding count_where passes
cell_line l outcomes q o =
    length-filter (λ s. by_job (λ s. q s.cell) (q s.cell) (job_of l s) && same_outcome (outcomes s) o) (all_sites l)
    ∙ sum_each (λ s. cond (by_job (λ s. q s.cell) (q s.cell) (job_of l s) && same_outcome (outcomes s) o) 1 0) (λ s. cond (q s.cell && same_outcome (outcomes s) o) 1 0) (all_sites l)
    (λ s. ap (λ b. cond (b && same_outcome (outcomes s) o) 1 0) (cell_passes l q s (job_of l s) refl))
    ∙ sym (length-filter (λ s. q s.cell && same_outcome (outcomes s) o) (all_sites l))

one_cell : (l : AccessLog) (q : ℕ → Bool) (site : Site) (m : Option Site) → m ≡ job_of l site →
    ◌≡◌ {A = ℕ} (cond (by_job (λ s. q s.cell) false m) 1 0 + cond (is_none m && q site.cell) 1 0) (cond (q site.cell) 1 0)
one_cell l q site None e = omega arith
one_cell l q site (Some k) e = ap (λ n. cond (q n) 1 0 + 0) (job_cell l site k (sym e)) ∙ omega arith

ones : (b : Bool) (a n : ℕ) → sum_by (λ i. cond b 1 0) (range_with_len a n) ≡ cond b n 0
ones true a n = sum_const 1 a n ∙ omega arith
ones false a n = sum_const 0 a n ∙ omega arith

pub cells_count : (cycles ram : ℕ) (pc : Bool) (q : ℕ → Bool) → length (filter (λ (s : Site). q s.cell) (sites cycles ram pc)) ≡ cycles * bits_where q ram pc
unfolding bits_where sites cycle_sites cell_sites
cells_count cycles ram pc q =
    length-filter (λ (s : Site). q s.cell) (flat_map (cycle_sites pc ram) (range_with_len 0 cycles))
    ∙ sum_flat_map one (cycle_sites pc ram) (range_with_len 0 cycles)
    ∙ sum_each (λ t. sum_by one (cycle_sites pc ram t)) (λ t. sum_by bits (filter q (cells pc ram))) (range_with_len 0 cycles) (λ t.
    sum_flat_map one (cell_sites t) (cells pc ram)
    ∙ sum_each (λ cell. sum_by one (cell_sites t cell)) (λ cell. cond (q cell) (bits cell) 0) (cells pc ram) (λ cell.
    sum_map one (λ bit. record { cycle = t; cell = cell; bit = bit }) (range_with_len 0 (bits cell)) ∙ ones (q cell) 0 (bits cell))
    ∙ sym (sum_filter q bits (cells pc ram)))
    ∙ sum_const (sum_by bits (filter q (cells pc ram))) 0 cycles
    ∙ mul_comm (sum_by bits (filter q (cells pc ram))) cycles
  where
    one : Site → ℕ
    one s = cond (q s.cell) 1 0

pub cell_whole : CellWhole
unfolding dead_where weight_where
cell_whole l q =
    ap (λ n. n + length (filter (λ s. is_none (job_of l s) && q s.cell) (all_sites l)))
    (listed_weights l (λ s. q s.cell) ∙ sym (live_count l (λ s. q s.cell)) ∙ length-filter (λ s. by_job (λ s. q s.cell) false (job_of l s)) (all_sites l))
    ∙ ap (λ n. sum_by (λ s. cond (by_job (λ s. q s.cell) false (job_of l s)) 1 0) (all_sites l) + n) (length-filter (λ s. is_none (job_of l s) && q s.cell) (all_sites l))
    ∙ sym (sum_add (λ s. cond (by_job (λ s. q s.cell) false (job_of l s)) 1 0) (λ s. cond (is_none (job_of l s) && q s.cell) 1 0) (all_sites l))
    ∙ sum_each (λ s. cond (by_job (λ s. q s.cell) false (job_of l s)) 1 0 + cond (is_none (job_of l s) && q s.cell) 1 0) (λ s. cond (q s.cell) 1 0) (all_sites l) (λ s. one_cell l q s (job_of l s) refl)
    ∙ sym (length-filter (λ (s : Site). q s.cell) (all_sites l))
    ∙ cells_count l.cycles l.ram l.pc q
