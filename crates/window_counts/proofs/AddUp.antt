-- Windows that divide the cycles among them add up to the whole.
use Rattle.std.proofs.Common.{◌≡◌, ℕ, ◌<◌, ◌&&◌, Bool, cond, length, refl, sym, ap, ◌∙◌, arith}
use Rattle.std.specs.Prelude.{◌==◌}
use Rattle.std.specs.List.{range_with_len, filter, sum_by}
use Rattle.std.proofs.lemmas.List.Sums.{length-filter}
use Rattle.std.proofs.lemmas.Bool.{ne_eqb, eq-eqb}
use Rattle.fs_model.specs.declared.sites.Site.{Site}
use Rattle.fs_model.specs.Run.{cycles}
use Rattle.fs_model.specs.Site.{sites_of}
use Rattle.fs_model.specs.Outcome.{outcome, count, same_outcome}
use Rattle.fs_model.proofs.SiteList.{sites_hold}
use Rattle.fs_model.proofs.Sums.{sum_each, sum_same, sum_swap, sum_one}
use Rattle.window_counts.specs.Windows.{in_window, window_count}
use Rattle.window_counts.specs.Laws.{WindowsAddUp, AllCycles}

one_key : (key n : ℕ) (q : ℕ → Bool) (r : Bool) → key < n → ((k : ℕ) → q k ≡ (key == k)) → sum_by (λ k. cond (q k && r) 1 0) (range_with_len 0 n) ≡ cond r 1 0
one_key key n q r low is =
    sum_one (λ k. cond (q k && r) 1 0) 0 n key (omega arith) (omega arith) (λ k ne. ap (λ b. cond (b && r) 1 0) (is k ∙ ne_eqb key k ne))
    ∙ ap (λ b. cond (b && r) 1 0) (is key ∙ eq-eqb key key refl)

pub windows_add_up : WindowsAddUp
unfolding window_count count
windows_add_up c windows many o tiling =
    sum_each (λ k. length (filter (λ s. in_window (windows k) s.cycle && r s) (sites_of c))) (λ k. sum_by (λ s. cond (in_window (windows k) s.cycle && r s) 1 0) (sites_of c)) (range_with_len 0 many)
    (λ k. length-filter (λ s. in_window (windows k) s.cycle && r s) (sites_of c))
    ∙ sum_swap (λ k s. cond (in_window (windows k) s.cycle && r s) 1 0) (range_with_len 0 many) (sites_of c)
    ∙ sum_same (λ s. sum_by (λ k. cond (in_window (windows k) s.cycle && r s) 1 0) (range_with_len 0 many)) (λ s. cond (r s) 1 0) (sites_of c)
    (sites_hold (cycles c) (length c.ram) c.pc_cell (λ s. sum_by (λ k. cond (in_window (windows k) s.cycle && r s) 1 0) (range_with_len 0 many) ≡ cond (r s) 1 0) (λ s h.
    let at = tiling s.cycle h.early in one_key at.0 many (λ k. in_window (windows k) s.cycle) (r s) at.1 at.2))
    ∙ sym (length-filter r (sites_of c))
  where
    r : Site → Bool
    r s = same_outcome (outcome c s) o

pub all_cycles : AllCycles
unfolding window_count count
all_cycles c window o all =
    length-filter (λ s. in_window window s.cycle && r s) (sites_of c)
    ∙ sum_same (λ s. cond (in_window window s.cycle && r s) 1 0) (λ s. cond (r s) 1 0) (sites_of c)
    (sites_hold (cycles c) (length c.ram) c.pc_cell (λ s. ◌≡◌ {A = ℕ} (cond (in_window window s.cycle && r s) 1 0) (cond (r s) 1 0)) (λ s h. ap (λ b. cond (b && r s) 1 0) (all s.cycle h.early)))
    ∙ sym (length-filter r (sites_of c))
  where
    r : Site → Bool
    r s = same_outcome (outcome c s) o
