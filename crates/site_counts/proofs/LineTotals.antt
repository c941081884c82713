-- Totals of lines, job by job.
use Rattle.std.proofs.Common.{◌≡◌, ℕ, suc, ◌+◌, ◌<◌, ◌≤◌, cond, List, [], ◌∷◌, length, Option, Some, Bool, refl, sym, ap, ◌∙◌, ⊎_elim, arith}
use Rattle.std.specs.Prelude.{◌==◌, slice_get, slice_set, sum_by, All}
use Rattle.std.specs.List.{range_with_len}
use Rattle.std.proofs.lemmas.List.{get_or-set_same, get_or-set_other, length-set}
use Rattle.std.proofs.lemmas.List.Sums.{sum_by-cons}
use Rattle.std.proofs.lemmas.Bool.{cases_eq, ne_eqb, eq-eqb}
use Rattle.fs_model.specs.declared.sites.Site.{Site}
use Rattle.fs_model.specs.declared.sites.Job.{Job}
use Rattle.fs_model.specs.declared.outcomes.Outcome.{Outcome}
use Rattle.fs_model.specs.Outcome.{TotalsData, total_at, sum_of, added, no_totals}
use Rattle.fs_model.specs.Job.{site_of}
use Rattle.fs_model.specs.Filling.{share, board_total}
use Rattle.fs_model.proofs.EachOutcome.{sum_of-added}
use Rattle.fs_model.proofs.Sums.{sum_add, sum_zero, sum_one}
use Rattle.def_use.specs.declared.pass.Read.{Read}
use Rattle.fault_space.proofs.Numbered.{IsJobOf}
use Rattle.site_counts.specs.Boards.{board_where}
use Rattle.site_counts.specs.Lines.{totals_at}
use Rattle.site_counts.proofs.Summed.{IsSummed, by_place, none_summed, one_more, one_past, room_for, all_totals}

abbrev pub on_line : (ℕ → ℕ → ℕ) → ℕ → Site → Bool
on_line line k = by_place (λ cycle cell. line cycle cell == k)

-- the totals of each line are those of the first n places
pub record AreSummed (line : ℕ → ℕ → ℕ) (count : ℕ) (list : List Job) (board : List (Option Outcome)) (n : ℕ) (totals : List TotalsData) : Type 0 where
  pub long : length totals ≡ count
  pub each : (k : ℕ) → k < count → IsSummed (on_line line k) list board n (totals_at totals k)

pub lines_begin : (line : ℕ → ℕ → ℕ) (count : ℕ) (list : List Job) (board : List (Option Outcome)) (totals : List TotalsData) → length totals ≡ count → All (λ t. t ≡ no_totals) totals → AreSummed line count list board 0 totals
lines_begin line count list board totals long zeros = record {
  long = long;
  each = λ k low. none_summed (on_line line k) list board (totals_at totals k) (zeros k no_totals (omega arith));
}

pub line_room : (line : ℕ → ℕ → ℕ) (count : ℕ) (list : List Job) (board : List (Option Outcome)) (n k : ℕ) (read : Read) (totals : List TotalsData) → IsJobOf list n read → k ≡ line read.cycle read.cell → line read.cycle read.cell < count → AreSummed line count list board n totals →
    (k < length totals) × (sum_of (totals_at totals k) + read.weight ≤ sum_by (λ (j : Job). j.weight) list)
line_room line count list board n k read totals is at low before =
    (omega (arith, before.long), room_for (λ cycle cell. line cycle cell == k) list board n read (totals_at totals k) is (before.each k (omega arith)))

pub line_more : (line : ℕ → ℕ → ℕ) (count : ℕ) (list : List Job) (board : List (Option Outcome)) (n m : ℕ) (read : Read) (x : Outcome) (totals new : List TotalsData) → IsJobOf list n read → slice_get board n ≡ Some (Some x) → m ≡ line read.cycle read.cell →
    new ≡ slice_set totals m (added (totals_at totals m) x read.weight) → AreSummed line count list board n totals → AreSummed line count list board (n + 1) new
line_more line count list board n m read x totals new is at on made before = record {
  long = ap length made ∙ length-set totals m (added (totals_at totals m) x read.weight) ∙ before.long;
  each = λ k low. ⊎_elim (same k low) (other k low) (cases_eq k m);
}
  where
    same : (k : ℕ) → k < count → k ≡ m → IsSummed (on_line line k) list board (n + 1) (totals_at new k)
    same k low e =
        let now : totals_at new k ≡ added (totals_at totals k) x read.weight = rw (made, e) (get_or-set_same totals m (added (totals_at totals m) x read.weight) no_totals (omega (arith, before.long))) in
        one_more (λ cycle cell. line cycle cell == k) list board n read x (totals_at totals k) (totals_at new k) is at (eq-eqb (line read.cycle read.cell) k (sym (e ∙ on))) now (ap sum_of now ∙ sum_of-added (totals_at totals k) x read.weight) (before.each k low)

    other : (k : ℕ) → k < count → (k ≡ m → ⊥) → IsSummed (on_line line k) list board (n + 1) (totals_at new k)
    other k low ne =
        let now : totals_at new k ≡ totals_at totals k = rw made (get_or-set_other totals m k (added (totals_at totals m) x read.weight) no_totals ne) in
        rw now (one_past (λ cycle cell. line cycle cell == k) list board n read x (totals_at totals k) is at (ne_eqb (line read.cycle read.cell) k (λ e. ne (sym (on ∙ e)))) (before.each k low))

-- ---- all lines together

-- one job is on one line
one_share : (line : ℕ → ℕ → ℕ) (count : ℕ) (job : Job) (place : Option Outcome) (o : Outcome) → line (site_of job).cycle (site_of job).cell < count → sum_by (λ k. cond (on_line line k (site_of job)) (share job place o) 0) (range_with_len 0 count) ≡ share job place o
one_share line count job place o low =
    sum_one (λ k. cond (on_line line k (site_of job)) (share job place o) 0) 0 count (line (site_of job).cycle (site_of job).cell) (omega arith) (omega arith) (λ k ne. rw (ne_eqb (line (site_of job).cycle (site_of job).cell) k ne) refl)
    ∙ ap (λ b. cond b (share job place o) 0) (eq-eqb (line (site_of job).cycle (site_of job).cell) _ refl)

board_lines : (line : ℕ → ℕ → ℕ) (count : ℕ) (list : List Job) (board : List (Option Outcome)) (o : Outcome) → ((cycle cell : ℕ) → line cycle cell < count) → sum_by (λ k. board_where (on_line line k) list board o) (range_with_len 0 count) ≡ board_total list board o
board_lines line count [] board o low = sum_zero (λ k. 0) (range_with_len 0 count) (λ k. refl)
board_lines line count (x ∷ list) [] o low = sum_zero (λ k. 0) (range_with_len 0 count) (λ k. refl)
board_lines line count (x ∷ list) (y ∷ board) o low =
    sum_add (λ k. cond (on_line line k (site_of x)) (share x y o) 0) (λ k. board_where (on_line line k) list board o) (range_with_len 0 count)
    ∙ ap (λ n. n + sum_by (λ k. board_where (on_line line k) list board o) (range_with_len 0 count)) (one_share line count x y o (low (site_of x).cycle (site_of x).cell))
    ∙ ap (λ n. share x y o + n) (board_lines line count list board o low)

-- a sum over a list is one over its places
by_places : (f : TotalsData → ℕ) (a : ℕ) (g : ℕ → ℕ) (xs : List TotalsData) → ((k : ℕ) → k < length xs → f (totals_at xs k) ≡ g (a + k)) → sum_by f xs ≡ sum_by g (range_with_len a (length xs))
by_places f a g [] h = refl
by_places f a g (x ∷ xs) h =
    let first : f x ≡ g (a + 0) = h 0 (omega arith) in
    let e : a + 0 ≡ a = omega arith in
    rw (sum_by-cons f x xs, sum_by-cons g a (range_with_len (a + 1) (length xs)), first, e)
    (ap (λ n. g a + n) (by_places f (a + 1) g xs (λ k low. let e2 : a + suc k ≡ a + 1 + k = omega arith in rw e2 at (h (suc k) (omega arith)))))

pub lines_whole : (line : ℕ → ℕ → ℕ) (count : ℕ) (list : List Job) (board : List (Option Outcome)) (n : ℕ) (totals : List TotalsData) (o : Outcome) → ((cycle cell : ℕ) → line cycle cell < count) → AreSummed line count list board n totals → length list ≤ n → length board ≡ length list →
    sum_by (λ t. total_at t o) totals ≡ board_total list board o
lines_whole line count list board n totals o low h long len =
    by_places (λ t. total_at t o) 0 (λ k. board_where (on_line line k) list board o) totals
    (λ k low. let e : 0 + k ≡ k = omega arith in rw e (all_totals (on_line line k) list board n (totals_at totals k) (h.each k (omega (arith, h.long))) long len o))
    ∙ ap (λ m. sum_by (λ k. board_where (on_line line k) list board o) (range_with_len 0 m)) h.long
    ∙ board_lines line count list board o low
