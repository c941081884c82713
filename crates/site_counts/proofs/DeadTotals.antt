-- The dead sites of lines, line by line.
use Rattle.std.proofs.Common.{◌≡◌, ℕ, ◌+◌, ◌-◌, ◌*◌, ◌<◌, ◌≤◌, cond, List, length, refl, ap, ◌∙◌, ⊎_elim, arith}
use Rattle.std.specs.Prelude.{slice_index, slice_set}
use Rattle.std.proofs.lemmas.List.{get_or-set_same, get_or-set_other, length-set}
use Rattle.std.proofs.lemmas.Bool.{cases_eq}
use Rattle.fs_model.specs.declared.outcomes.Outcome.{Outcome}
use Rattle.fs_model.specs.declared.outcomes.Outcome.TheVariants.{NoEffect}
use Rattle.fs_model.specs.Outcome.{TotalsData, added, no_totals, same_outcome, sum_of, total_at}
use Rattle.fs_model.proofs.EachOutcome.{total_at-added}
use Rattle.site_counts.specs.Lines.{totals_at}

-- the totals with the sites beside them that they leave of so many
abbrev pub with_dead : ℕ → TotalsData → TotalsData
with_dead sites t = added t NoEffect (sites - sum_of t)

-- the first n lines have theirs
pub record AreDead (cycles : ℕ) (bits : List ℕ) (old : List TotalsData) (n : ℕ) (totals : List TotalsData) : Type 0 where
  pub long : length totals ≡ length old
  pub done : (k : ℕ) → k < n → totals_at totals k ≡ with_dead (cycles * slice_index bits k) (totals_at old k)
  pub left : (k : ℕ) → n ≤ k → totals_at totals k ≡ totals_at old k

pub none_dead : (cycles : ℕ) (bits : List ℕ) (old : List TotalsData) → AreDead cycles bits old 0 old
none_dead cycles bits old = record { long = refl; done = λ k low. absurd (omega arith); left = λ k high. refl }

pub dead_more : (cycles : ℕ) (bits : List ℕ) (old : List TotalsData) (n dead : ℕ) (totals new : List TotalsData) → n < length old → dead ≡ cycles * slice_index bits n - sum_of (totals_at totals n) →
    new ≡ slice_set totals n (added (totals_at totals n) NoEffect dead) → AreDead cycles bits old n totals → AreDead cycles bits old (n + 1) new
dead_more cycles bits old n dead totals new low is made before = record {
  long = ap length made ∙ length-set totals n (added (totals_at totals n) NoEffect dead) ∙ before.long;
  done = λ k below. ⊎_elim (λ (e : k ≡ n). same k e) (λ (ne : k ≡ n → ⊥). other k ne ∙ before.done k (omega arith)) (cases_eq k n);
  left = λ k above. other k (λ e. omega arith) ∙ before.left k (omega arith);
}
  where
    same : (k : ℕ) → k ≡ n → totals_at new k ≡ with_dead (cycles * slice_index bits k) (totals_at old k)
    same k e =
        let now : totals_at new n ≡ added (totals_at totals n) NoEffect dead = rw made (get_or-set_same totals n (added (totals_at totals n) NoEffect dead) no_totals (omega (arith, before.long))) in
        rw e (now ∙ ap (λ d. added (totals_at totals n) NoEffect d) is ∙ ap (with_dead (cycles * slice_index bits n)) (before.left n (omega arith)))

    other : (k : ℕ) → (k ≡ n → ⊥) → totals_at new k ≡ totals_at totals k
    other k ne = rw made (get_or-set_other totals n k (added (totals_at totals n) NoEffect dead) no_totals ne)

-- with them the totals are counts
pub dead_counts : (count : Outcome → ℕ) (sites live dead : ℕ) (old new : TotalsData) → new ≡ with_dead sites old → sum_of old ≡ live → live + dead ≡ sites →
    ((o : Outcome) → total_at old o + cond (same_outcome NoEffect o) dead 0 ≡ count o) → (o : Outcome) → total_at new o ≡ count o
dead_counts count sites live dead old new made is all counts o =
    let left : sites - sum_of old ≡ dead = omega arith in
    ap (λ (t : TotalsData). total_at t o) made ∙ total_at-added old NoEffect o (sites - sum_of old) ∙ ap (λ d. total_at old o + cond (same_outcome NoEffect o) d 0) left ∙ counts o
