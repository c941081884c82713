-- Many boards put together, and the counts that they give.
use Rattle.std.proofs.Common.{◌≡◌, inl, inr, ⊎_elim, ℕ, suc, ◌+◌, ◌<◌, All, cond, Option, Some, None, List, [], ◌∷◌, length, refl, sym, ap, ◌∙◌, arith}
use Rattle.std.specs.Prelude.{slice_get}
use Rattle.std.proofs.lemmas.List.Elements.{All-head, All-tail}
use Rattle.fs_model.specs.declared.sites.Site.{Site}
use Rattle.fs_model.specs.declared.sites.Job.{Job}
use Rattle.fs_model.specs.declared.outcomes.Outcome.{Outcome}
use Rattle.fs_model.specs.declared.outcomes.Outcome.TheVariants.{NoEffect}
use Rattle.fs_model.specs.Case.{CaseData}
use Rattle.fs_model.specs.AccessLog.{log, dead}
use Rattle.fs_model.specs.Filling.{board_total}
use Rattle.fs_model.specs.Job.{jobs_in, site_of}
use Rattle.fs_model.specs.Outcome.{outcome, count, same_outcome}
use Rattle.fs_model.proofs.Pruned.{pruned_totals}
use Rattle.fault_space.proofs.Boards.{total_right}
use Rattle.shard_merge.specs.Union.{BoardData, union}
use Rattle.shard_merge.specs.Laws.{merged, IsRightBoard, Covers}
use Rattle.shard_merge.proofs.Unions.{union_from, union_left, union_right, right_union}

module _ (outcomes : Site → Outcome) (list : List Job) where
  pub merged_right : (board : BoardData) (others : List BoardData) → IsRightBoard outcomes list board → All (IsRightBoard outcomes list) others → IsRightBoard outcomes list (merged board others)
  merged_right board [] r rs = r
  merged_right board (other ∷ others) r rs =
      merged_right (union board other) others (right_union outcomes list board other r (All-head (IsRightBoard outcomes list) other others rs)) (All-tail (IsRightBoard outcomes list) other others rs)

  pub merged_covers : (board : BoardData) (others : List BoardData) (i : ℕ) → IsRightBoard outcomes list board → All (IsRightBoard outcomes list) others → Covers (board ∷ others) i
      → (q : Outcome) × (slice_get (merged board others) i ≡ Some (Some q))
  merged_covers board [] i r rs covers = ⊎_elim (λ (h : (o : Outcome) × (slice_get board i ≡ Some (Some o))). h) (λ (h : ⊥). absurd h) covers
  merged_covers board (other ∷ others) i r rs covers =
      let ro = All-head (IsRightBoard outcomes list) other others rs in
      let rr = All-tail (IsRightBoard outcomes list) other others rs in
      let both = right_union outcomes list board other r ro in
      let same : length board ≡ length other = r.long ∙ sym ro.long in
      merged_covers (union board other) others i both rr
      (⊎_elim
      (λ (h : (o : Outcome) × (slice_get board i ≡ Some (Some o))). inl (h.0, union_left board other i h.0 h.1))
      (λ (h : Covers (other ∷ others) i).
      ⊎_elim
      (λ (k : (o : Outcome) × (slice_get other i ≡ Some (Some o))). inl (union_right board other i k.0 same k.1))
      (λ (k : Covers others i). inr k)
      h)
      covers)

pub counts : (c : CaseData) (first : BoardData) (others : List BoardData) → IsRightBoard (outcome c) (jobs_in c) first → All (IsRightBoard (outcome c) (jobs_in c)) others
    → ((i : ℕ) → i < length (jobs_in c) → Covers (first ∷ others) i)
    → (o : Outcome) → count c o ≡ board_total (jobs_in c) (merged first others) o + cond (same_outcome NoEffect o) (dead (log c)) 0
counts c first others r rs covers o =
    let right = merged_right (outcome c) (jobs_in c) first others r rs in
    pruned_totals c o
    ∙ ap (λ (n : ℕ). n + cond (same_outcome NoEffect o) (dead (log c)) 0)
    (sym (total_right (outcome c) (jobs_in c) (merged first others) o right.long
    (λ i lt. merged_covers (outcome c) (jobs_in c) first others i r rs (covers i (omega (arith, lt, right.long)))) right.right))

-- ---- the order is free

module _ (outcomes : Site → Outcome) (list : List Job) where
  pub merged_from : (board : BoardData) (others : List BoardData) (i : ℕ) (o : Outcome) → slice_get (merged board others) i ≡ Some (Some o) → Covers (board ∷ others) i
  merged_from board [] i o is = inl (o, is)
  merged_from board (other ∷ others) i o is =
      ⊎_elim
      (λ (h : (q : Outcome) × (slice_get (union board other) i ≡ Some (Some q))).
      ⊎_elim
      (λ (e : slice_get board i ≡ Some (Some h.0)). inl (h.0, e))
      (λ (e : slice_get other i ≡ Some (Some h.0)). inr (inl (h.0, e)))
      (union_from board other i h.0 h.1))
      (λ (h : Covers others i). inr (inr h))
      (merged_from (union board other) others i o is)

  -- right boards with outcomes at the same places are equal
  same_place : (job : Job) (x y : Option Outcome) → ((o : Outcome) → x ≡ Some o → o ≡ outcomes (site_of job)) → ((o : Outcome) → y ≡ Some o → o ≡ outcomes (site_of job))
      → ((o : Outcome) → x ≡ Some o → (q : Outcome) × (y ≡ Some q)) → ((o : Outcome) → y ≡ Some o → (q : Outcome) × (x ≡ Some q)) → x ≡ y
  same_place job None None rx ry to from = refl
  same_place job None (Some q) rx ry to from = let h = (from q refl).1 in absurd (cc)
  same_place job (Some p) None rx ry to from = let h = (to p refl).1 in absurd (cc)
  same_place job (Some p) (Some q) rx ry to from = ap (λ (o : Outcome). Some o) (rx p refl ∙ sym (ry q refl))

  one_in : (x : Option Outcome) (o : Outcome) → Some x ≡ Some (Some o) → x ≡ Some o
  one_in x o e = cc

pub equal : (outcomes : Site → Outcome) (list : List Job) (a b : BoardData) → IsRightBoard outcomes list a → IsRightBoard outcomes list b
    → ((i : ℕ) (o : Outcome) → slice_get a i ≡ Some (Some o) → (q : Outcome) × (slice_get b i ≡ Some (Some q)))
    → ((i : ℕ) (o : Outcome) → slice_get b i ≡ Some (Some o) → (q : Outcome) × (slice_get a i ≡ Some (Some q))) → a ≡ b
equal outcomes [] [] [] ra rb to from = refl
equal outcomes [] [] (y ∷ b) ra rb to from = let h = rb.long in absurd (omega (arith, h))
equal outcomes [] (x ∷ a) b ra rb to from = let h = ra.long in absurd (omega (arith, h))
equal outcomes (job ∷ list) [] b ra rb to from = let h = ra.long in absurd (omega (arith, h))
equal outcomes (job ∷ list) (x ∷ a) [] ra rb to from = let h = rb.long in absurd (omega (arith, h))
equal outcomes (job ∷ list) (x ∷ a) (y ∷ b) ra rb to from =
    let some = λ (z : Option Outcome) (o : Outcome) (e : z ≡ Some o). ap (λ (w : Option Outcome). Some w) e in
    let la = ra.long in
    let lb = rb.long in
    let here : x ≡ y = same_place outcomes list job x y
    (λ o e. ra.right 0 job o refl (some x o e)) (λ o e. rb.right 0 job o refl (some y o e))
    (λ o e. let h = to 0 o (some x o e) in (h.0, one_in outcomes list y h.0 h.1))
    (λ o e. let h = from 0 o (some y o e) in (h.0, one_in outcomes list x h.0 h.1)) in
    let there : a ≡ b = equal outcomes list a b
    (record { long = omega (arith, la); right = λ i j o at is. ra.right (suc i) j o at is })
    (record { long = omega (arith, lb); right = λ i j o at is. rb.right (suc i) j o at is })
    (λ i o e. to (suc i) o e) (λ i o e. from (suc i) o e) in
    rw (here, there) refl

pub order_is_free : (outcomes : Site → Outcome) (list : List Job) (f g : BoardData) (fs gs : List BoardData) → IsRightBoard outcomes list f → IsRightBoard outcomes list g → All (IsRightBoard outcomes list) fs → All (IsRightBoard outcomes list) gs
    → ((i : ℕ) → Covers (f ∷ fs) i → Covers (g ∷ gs) i) → ((i : ℕ) → Covers (g ∷ gs) i → Covers (f ∷ fs) i) → merged f fs ≡ merged g gs
order_is_free outcomes list f g fs gs rf rg rfs rgs to from =
    equal outcomes list (merged f fs) (merged g gs) (merged_right outcomes list f fs rf rfs) (merged_right outcomes list g gs rg rgs)
    (λ i o e. merged_covers outcomes list g gs i rg rgs (to i (merged_from outcomes list f fs i o e)))
    (λ i o e. merged_covers outcomes list f fs i rf rfs (from i (merged_from outcomes list g gs i o e)))
