-- The missing jobs that pass a test, as those of a portion do: one after the other, and what filing the first one leaves.
use Rattle.std.proofs.Common.{All, ◌≡◌, ℕ, zero, suc, ◌+◌, ◌≤◌, cond, Bool, true, false, List, [], ◌∷◌, length, drop, Option, Some, None, refl, ap, sym, subst, ◌∙◌, arith}
use Rattle.std.specs.Prelude.{slice_get, slice_set, filter}
use Rattle.std.proofs.lemmas.List.Elements.{All-filter, All-head}
use Rattle.fs_model.specs.declared.outcomes.Outcome.{Outcome}
use Rattle.fs_model.specs.Pages.{missing_from, missing}
use Rattle.campaign.specs.Portions.{due, missing_behind}
use Rattle.campaign.specs.Shards.{in_shard}
use Rattle.campaign.proofs.Missing.{from_low}

module _ (p : ℕ → Bool) where
  pub taken_in : (n : ℕ) (ns : List ℕ) → p n ≡ true → filter p (n ∷ ns) ≡ n ∷ filter p ns
  taken_in n ns is = ap (λ (b : Bool). cond b (n ∷ filter p ns) (filter p ns)) is

  pub left_out : (n : ℕ) (ns : List ℕ) → p n ≡ false → filter p (n ∷ ns) ≡ filter p ns
  left_out n ns is = ap (λ (b : Bool). cond b (n ∷ filter p ns) (filter p ns)) is

  pub few_pass : (ns : List ℕ) → length (filter p ns) ≤ length ns
  few_pass [] = omega arith
  few_pass (n ∷ ns) = by (p n) refl (few_pass ns)
    where
      by : (b : Bool) → p n ≡ b → length (filter p ns) ≤ length ns → length (filter p (n ∷ ns)) ≤ length (n ∷ ns)
      by true is rest = let e = ap (λ (l : List ℕ). length l) (taken_in n ns is) in omega (arith, e, rest)
      by false is rest = let e = ap (λ (l : List ℕ). length l) (left_out n ns is) in omega (arith, e, rest)

  -- ---- the first one

  -- the first that passes: it is a blank place, and with any outcome there the others that pass are left
  pub record IsFirst (at : ℕ) (board : List (Option Outcome)) (n : ℕ) (ns : List ℕ) (k : ℕ) : Type 0 where
    pub place : n ≡ at + k
    pub blank : slice_get board k ≡ Some None
    pub others : (o : Outcome) → filter p (missing_from at (slice_set board k (Some o))) ≡ ns

  step_first : (at : ℕ) (board : List (Option Outcome)) (n : ℕ) (ns : List ℕ) (b : Bool) → p at ≡ b → filter p (at ∷ missing_from (at + 1) board) ≡ n ∷ ns
      → ((ns' : List ℕ) → filter p (missing_from (at + 1) board) ≡ n ∷ ns' → (k : ℕ) × IsFirst (at + 1) board n ns' k) → (k : ℕ) × IsFirst at (None ∷ board) n ns k
  step_first at board n ns true e is later =
      let whole : at ∷ filter p (missing_from (at + 1) board) ≡ n ∷ ns = sym (taken_in at (missing_from (at + 1) board) e) ∙ is in
      let same : at ≡ n = cc in
      let rest : filter p (missing_from (at + 1) board) ≡ ns = cc in
      (0, record { place = omega arith; blank = refl; others = λ o. rest })
  step_first at board n ns false e is later =
      let r = later ns (sym (left_out at (missing_from (at + 1) board) e) ∙ is) in (
        suc r.0,
        record {
          place = let h = r.1.place in omega (arith, h);
          blank = r.1.blank;
          others = λ o. left_out at (missing_from (at + 1) (slice_set board r.0 (Some o))) e ∙ r.1.others o;
        },
      )

  first_of : (at : ℕ) (board : List (Option Outcome)) (n : ℕ) (ns : List ℕ) → filter p (missing_from at board) ≡ n ∷ ns → (k : ℕ) × IsFirst at board n ns k
  first_of at [] n ns is = absurd (cc)
  first_of at (None ∷ board) n ns is = step_first at board n ns (p at) refl is (λ ns' h. first_of (at + 1) board n ns' h)
  first_of at (Some q ∷ board) n ns is =
      let r = first_of (at + 1) board n ns is in
      (suc r.0, record { place = let h = r.1.place in omega (arith, h); blank = r.1.blank; others = λ o. r.1.others o })

  pub first_due : (board : List (Option Outcome)) (n : ℕ) (ns : List ℕ) → filter p (missing board) ≡ n ∷ ns → IsFirst 0 board n ns n
  first_due board n ns is =
      let r = first_of 0 board n ns is in
      let same : r.0 ≡ n = let h = r.1.place in omega (arith, h) in
      subst (λ (k : ℕ). IsFirst 0 board n ns k) same r.1

  -- ---- from a number on

  due_low : (at : ℕ) (board : List (Option Outcome)) → All (λ n. at ≤ n) (filter p (missing_from at board))
  due_low at board = All-filter p (λ n. at ≤ n) (missing_from at board) (from_low at board)

  step_high : (at k m : ℕ) (board : List (Option Outcome)) (b : Bool) → p at ≡ b → m ≡ at + suc k → All (λ n. m ≤ n) (filter p (at ∷ missing_from (at + 1) board))
      → (All (λ n. m ≤ n) (filter p (missing_from (at + 1) board)) → filter p (missing_from m (drop k board)) ≡ filter p (missing_from (at + 1) board))
      → filter p (missing_from m (drop k board)) ≡ filter p (at ∷ missing_from (at + 1) board)
  step_high at k m board true e is all later =
      let le = All-head (λ n. m ≤ n) at (filter p (missing_from (at + 1) board)) (subst (All (λ n. m ≤ n)) (taken_in at (missing_from (at + 1) board) e) all) in
      absurd (omega (arith, le, is))
  step_high at k m board false e is all later =
      let out = left_out at (missing_from (at + 1) board) e in later (subst (All (λ n. m ≤ n)) out all) ∙ sym out

  due_high : (at k m : ℕ) (board : List (Option Outcome)) → m ≡ at + k → All (λ n. m ≤ n) (filter p (missing_from at board)) → filter p (missing_from m (drop k board)) ≡ filter p (missing_from at board)
  due_high at zero m board e all = let same : m ≡ at = omega arith in ap (λ (n : ℕ). filter p (missing_from n board)) same
  due_high at (suc k) m [] e all = refl
  due_high at (suc k) m (None ∷ board) e all = step_high at k m board (p at) refl e all (λ rest. due_high (at + 1) k m board (omega arith) rest)
  due_high at (suc k) m (Some o ∷ board) e all = due_high (at + 1) k m board (omega arith) all

  -- where those of one board are those from a number on of another, none is before that number
  pub none_before : (from : ℕ) (old new : List (Option Outcome)) → filter p (missing new) ≡ filter p (missing_behind from old) → filter p (missing_behind from new) ≡ filter p (missing new)
  none_before from old new same =
      due_high 0 from from new (omega arith) (subst (All (λ n. from ≤ n)) (sym same) (due_low from (drop from old)))

-- ---- without a shard

each_passes : (ns : List ℕ) → filter (in_shard None) ns ≡ ns
unfolding in_shard
each_passes [] = refl
each_passes (n ∷ ns) = ap (λ (l : List ℕ). n ∷ l) (each_passes ns)

-- each missing job is due
pub due_all : (board : List (Option Outcome)) → due (in_shard None) board ≡ missing board
due_all board = each_passes (missing board)
