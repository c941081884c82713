-- The jobs that are missing on a board.
use Rattle.std.proofs.Common.{All, ◌≡◌, ℕ, zero, suc, ◌+◌, ◌-◌, ◌<◌, ◌≤◌, List, [], ◌∷◌, ◌++◌, length, take, drop, Option, Some, None, refl, ap, ◌∙◌, arith}
use Rattle.std.specs.Prelude.{slice_get}
use Rattle.std.proofs.lemmas.List.{drop-drop}
use Rattle.std.proofs.lemmas.List.Elements.{All-nil, All-cons, All-weaker}
use Rattle.fs_model.specs.declared.outcomes.Outcome.{Outcome}
use Rattle.fs_model.specs.Pages.{missing_from, missing}
use Rattle.def_use.specs.Board.{kept_of, HasOutcomeAt, IsNextMissing}
use Rattle.campaign.specs.Portions.{missing_behind}

-- ---- the next one

get_behind : (from : ℕ) (board : List (Option Outcome)) (k n : ℕ) → n ≡ from + k → slice_get (drop from board) k ≡ slice_get board n
get_behind zero board k n e = let same : k ≡ n = omega arith in ap (slice_get board) same
get_behind (suc from) [] k n e = refl
get_behind (suc from) (place ∷ board) k zero e = absurd (omega arith)
get_behind (suc from) (place ∷ board) k (suc n) e = get_behind from board k n (omega arith)

first_blank : (at k : ℕ) (rest : List (Option Outcome)) (n : ℕ) → n ≡ at + k → slice_get rest k ≡ Some None → ((i : ℕ) → i < k → HasOutcomeAt rest i)
    → missing_from at rest ≡ n ∷ missing_from (n + 1) (drop (suc k) rest)
first_blank at k [] n e blank before = absurd (cc)
first_blank at zero (None ∷ rest) n e blank before = let same : at ≡ n = omega arith in ap (λ (m : ℕ). m ∷ missing_from (m + 1) rest) same
first_blank at zero (Some o ∷ rest) n e blank before = absurd (cc)
first_blank at (suc k) (None ∷ rest) n e blank before = let there = (before 0 (omega arith)).1 in absurd (cc)
first_blank at (suc k) (Some o ∷ rest) n e blank before = first_blank (at + 1) k rest n (omega arith) blank (λ i lt. before (suc i) (omega arith))

pub next_found : (board : List (Option Outcome)) (from number : ℕ) → IsNextMissing board from (Some number) → missing_behind from board ≡ number ∷ missing_behind (number + 1) board
next_found board from number is =
    let k = number - from in
    let whole : number ≡ from + k = omega (arith, is.0) in
    let blank : slice_get (drop from board) k ≡ Some None = get_behind from board k number whole ∙ is.1 in
    let behind : from + suc k ≡ number + 1 = omega (arith, is.0) in
    first_blank from k (drop from board) number whole blank
    (λ i lt. let there = is.2 (from + i) (omega arith) (omega arith) in (there.0, get_behind from board i (from + i) refl ∙ there.1))
    ∙ ap (λ (l : List (Option Outcome)). number ∷ missing_from (number + 1) l) (drop-drop (suc k) from board ∙ ap (λ (m : ℕ). drop m board) behind)

pub none_blank : (at : ℕ) (rest : List (Option Outcome)) → ((i : ℕ) → i < length rest → HasOutcomeAt rest i) → missing_from at rest ≡ []
none_blank at [] all = refl
none_blank at (None ∷ rest) all = let there = (all 0 (omega arith)).1 in absurd (cc)
none_blank at (Some o ∷ rest) all = none_blank (at + 1) rest (λ i lt. all (suc i) (omega arith))

behind_end : (from : ℕ) (board : List (Option Outcome)) (i : ℕ) → i < length (drop from board) → from + i < length board
behind_end zero board i lt = omega arith
behind_end (suc from) [] i lt = absurd (omega arith)
behind_end (suc from) (place ∷ board) i lt = let h = behind_end from board i lt in omega (arith, h)

pub next_none : (board : List (Option Outcome)) (from : ℕ) → IsNextMissing board from None → missing_behind from board ≡ []
next_none board from is =
    none_blank from (drop from board)
    (λ i lt. let there = is (from + i) (omega arith) (behind_end from board i lt) in (there.0, get_behind from board i (from + i) refl ∙ there.1))

-- ---- how many

kept_missing_from : (at : ℕ) (board : List (Option Outcome)) → kept_of board + length (missing_from at board) ≡ length board
kept_missing_from at [] = refl
kept_missing_from at (None ∷ board) = let e = kept_missing_from (at + 1) board in omega (arith, e)
kept_missing_from at (Some o ∷ board) = let e = kept_missing_from (at + 1) board in omega (arith, e)

pub kept_missing : (board : List (Option Outcome)) → kept_of board + length (missing board) ≡ length board
kept_missing board = kept_missing_from 0 board

-- so many are missing
pub missing_count : (board : List (Option Outcome)) (jobs kept : ℕ) → jobs ≡ length board → kept ≡ kept_of board → jobs - kept ≡ length (missing board)
missing_count board jobs kept a b = let h = kept_missing board in omega (arith, h, a, b)

pub few_kept : (board : List (Option Outcome)) (jobs kept : ℕ) → jobs ≡ length board → kept ≡ kept_of board → kept ≤ jobs
few_kept board jobs kept a b = let h = kept_missing board in omega (arith, h, a, b)

-- a board with as many outcomes as places misses none
pub none_missing : (board : List (Option Outcome)) → kept_of board ≡ length board → missing board ≡ []
none_missing board all = let e = kept_missing board in nothing (missing board) (omega (arith, e, all))
  where
    nothing : (ns : List ℕ) → length ns ≡ 0 → ns ≡ []
    nothing [] none = refl
    nothing (n ∷ ns) none = absurd (omega arith)

missing_before : (at : ℕ) (board : List (Option Outcome)) (i : ℕ) → slice_get board i ≡ Some None → missing_from at board ≡ [] → ⊥
missing_before at [] i blank none = cc
missing_before at (None ∷ board) i blank none = cc
missing_before at (Some o ∷ board) zero blank none = cc
missing_before at (Some o ∷ board) (suc i) blank none = missing_before (at + 1) board i blank none

-- where none is missing no place is blank
pub none_is_blank : (board : List (Option Outcome)) (i : ℕ) → slice_get board i ≡ Some None → missing board ≡ [] → ⊥
none_is_blank board i = missing_before 0 board i

-- ---- a list, element by element

module _ {X : Type 0} where
  pub front_at : (xs : List X) (i : ℕ) (x : X) (rest : List X) → drop i xs ≡ x ∷ rest → take (suc i) xs ≡ take i xs ++ x ∷ []
  front_at [] zero x rest e = absurd (cc)
  front_at [] (suc i) x rest e = absurd (cc)
  front_at (y ∷ xs) zero x rest e = let same : y ≡ x = cc in ap (λ (z : X). z ∷ []) same
  front_at (y ∷ xs) (suc i) x rest e = ap (λ (l : List X). y ∷ l) (front_at xs i x rest e)

  pub rest_at : (xs : List X) (i : ℕ) (x : X) (rest : List X) → drop i xs ≡ x ∷ rest → drop (suc i) xs ≡ rest
  rest_at [] zero x rest e = absurd (cc)
  rest_at [] (suc i) x rest e = absurd (cc)
  rest_at (y ∷ xs) zero x rest e = let same : xs ≡ rest = cc in same
  rest_at (y ∷ xs) (suc i) x rest e = rest_at xs i x rest e

-- ---- from a number on

pub from_low : (at : ℕ) (board : List (Option Outcome)) → All (λ n. at ≤ n) (missing_from at board)
from_low at [] = All-nil (λ n. at ≤ n)
from_low at (None ∷ board) =
    All-cons (λ n. at ≤ n) at (missing_from (at + 1) board) (omega arith) (All-weaker (λ n. at + 1 ≤ n) (λ n. at ≤ n) (λ n le. omega arith) (missing_from (at + 1) board) (from_low (at + 1) board))
from_low at (Some o ∷ board) = All-weaker (λ n. at + 1 ≤ n) (λ n. at ≤ n) (λ n le. omega arith) (missing_from (at + 1) board) (from_low (at + 1) board)
