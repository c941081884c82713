-- Jobs with different outcomes on two boards.
use Rattle.std.proofs.Common.{◌≡◌, ℕ, ◌+◌, ◌<◌, ◌≤◌, ⊎_elim, Some, None, length, subst, arith}
use Rattle.std.specs.Prelude.{slice_get}
use Rattle.std.proofs.lemmas.Bool.{cases_lt}
use Rattle.std.proofs.lemmas.Option.{slice_get_within}
use Rattle.fs_model.specs.declared.outcomes.Outcome.{Outcome}
use Rattle.shard_merge.specs.Union.{BoardData, AgreeAt, Agree}

-- a job without an outcome on one of the boards
pub agree_none : (a b : BoardData) (i : ℕ) → slice_get a i ≡ Some None → AgreeAt a b i
agree_none a b i none x y here there = absurd (cc)

pub agree_no_other : (a b : BoardData) (i : ℕ) → slice_get b i ≡ Some None → AgreeAt a b i
agree_no_other a b i none x y here there = absurd (cc)

-- or with one on both
pub agree_same : (a b : BoardData) (i : ℕ) (kept other : Outcome) → slice_get a i ≡ Some (Some kept) → slice_get b i ≡ Some (Some other) → kept ≡ other → AgreeAt a b i
agree_same a b i kept other here there same x y first second = cc

-- all jobs below the end are all jobs
pub agree_all : (a b : BoardData) (n : ℕ) → length a ≤ n → ((i : ℕ) → i < n → AgreeAt a b i) → Agree a b
agree_all a b n whole below i x y here there = below i (let lt = slice_get_within a i (Some x) here in omega (arith, lt, whole)) x y here there

-- one job more
pub agree_more : (a b : BoardData) (n : ℕ) → ((i : ℕ) → i < n → AgreeAt a b i) → AgreeAt a b n → (i : ℕ) → i < n + 1 → AgreeAt a b i
agree_more a b n below here i lt =
    ⊎_elim (λ (less : i < n). below i less) (λ (no : n ≤ i). let same : n ≡ i = omega (arith, lt, no) in subst (AgreeAt a b) same here) (cases_lt i n)
