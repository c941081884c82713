-- Boards put together, as maps from the numbers of jobs to outcomes.
use Rattle.std.specs.Prelude.{◌≡◌, ◌≢◌, ℕ, ◌<◌, Option, Some, List, [], ◌∷◌, slice_get}
use Rattle.fs_model.specs.declared.outcomes.Outcome.{Outcome}
use Rattle.result_keeper.specs.Boards.{or_else}

-- a place for each job: its outcome, or a blank
abbrev pub BoardData : Type 0
BoardData = List (Option Outcome)

-- each place as it is, or where it is blank as the other board has it
abbrev pub union : BoardData → BoardData → BoardData
union [] other = []
union (place ∷ board) [] = place ∷ board
union (place ∷ board) (p ∷ other) = or_else place p ∷ union board other

-- the job has not two outcomes
abbrev pub AgreeAt : BoardData → BoardData → ℕ → Type 0
AgreeAt a b i = (x y : Outcome) → slice_get a i ≡ Some (Some x) → slice_get b i ≡ Some (Some y) → x ≡ y

-- no job has
abbrev pub Agree : BoardData → BoardData → Type 0
Agree a b = (i : ℕ) → AgreeAt a b i

-- the job has these two outcomes
pub record IsApart (a b : BoardData) (job : ℕ) (kept other : Outcome) : Type 0 where
  pub here : slice_get a job ≡ Some (Some kept)
  pub there : slice_get b job ≡ Some (Some other)
  pub apart : kept ≢ other

-- and it is the least such job
pub record IsFirstApart (a b : BoardData) (job : ℕ) (kept other : Outcome) : Type 0 where
  pub is : IsApart a b job kept other
  pub least : (i : ℕ) → i < job → AgreeAt a b i
