-- The laws of boards that are put together.
use Rattle.std.specs.Prelude.{◌≡◌, ◌⊎◌, ℕ, ◌+◌, ◌<◌, if◌then◌else◌, Some, List, [], ◌∷◌, Ok, length, slice_get, All}
use Rattle.fs_model.specs.declared.sites.Site.{Site}
use Rattle.fs_model.specs.declared.sites.Job.{Job}
use Rattle.fs_model.specs.declared.outcomes.Outcome.{Outcome}
use Rattle.fs_model.specs.declared.outcomes.Outcome.TheVariants.{NoEffect}
use Rattle.fs_model.specs.Case.{CaseData}
use Rattle.fs_model.specs.Card.{HasCard}
use Rattle.fs_model.specs.AccessLog.{log, dead}
use Rattle.fs_model.specs.Filling.{board_total}
use Rattle.fs_model.specs.Job.{HasOutcomes, jobs_in}
use Rattle.fs_model.specs.Outcome.{outcome, count, same_outcome}
use Rattle.result_keeper.specs.Acceptance.{IsSound, accept}
use Rattle.shard_merge.specs.Union.{BoardData, Agree, union}

-- all of them, put together in this order
abbrev pub merged : BoardData → List BoardData → BoardData
merged board [] = board
merged board (other ∷ others) = merged (union board other) others

-- the board has a place for each job, and each outcome on it is that of its job's site
pub record IsRightBoard (outcomes : Site → Outcome) (list : List Job) (board : BoardData) : Type 0 where
  pub long : length board ≡ length list
  pub right : HasOutcomes outcomes list board

-- one of the boards has an outcome for the job
abbrev pub Covers : List BoardData → ℕ → Type 0
Covers [] i = ⊥
Covers (board ∷ boards) i = ((o : Outcome) × (slice_get board i ≡ Some (Some o))) ⊎ Covers boards i

-- ---- the laws

abbrev pub Commutes : Type 0
Commutes = (a b : BoardData) → length a ≡ length b → Agree a b → union a b ≡ union b a

abbrev pub Associates : Type 0
Associates = (a b c : BoardData) → length a ≡ length b → length b ≡ length c → union (union a b) c ≡ union a (union b c)

abbrev pub Repeats : Type 0
Repeats = (a : BoardData) → union a a ≡ a

-- right boards agree, and together they are right
abbrev pub StaysRight : Type 0
StaysRight =
    (outcomes : Site → Outcome) (list : List Job) (a b : BoardData) → IsRightBoard outcomes list a → IsRightBoard outcomes list b
    → Agree a b × IsRightBoard outcomes list (union a b)

-- Right boards of a case, merged in any order and with repeats, give the counts of all sites where together they have each
-- job.
abbrev pub UnionCounts : Type 0
UnionCounts =
    (c : CaseData) (first : BoardData) (others : List BoardData) → IsRightBoard (outcome c) (jobs_in c) first
    → All (IsRightBoard (outcome c) (jobs_in c)) others
    → ((i : ℕ) → i < length (jobs_in c) → Covers (first ∷ others) i)
    → (o : Outcome) → count c o ≡ board_total (jobs_in c) (merged first others) o + (if same_outcome NoEffect o then dead (log c) else 0)

-- and the board that they give does not depend on the order
abbrev pub OrderIsFree : Type 0
OrderIsFree =
    (outcomes : Site → Outcome) (list : List Job) (f g : BoardData) (fs gs : List BoardData) → IsRightBoard outcomes list f → IsRightBoard outcomes list g
    → All (IsRightBoard outcomes list) fs → All (IsRightBoard outcomes list) gs
    → ((i : ℕ) → Covers (f ∷ fs) i → Covers (g ∷ gs) i) → ((i : ℕ) → Covers (g ∷ gs) i → Covers (f ∷ fs) i)
    → merged f fs ≡ merged g gs

-- what a sound file gives to a case that accepts it is right
abbrev pub SoundIsRight : Type 0
SoundIsRight =
    (c : CaseData) (file : List ℕ) (board : BoardData) → HasCard c → IsSound file → accept file c ≡ Ok board
    → IsRightBoard (outcome c) (jobs_in c) board
