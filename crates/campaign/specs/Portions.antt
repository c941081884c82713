-- Which jobs a campaign runs: its portion. It is a test of job numbers.
use Rattle.std.specs.Prelude.{ℕ, ◌&&◌, Bool, false, Option, Some, None, List, drop, filter, nat_lt, slice_get}
use Rattle.fs_model.specs.declared.outcomes.Outcome.{Outcome}
use Rattle.fs_model.specs.declared.sites.Job.{Job}
use Rattle.fs_model.specs.Pages.{missing_from, missing}
use Rattle.window_counts.specs.Windows.{weight_inside}
use Rattle.campaign.specs.Shards.{in_shard}
use denote.Ref.{Bor}

-- the missing jobs of the portion, ascending
abbrev pub due : (ℕ → Bool) → List (Option Outcome) → List ℕ
due portion board = filter portion (missing board)

-- ---- in a window

-- some of the job's cycles are in the window
abbrev pub is_due_job : List Bool → Option Job → Bool
is_due_job window None = false
is_due_job window (Some job) = nat_lt 0 (weight_inside window job)

-- the job of this number is due in the window
unfoldable pub is_due_at : List Bool → List Job → ℕ → Bool
is_due_at window list number = is_due_job window (slice_get list number)

-- the jobs of a portion that are due in the window
abbrev pub narrowed : (ℕ → Bool) → List Bool → List Job → ℕ → Bool
narrowed portion window list number = portion number && is_due_at window list number

-- ---- as a campaign has it

-- a shard, if one is given, and a window, if one is given
pub record PortionData : Type 0 where
  pub shard : Option (ℕ × ℕ)
  pub window : Option (List Bool)

-- the window that a reference points to, if one is given
abbrev pub window_at : Option (Bor (List Bool)) → Option (List Bool)
window_at None = None
window_at (Some window) = Some window.now

abbrev pub within_window : (ℕ → Bool) → Option (List Bool) → List Job → ℕ → Bool
within_window portion None list = portion
within_window portion (Some window) list = narrowed portion window list

-- the jobs of the shard that are due in the window
abbrev pub in_portion : PortionData → List Job → ℕ → Bool
in_portion p list = within_window (in_shard p.shard) p.window list

-- ---- from a number on

-- the numbers of the blank places from this one on, ascending
abbrev pub missing_behind : ℕ → List (Option Outcome) → List ℕ
missing_behind from board = missing_from from (drop from board)

-- those of the portion
abbrev pub due_behind : (ℕ → Bool) → ℕ → List (Option Outcome) → List ℕ
due_behind portion from board = filter portion (missing_behind from board)
