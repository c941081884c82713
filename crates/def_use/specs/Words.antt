-- How the places of a board lie in words: 21 in each, of three bits, the first in the lowest ones.
use Rattle.std.specs.Prelude.{◌≡◌, ◌<◌, ℕ, ◌*◌, ◌^◌, ◌/◌, ◌%◌, List, map, Option, length, slice_index}
use Rattle.std.specs.List.{range_with_len}
use Rattle.fs_model.specs.declared.outcomes.Outcome.{Outcome}
use Rattle.fs_model.specs.Outcome.{outcome_of}
use Rattle.def_use.specs.Board.{kept_of}

-- what a place of a word holds
abbrev pub digit : ℕ → ℕ → ℕ
digit word place = word / 2 ^ (3 * place) % 8

-- what a place of these words holds
unfoldable pub bits_at : List ℕ → ℕ → ℕ
bits_at words place = digit (slice_index words (place / 21)) (place % 21)

-- the outcome of a place: a blank one holds 3, which is no outcome's number
unfoldable pub kept_at_place : List ℕ → ℕ → Option Outcome
kept_at_place words place = outcome_of (bits_at words place)

-- the board of `jobs` jobs whose words are these
abbrev pub board_from : List ℕ → ℕ → List (Option Outcome)
board_from words jobs = map (kept_at_place words) (range_with_len 0 jobs)

-- words that a board of `jobs` jobs may have, and the number of its outcomes
pub record IsBoard (words : List ℕ) (jobs kept : ℕ) : Type 0 where
  pub counted : kept ≡ kept_of (board_from words jobs)
  pub room : jobs < 21 * length words
  pub few : length (board_from words jobs) < 2 ^ 32
