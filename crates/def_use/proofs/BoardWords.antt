-- A board and its words: what each place stands for, and what a write makes of them.
use Rattle.std.proofs.Common.{◌≡◌, ◌≢◌, ℕ, zero, suc, ◌+◌, ◌*◌, ◌/◌, ◌%◌, ◌^◌, ◌<◌, List, length, replicate, map, Option, Some, None, get_or, refl, sym, ap, ◌∙◌, arith, ⊎_elim}
use Rattle.std.proofs.Math.ListN.{set}
use Rattle.std.specs.Prelude.{slice_get, slice_set, slice_index}
use Rattle.std.specs.List.{range_with_len}
use Rattle.std.proofs.lemmas.Bool.{cases_eq}
use Rattle.std.proofs.lemmas.List.{length-replicate, length-set, get_or-replicate, get_or-set_same, get_or-set_other}
use Rattle.std.proofs.lemmas.List.FromFn.{length-map-range_with_len, get_or-map-range_with_len, fill_by_all}
use Rattle.std.proofs.lemmas.Option.{slice_get-get_or, get_or_from_slice_get}
use Rattle.fs_model.specs.declared.outcomes.Outcome.{Outcome}
use Rattle.fs_model.specs.Outcome.{number_of, outcome_of}
use Rattle.fs_model.proofs.EachOutcome.{outcome_of-number_of}
use Rattle.def_use.specs.declared.boards.TheConstants.{BLANK_WORD}
use Rattle.def_use.specs.Board.{place_at, kept_of, HasOutcomeAt}
use Rattle.def_use.specs.Words.{digit, bits_at, kept_at_place, board_from, IsBoard}
use Rattle.def_use.proofs.Places.{kept_of-replicate, kept_of-set, kept_of-missing}

-- ---- the numbers that places hold

pub outcome_of-blank : outcome_of 3 ≡ None
outcome_of-blank = refl

pub blank_alone : (n : ℕ) → n < 8 → outcome_of n ≡ None → n ≡ 3
blank_alone zero few none = absurd cc
blank_alone (suc zero) few none = absurd cc
blank_alone (suc (suc zero)) few none = absurd cc
blank_alone (suc (suc (suc zero))) few none = refl
blank_alone (suc (suc (suc (suc zero)))) few none = absurd cc
blank_alone (suc (suc (suc (suc (suc zero))))) few none = absurd cc
blank_alone (suc (suc (suc (suc (suc (suc zero)))))) few none = absurd cc
blank_alone (suc (suc (suc (suc (suc (suc (suc zero))))))) few none = absurd cc
blank_alone (suc (suc (suc (suc (suc (suc (suc (suc n)))))))) few none = absurd (omega arith)

-- ---- a board and its words

pub number_at-lt : (words : List ℕ) (i : ℕ) → bits_at words i < 8
unfolding bits_at
number_at-lt words i = omega arith

pub blank_place : (words : List ℕ) (i : ℕ) → kept_at_place words i ≡ None → bits_at words i ≡ 3
unfolding kept_at_place
blank_place words i none = blank_alone (bits_at words i) (number_at-lt words i) none

module _ (words : List ℕ) (i word : ℕ) (o : Outcome) (within : i < 21 * length words) (here : digit word (i % 21) ≡ number_of o) (others : (other : ℕ) → other ≢ i % 21 → digit word other ≡ digit (slice_index words (i / 21)) other) where
  abbrev rewritten : List ℕ
  rewritten = set words (i / 21) word

  read_back : slice_index rewritten (i / 21) ≡ word
  read_back = get_or-set_same words (i / 21) word 0 (omega (arith, within))

  pub written_place : kept_at_place rewritten i ≡ Some o
  unfolding kept_at_place bits_at
  written_place = ap outcome_of (ap (λ (w : ℕ). digit w (i % 21)) read_back ∙ here) ∙ outcome_of-number_of o

  pub other_place : (k : ℕ) → k ≢ i → kept_at_place rewritten k ≡ kept_at_place words k
  unfolding kept_at_place bits_at
  other_place k ne =
      ap outcome_of (⊎_elim (λ (same : k / 21 ≡ i / 21). ap (λ (w : ℕ). digit w (k % 21)) (ap (slice_index rewritten) same ∙ read_back) ∙ others (k % 21) (λ again. ne (omega (arith, same, again))) ∙ ap (λ (at : ℕ). digit (slice_index words at) (k % 21)) (sym same))
      (λ (apart : k / 21 ≡ i / 21 → ⊥). ap (λ (w : ℕ). digit w (k % 21)) (get_or-set_other words (i / 21) (k / 21) word 0 apart))
      (cases_eq (k / 21) (i / 21)))

module _ (words : List ℕ) (jobs : ℕ) (board : List (Option Outcome)) (view : board_from words jobs ≡ board) where
  pub length_board : length board ≡ jobs
  length_board = ap length (sym view) ∙ length-map-range_with_len (kept_at_place words) 0 jobs

  pub board_at : (i : ℕ) → i < length board → slice_get board i ≡ Some (kept_at_place words i)
  board_at i within =
      slice_get-get_or board i None within
      ∙ ap Some (ap (λ (places : List (Option Outcome)). get_or places i None) (sym view)
      ∙ get_or-map-range_with_len (kept_at_place words) 0 jobs i i None (let e = length_board in omega arith) (omega arith))

  pub place_at_board : (i : ℕ) → i < length board → place_at board i ≡ kept_at_place words i
  place_at_board i within = get_or_from_slice_get board i (kept_at_place words i) None (board_at i within)

  pub within_words : (kept i : ℕ) → IsBoard words jobs kept → i < length board → i < 21 * length words
  within_words kept i good within = let e = length_board in let f = good.room in omega arith

  pub blank_at : (i : ℕ) → i < length board → bits_at words i ≡ 3 → slice_get board i ≡ Some None
  unfolding kept_at_place
  blank_at i within is = board_at i within ∙ ap Some (ap outcome_of is)

  pub outcome_at : (i : ℕ) → i < length board → (bits_at words i ≡ 3 → ⊥) → HasOutcomeAt board i
  unfolding kept_at_place
  outcome_at i within filled = by (outcome_of (bits_at words i)) refl
    where
      by : (place : Option Outcome) → outcome_of (bits_at words i) ≡ place → HasOutcomeAt board i
      by None none = absurd (filled (blank_alone (bits_at words i) (number_at-lt words i) none))
      by (Some o) some = (o, board_at i within ∙ ap Some some)

-- ---- a blank board

digits_blank : (place : ℕ) → place < 21 → digit BLANK_WORD place ≡ 3
digits_blank place within =
    let all : map (digit BLANK_WORD) (range_with_len 0 21) ≡ replicate 21 3 = refl in
    sym (get_or-map-range_with_len (digit BLANK_WORD) 0 21 place place 3 within (omega arith))
    ∙ ap (λ (digits : List ℕ). get_or digits place 3) all ∙ get_or-replicate 21 place 3 3 within

module _ (count jobs : ℕ) (room : jobs < 21 * count) where
  pub blank_board : board_from (replicate count BLANK_WORD) jobs ≡ replicate jobs None
  unfolding kept_at_place bits_at
  blank_board = sym (fill_by_all (kept_at_place (replicate count BLANK_WORD)) (replicate jobs None) jobs None (length-replicate jobs None) (λ i low.
      let word : slice_index (replicate count BLANK_WORD) (i / 21) ≡ BLANK_WORD = get_or-replicate count (i / 21) BLANK_WORD 0 (omega (arith, low, room)) in
      let blank : bits_at (replicate count BLANK_WORD) i ≡ 3 = rw word (digits_blank (i % 21) (omega arith)) in
      get_or-replicate jobs i None None low ∙ sym (ap outcome_of blank)))

  pub IsBoard-blank : jobs < 2 ^ 32 → IsBoard (replicate count BLANK_WORD) jobs 0
  IsBoard-blank few = record {
    counted = sym (ap kept_of blank_board ∙ kept_of-replicate jobs);
    room = let e = length-replicate count BLANK_WORD in omega arith;
    few = let e = length-map-range_with_len (kept_at_place (replicate count BLANK_WORD)) 0 jobs in omega arith;
  }

-- ---- a write

module _ (words : List ℕ) (jobs : ℕ) (board : List (Option Outcome)) (view : board_from words jobs ≡ board) (kept i : ℕ) (o : Outcome) (good : IsBoard words jobs kept) (blank : slice_get board i ≡ Some None) where
  pub fits : kept + 1 < 2 ^ 32
  fits = let e = kept_of-missing board i blank in let f = ap length view in let g = good.counted ∙ ap kept_of view in let h = good.few in omega arith

  module _ (within : i < length board) (after : List ℕ) (long : length after ≡ length words) (here : kept_at_place after i ≡ Some o) (others : (k : ℕ) → k ≢ i → kept_at_place after k ≡ kept_at_place words k) where
    each : (k : ℕ) → k < jobs → get_or (slice_set board i (Some o)) k None ≡ kept_at_place after k
    each k low =
        ⊎_elim (λ (same : k ≡ i). rw same (get_or-set_same board i (Some o) None within ∙ sym here))
        (λ (ne : k ≡ i → ⊥). get_or-set_other board i k (Some o) None ne ∙ place_at_board words jobs board view k (let e = length_board words jobs board view in omega arith) ∙ sym (others k ne))
        (cases_eq k i)

    pub board_from-set : board_from after jobs ≡ slice_set board i (Some o)
    board_from-set = sym (fill_by_all (kept_at_place after) (slice_set board i (Some o)) jobs None (length-set board i (Some o) ∙ length_board words jobs board view) each)

    pub IsBoard-set : IsBoard after jobs (kept + 1)
    IsBoard-set = record {
      counted = let e = ap kept_of board_from-set in let f = kept_of-set board i o blank in let g = good.counted ∙ ap kept_of view in omega arith;
      room = let f = good.room in omega arith;
      few = let e = length-map-range_with_len (kept_at_place after) 0 jobs in let f = length-map-range_with_len (kept_at_place words) 0 jobs in let g = good.few in omega arith;
    }
