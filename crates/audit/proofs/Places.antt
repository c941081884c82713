-- The places of a board, one after the other.
use Rattle.std.proofs.Common.{◌≡◌, ℕ, ◌+◌, ◌≤◌, Bool, true, false, List, ◌++◌, length, Option, Some, sym, ap, subst, ◌∙◌, take, arith}
use mir.Val.{bool_byte}
use Rattle.std.specs.Prelude.{count_by, slice_get, zip}
use Rattle.std.specs.List.{flat_map}
use Rattle.std.proofs.lemmas.List.Sums.{count_by_more_no, count_by_more_yes}
use Rattle.std.proofs.lemmas.Option.{get_or_from_slice_get, slice_get_within}
use Rattle.fs_model.specs.declared.outcomes.Outcome.{Outcome}
use Rattle.fs_model.specs.declared.sites.Job.{Job}
use Rattle.fs_model.specs.Case.{CaseData}
use Rattle.fs_model.specs.Job.{jobs_in}
use Rattle.fs_outside.specs.Writing.{TookPart}
use Rattle.fs_outside.proofs.Writes.{each_part}
use Rattle.report.proofs.CsvLemmas.{row_next, zip_at, zip_whole}
use Rattle.audit.specs.Text.{is_wrong, audit_lines, place_text, wrong_of}

-- how many elements pass a test, with one element more
counted_by : {X : Type 0} (p : X → Bool) (xs : List X) (i : ℕ) (x : X) (b : Bool) → slice_get xs i ≡ Some x → p x ≡ b
    → count_by p (take (i + 1) xs) ≡ count_by p (take i xs) + bool_byte b
counted_by p xs i x true at is = count_by_more_yes p xs i x (slice_get_within xs i x at) (ap p (get_or_from_slice_get xs i x x at) ∙ is)
counted_by p xs i x false at is =
    let same = count_by_more_no p xs i x (slice_get_within xs i x at) (ap p (get_or_from_slice_get xs i x x at) ∙ is) in
    omega (arith, same)

-- each job with its place on a board
abbrev pub rows : CaseData → List (Option Outcome) → List (Job × Option Outcome)
rows c board = zip (jobs_in c) board

abbrev pub row_text : CaseData → Job × Option Outcome → List ℕ
row_text c row = place_text c row.0 row.1

abbrev pub row_wrong : CaseData → Job × Option Outcome → Bool
row_wrong c row = is_wrong c row.0 row.1

module _ (c : CaseData) (board : List (Option Outcome)) where
  module _ (i : ℕ) (job : Job) (place : Option Outcome) (at : slice_get (jobs_in c) i ≡ Some job) (on : slice_get board i ≡ Some place) where
    here : slice_get (rows c board) i ≡ Some (job, place)
    here = zip_at (jobs_in c) board i job place at on

    -- the text of the next place was written
    pub text_on : (old mid new : List ℕ) → mid ≡ old ++ flat_map (row_text c) (take i (rows c board)) → new ≡ mid ++ place_text c job place → new ≡ old ++ flat_map (row_text c) (take (i + 1) (rows c board))
    text_on old mid new before wrote = row_next (row_text c) (rows c board) i (job, place) old mid new here before wrote

    -- or a part of it
    pub text_part : (old mid new : List ℕ) → mid ≡ old ++ flat_map (row_text c) (take i (rows c board)) → TookPart mid new (place_text c job place) → TookPart old new (audit_lines c board)
    text_part old mid new before part =
        each_part (row_text c) old mid new (rows c board) i (job, place) (slice_get_within (rows c board) i (job, place) here) before
        (subst (λ (row : Job × Option Outcome). TookPart mid new (row_text c row)) (sym (get_or_from_slice_get (rows c board) i (job, place) (job, place) here)) part)

    -- and it is counted
    pub count_on : (wrong : Bool) → wrong ≡ is_wrong c job place → count_by (row_wrong c) (take (i + 1) (rows c board)) ≡ count_by (row_wrong c) (take i (rows c board)) + bool_byte wrong
    count_on wrong is = counted_by (row_wrong c) (rows c board) i (job, place) wrong here (sym is)

  -- all places
  pub text_all : (n : ℕ) → length (jobs_in c) ≤ n → flat_map (row_text c) (take n (rows c board)) ≡ audit_lines c board
  text_all n all = ap (flat_map (row_text c)) (zip_whole (jobs_in c) board n all)

  pub count_all : (n : ℕ) → length (jobs_in c) ≤ n → count_by (row_wrong c) (take n (rows c board)) ≡ wrong_of c board
  count_all n all = ap (count_by (row_wrong c)) (zip_whole (jobs_in c) board n all)

-- at most one more
pub few_on : (b : Bool) (n i : ℕ) → n ≤ i → n + bool_byte b ≤ i + 1
few_on true n i few = omega (arith, few)
few_on false n i few = omega (arith, few)
