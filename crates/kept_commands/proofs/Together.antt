-- Two boards of a case put together: the first job that has two outcomes, and the answer by the board.
use Rattle.std.proofs.Common.{◌≡◌, ℕ, zero, suc, ◌<◌, cond, Bool, true, false, List, [], ◌∷◌, length, Option, Some, None, Result, Ok, Err, refl, ap, ◌∙◌, arith}
use Rattle.std.specs.Prelude.{◌==◌, slice_get}
use Rattle.std.proofs.lemmas.Bool.{eq-eqb, eqb-true, ne_eqb}
use Rattle.fs_model.specs.declared.outcomes.Outcome.{Outcome}
use Rattle.fs_model.specs.declared.sites.Job.{Job}
use Rattle.fs_model.specs.Case.{CaseData}
use Rattle.fs_model.specs.Job.{jobs_in}
use Rattle.fs_model.specs.Outcome.{same_outcome}
use Rattle.fs_model.specs.Pages.{missing}
use Rattle.fs_model.specs.Steps.{◌>>=◌, ◌>>◌}
use Rattle.fs_model.proofs.EachOutcome.{same_as_itself, same_then}
use Rattle.def_use.specs.Board.{kept_of}
use Rattle.campaign.proofs.Missing.{kept_missing, none_missing}
use Rattle.result_keeper.specs.declared.refusals.KeepRefusal.{KeepRefusal}
use Rattle.result_keeper.specs.Acceptance.{accept, board_of}
use Rattle.shard_merge.specs.Union.{Agree, BoardData, IsFirstApart, union}
use Rattle.phases.specs.declared.status.OtherReason.TheVariants.{Refused, Disagree}
use Rattle.phases.specs.declared.status.Status.{Status}
use Rattle.phases.specs.declared.status.Status.TheVariants as status
use Rattle.kept_commands.specs.Merge.{answer_for, both_boards, first_apart, other_board, refused_as, too_long}
use Rattle.kept_commands.specs.Merging.{together}

-- ---- two outcomes

same_is : (a b : Outcome) → a ≡ b → same_outcome a b ≡ true
same_is a b is = rw is (same_as_itself b)

differs : (a b : Outcome) → (a ≡ b → ⊥) → same_outcome a b ≡ false
differs a b other = by (same_outcome a b) refl
  where
    by : (same : Bool) → same_outcome a b ≡ same → same ≡ false
    by true is = absurd (other (same_then a b is))
    by false is = refl

-- ---- the first job that has two

-- on boards that agree none has
agree_none : (list : List Job) (kept others : BoardData) → Agree kept others → first_apart list kept others ≡ None
agree_none [] kept others agree = refl
agree_none (job ∷ list) [] others agree = refl
agree_none (job ∷ list) (None ∷ kept) [] agree = refl
agree_none (job ∷ list) (Some x ∷ kept) [] agree = refl
agree_none (job ∷ list) (None ∷ kept) (None ∷ others) agree = agree_none list kept others (λ i a b here there. agree (suc i) a b here there)
agree_none (job ∷ list) (None ∷ kept) (Some y ∷ others) agree = agree_none list kept others (λ i a b here there. agree (suc i) a b here there)
agree_none (job ∷ list) (Some x ∷ kept) (None ∷ others) agree = agree_none list kept others (λ i a b here there. agree (suc i) a b here there)
agree_none (job ∷ list) (Some x ∷ kept) (Some y ∷ others) agree =
    rw (same_is x y (agree zero x y refl refl)) (agree_none list kept others (λ i a b here there. agree (suc i) a b here there))

-- of the boards without their first places it is one less
one_less : (p q : Option Outcome) (kept others : BoardData) (n : ℕ) (here there : Outcome) → IsFirstApart (p ∷ kept) (q ∷ others) (suc n) here there → IsFirstApart kept others n here there
one_less p q kept others n here there first = record {
  is = record { here = first.is.here; there = first.is.there; apart = first.is.apart };
  least = λ i below a b h t. first.least (suc i) (omega (arith, below)) a b h t;
}

-- it is the least one
apart_first : (list : List Job) (kept others : BoardData) (number : ℕ) (job : Job) (here there : Outcome) → slice_get list number ≡ Some job → IsFirstApart kept others number here there
    → first_apart list kept others ≡ Some (status.BadOther (Disagree job.cycle job.cell job.bit))
apart_first [] kept others number job here there at first = absurd (cc)
apart_first (j ∷ list) [] others number job here there at first = let h = first.is.here in absurd (cc)
apart_first (j ∷ list) (p ∷ kept) [] number job here there at first = let h = first.is.there in absurd (cc)
apart_first (j ∷ list) (None ∷ kept) (q ∷ others) zero job here there at first = let h = first.is.here in absurd (cc)
apart_first (j ∷ list) (Some x ∷ kept) (None ∷ others) zero job here there at first = let h = first.is.there in absurd (cc)
apart_first (j ∷ list) (Some x ∷ kept) (Some y ∷ others) zero job here there at first =
    let h = first.is.here in
    let t = first.is.there in
    let x_is : here ≡ x = cc in
    let y_is : y ≡ there = cc in
    let is : j ≡ job = cc in
    rw (differs x y (λ same. first.is.apart (x_is ∙ same ∙ y_is))) (ap (λ (k : Job). Some (status.BadOther (Disagree k.cycle k.cell k.bit))) is)
apart_first (j ∷ list) (None ∷ kept) (None ∷ others) (suc n) job here there at first = apart_first list kept others n job here there at (one_less None None kept others n here there first)
apart_first (j ∷ list) (None ∷ kept) (Some y ∷ others) (suc n) job here there at first = apart_first list kept others n job here there at (one_less None (Some y) kept others n here there first)
apart_first (j ∷ list) (Some x ∷ kept) (None ∷ others) (suc n) job here there at first = apart_first list kept others n job here there at (one_less (Some x) None kept others n here there first)
apart_first (j ∷ list) (Some x ∷ kept) (Some y ∷ others) (suc n) job here there at first =
    rw (same_is x y (first.least zero (omega arith) x y refl refl)) (apart_first list kept others n job here there at (one_less (Some x) (Some y) kept others n here there first))

-- a blank board has no outcome
blank_none : (list jobs : List Job) (others : BoardData) → first_apart list (board_of jobs []) others ≡ None
blank_none [] jobs others = refl
blank_none (j ∷ list) [] others = refl
blank_none (j ∷ list) (k ∷ jobs) [] = refl
blank_none (j ∷ list) (k ∷ jobs) (None ∷ others) = blank_none list jobs others
blank_none (j ∷ list) (k ∷ jobs) (Some y ∷ others) = blank_none list jobs others

-- ---- both boards together

pub agreed_boards : (c : CaseData) (kept others : BoardData) → Agree kept others → together c kept others ≡ Ok (union kept others)
agreed_boards c kept others agree = ap (λ (first : Option Status). first >> Ok (union kept others)) (agree_none (jobs_in c) kept others agree)

pub apart_boards : (c : CaseData) (kept others : BoardData) (number : ℕ) (job : Job) (here there : Outcome) → slice_get (jobs_in c) number ≡ Some job → IsFirstApart kept others number here there
    → together c kept others ≡ Err (status.BadOther (Disagree job.cycle job.cell job.bit))
apart_boards c kept others number job here there at first =
    ap (λ (found : Option Status). found >> Ok (union kept others)) (apart_first (jobs_in c) kept others number job here there at first)

pub blank_boards : (c : CaseData) (kept others : BoardData) → kept ≡ board_of (jobs_in c) [] → together c kept others ≡ Ok (union kept others)
blank_boards c kept others blank =
    ap (λ (first : Option Status). first >> Ok (union kept others))
    (ap (λ (b : BoardData). first_apart (jobs_in c) b others) blank ∙ blank_none (jobs_in c) (jobs_in c) others)

-- ---- the answer by a board

pub whole_answer : (board : BoardData) → missing board ≡ [] → answer_for (Ok board) ≡ status.Done
whole_answer board none =
    let counted = kept_missing board in
    let left = ap length none in
    rw (eq-eqb (kept_of board) (length board) (omega (arith, counted, left))) refl

pub part_answer : (board : BoardData) → 0 < length (missing board) → answer_for (Ok board) ≡ status.Stopped (kept_of board) (length board)
part_answer board some =
    let counted = kept_missing board in
    rw (ne_eqb (kept_of board) (length board) (λ same. omega (arith, counted, some, same))) refl

pub done_whole : (board : BoardData) → answer_for (Ok board) ≡ status.Done → missing board ≡ []
done_whole board done = by (kept_of board == length board) refl done
  where
    by : (all : Bool) → (kept_of board == length board) ≡ all → cond all status.Done (status.Stopped (kept_of board) (length board)) ≡ status.Done → missing board ≡ []
    by true is end = none_missing board (eqb-true (kept_of board) (length board) is)
    by false is end = absurd (cc)

-- ---- OTHER

pub other_given : (other : List ℕ) (c : CaseData) (board : BoardData) → other_board other c ≡ Ok board → accept other c ≡ Ok board
other_given other c board is = by (too_long other) (accept other c) is
  where
    by : (long : Option Status) (r : Result BoardData KeepRefusal) → (long >> refused_as (λ refusal. status.BadOther (Refused refusal)) r) ≡ Ok board → r ≡ Ok board
    by (Some refusal) r e = absurd (cc)
    by None (Ok b) e = cc
    by None (Err refusal) e = absurd (cc)

-- ---- both files

-- where a file gives a board, that and OTHER's are put together
abbrev pub from_file : CaseData → BoardData → Result BoardData KeepRefusal → Result BoardData Status
from_file c others r = refused_as status.BadKeep r >>= (λ (kept : BoardData). together c kept others)

-- and this where OTHER gives one
abbrev pub from_other : List ℕ → CaseData → Result BoardData Status → Result BoardData Status
from_other file c r = r >>= (λ (others : BoardData). from_file c others (accept file c))

pub both_are : (file other : List ℕ) (c : CaseData) (kept others : BoardData) → other_board other c ≡ Ok others → accept file c ≡ Ok kept → both_boards file other c ≡ together c kept others
both_are file other c kept others gives opened = ap (from_other file c) gives ∙ ap (from_file c others) opened

pub no_file : (file other : List ℕ) (c : CaseData) (others : BoardData) (refusal : KeepRefusal) → other_board other c ≡ Ok others → accept file c ≡ Err refusal
    → both_boards file other c ≡ Err (status.BadKeep refusal)
no_file file other c others refusal gives refused = ap (from_other file c) gives ∙ ap (from_file c others) refused

pub no_other : (file other : List ℕ) (c : CaseData) (answer : Status) → other_board other c ≡ Err answer → both_boards file other c ≡ Err answer
no_other file other c answer refused = ap (from_other file c) refused

-- the boards that they give
pub record Given (file other : List ℕ) (c : CaseData) (board : BoardData) : Type 0 where
  pub others : BoardData
  pub others_are : accept other c ≡ Ok others
  pub kept : BoardData
  pub kept_is : accept file c ≡ Ok kept
  pub board_is : board ≡ union kept others

pub both_given : (file other : List ℕ) (c : CaseData) (board : BoardData) → both_boards file other c ≡ Ok board → Given file other c board
both_given file other c board is = of_other (other_board other c) refl is
  where
    of_both : (others kept : BoardData) (first : Option Status) → accept other c ≡ Ok others → accept file c ≡ Ok kept → (first >> Ok (union kept others)) ≡ Ok board → Given file other c board
    of_both others kept (Some refusal) h k e = absurd (cc)
    of_both others kept None h k e = record { others = others; others_are = h; kept = kept; kept_is = k; board_is = cc }

    of_file : (others : BoardData) (r : Result BoardData KeepRefusal) → accept other c ≡ Ok others → accept file c ≡ r → from_file c others r ≡ Ok board → Given file other c board
    of_file others (Ok kept) h k e = of_both others kept (first_apart (jobs_in c) kept others) h k e
    of_file others (Err refusal) h k e = absurd (cc)

    of_other : (r : Result BoardData Status) → other_board other c ≡ r → from_other file c r ≡ Ok board → Given file other c board
    of_other (Ok others) h e = of_file others (accept file c) (other_given other c others h) refl e
    of_other (Err refusal) h e = absurd (cc)
