-- How runs are walked, each beside all before it.
use Rattle.std.proofs.Common.{◌≡◌, ℕ, zero, suc, ◌+◌, ◌<◌, Bool, true, false, if◌then◌else◌, List, [], ◌∷◌, ◌++◌, length, drop, Option, Some, None, refl, sym, ◌∙◌, ap, arith, append_assoc}
use Rattle.std.proofs.lemmas.List.{append-nil, drop_more, drop-set-lt}
use Rattle.std.proofs.lemmas.List.Elements.{All-push}
use Rattle.std.specs.Iterator.{YieldsFirst}
use Rattle.std.specs.Prelude.{All, slice_index_or, slice_set}
use Rattle.keep_format.specs.declared.rows.KeptRow.{KeptRow}
use Rattle.keep_format.specs.declared.order.Name.{Name}
use Rattle.keep_format.specs.declared.fault.FormatFault.TheVariants.{Conflict}
use Rattle.keep_format.specs.KeepFile.{apart, disagree, conflict_behind, conflict_in}
use Rattle.keep_format.specs.Order.{is_before, is_behind}
use Rattle.keep_format.specs.Runs.{name_in, run_of, run_rest, front_of, Ascends, joined, with_first, behind_runs}
use Rattle.keep_format.proofs.Lists.{or_else, passes, fails}
use Rattle.keep_format.proofs.Ascending.{behind_all, push_other}

-- ---- rows of several runs

else_case : (t : Bool) (one : ℕ) (first other : Option ℕ) → (if t then Some one else or_else first other) ≡ or_else (if t then Some one else first) other
else_case true one first other = refl
else_case false one first other = refl

pub apart-append : (a b : List KeptRow) (row : KeptRow) → apart (a ++ b) row ≡ or_else (apart a row) (apart b row)
apart-append [] b row = refl
apart-append (r ∷ a) b row =
    ap (λ (o : Option ℕ). if disagree r row then Some r.at else o) (apart-append a b row)
    ∙ else_case (disagree r row) r.at (apart a row) (apart b row)

pub joined-append : (runs : List (List KeptRow)) (run : List KeptRow) → joined (runs ++ run ∷ []) ≡ joined runs ++ run
joined-append [] run = append-nil run
joined-append (first ∷ runs) run = ap (λ (l : List KeptRow). first ++ l) (joined-append runs run) ∙ sym (append_assoc first (joined runs) run)

module _ (runs : List (List KeptRow)) (k : ℕ) (d : List KeptRow) (within : k < length runs) (row : KeptRow) where
  run_more : apart (joined (drop k runs)) row ≡ or_else (apart (slice_index_or runs k d) row) (apart (joined (drop (k + 1) runs)) row)
  run_more =
      ap (λ (l : List (List KeptRow)). apart (joined l) row) (drop_more runs k d within)
      ∙ apart-append (slice_index_or runs k d) (joined (drop (k + 1) runs)) row

  -- a run that has such a row
  pub found_in : (first : ℕ) → apart (slice_index_or runs k d) row ≡ Some first → apart (joined (drop k runs)) row ≡ Some first
  found_in first is = run_more ∙ ap (λ (o : Option ℕ). or_else o (apart (joined (drop (k + 1) runs)) row)) is

  -- a run that has none, whatever is left of it
  pub none_in : (left : List KeptRow) → apart (slice_index_or runs k d) row ≡ None → apart (joined (drop (k + 1) (slice_set runs k left))) row ≡ apart (joined (drop k runs)) row
  none_in left is =
      ap (λ (l : List (List KeptRow)). apart (joined l) row) (drop-set-lt (k + 1) runs k left (omega arith))
      ∙ sym (run_more ∙ ap (λ (o : Option ℕ). or_else o (apart (joined (drop (k + 1) runs)) row)) is)

-- what is left of a run, where that says the same
pub joined-set : (runs : List (List KeptRow)) (k : ℕ) (d left : List KeptRow) (row : KeptRow) → apart left row ≡ apart (slice_index_or runs k d) row
    → apart (joined (slice_set runs k left)) row ≡ apart (joined runs) row
joined-set [] k d left row same = refl
joined-set (run ∷ runs) zero d left row same =
    apart-append left (joined runs) row
    ∙ ap (λ (o : Option ℕ). or_else o (apart (joined runs) row)) same
    ∙ sym (apart-append run (joined runs) row)
joined-set (run ∷ runs) (suc k) d left row same =
    apart-append run (joined (slice_set runs k left)) row
    ∙ ap (or_else (apart run row)) (joined-set runs k d left row same)
    ∙ sym (apart-append run (joined runs) row)

-- ---- the walk of a run

-- what was read of a run that begins these rows, behind others, as long as the names ascend
pub record Walked (before whole left : List KeptRow) (last : Option Name) (fronts : List (List KeptRow)) : Type 0 where
  pub read : List KeptRow
  pub so_far : conflict_behind (before ++ read) left ≡ conflict_behind before whole
  pub run : read ++ run_of last left ≡ run_of None whole
  pub behind : run_rest last left ≡ run_rest None whole
  pub met : (row : KeptRow) → is_behind last (name_in row) ≡ true → apart (before ++ read) row ≡ apart (joined fronts) row

pub begun : (whole : List KeptRow) (fronts : List (List KeptRow)) → Walked (joined fronts) whole whole None fronts
begun whole fronts = record {
  read = [];
  so_far = ap (λ (l : List KeptRow). conflict_behind l whole) (append-nil (joined fronts));
  run = refl;
  behind = refl;
  met = λ row is. ap (λ (l : List KeptRow). apart l row) (append-nil (joined fronts));
}

module _ (before whole rest : List KeptRow) (last : Option Name) (fronts : List (List KeptRow)) (row : KeptRow) (walked : Walked before whole (row ∷ rest) last fronts) where
  run_at : (t : Bool) → is_behind last (name_in row) ≡ t → run_of last (row ∷ rest) ≡ (if t then row ∷ run_of (Some (name_in row)) rest else [])
  run_at t behind = ap (λ (b : Bool). if b then row ∷ run_of (Some (name_in row)) rest else []) behind

  rest_at : (t : Bool) → is_behind last (name_in row) ≡ t → run_rest last (row ∷ rest) ≡ (if t then run_rest (Some (name_in row)) rest else row ∷ rest)
  rest_at t behind = ap (λ (b : Bool). if b then run_rest (Some (name_in row)) rest else row ∷ rest) behind

  -- a row of the run that agrees with all before
  pub walks : (fronts' : List (List KeptRow)) → is_behind last (name_in row) ≡ true → apart (joined fronts) row ≡ None
      → ((later : KeptRow) → is_before (name_in row) (name_in later) ≡ true → apart (joined fronts') later ≡ apart (joined fronts) later)
      → Walked before whole rest (Some (name_in row)) fronts'
  walks fronts' behind agrees same = record {
    read = walked.read ++ row ∷ [];
    so_far = ap (λ (l : List KeptRow). conflict_behind l rest) (sym (append_assoc before walked.read (row ∷ [])))
        ∙ passes (before ++ walked.read) rest (row ∷ rest) row (conflict_behind before whole) refl (walked.met row behind ∙ agrees) walked.so_far;
    run = append_assoc walked.read (row ∷ []) (run_of (Some (name_in row)) rest)
        ∙ ap (λ (l : List KeptRow). walked.read ++ l) (sym (run_at true behind)) ∙ walked.run;
    behind = sym (rest_at true behind) ∙ walked.behind;
    met = λ later is.
        ap (λ (l : List KeptRow). apart l later) (sym (append_assoc before walked.read (row ∷ [])))
        ∙ push_other (before ++ walked.read) row later is
        ∙ walked.met later (behind_all last (name_in row) (name_in later) behind is)
        ∙ sym (same later is);
  }

  -- a row of the run that does not
  pub disagrees : (first : ℕ) → is_behind last (name_in row) ≡ true → apart (joined fronts) row ≡ Some first → conflict_behind before whole ≡ Some (Conflict first row.at)
  disagrees first behind is = sym (fails (before ++ walked.read) rest (row ∷ rest) row first (conflict_behind before whole) refl (walked.met row behind ∙ is) walked.so_far)

  -- a row behind the run
  pub ends_before : is_behind last (name_in row) ≡ false → conflict_behind (before ++ run_of None whole) (row ∷ rest) ≡ conflict_behind before whole
  ends_before behind =
      let all : walked.read ≡ run_of None whole = sym (append-nil walked.read) ∙ ap (λ (l : List KeptRow). walked.read ++ l) (sym (run_at false behind)) ∙ walked.run in
      ap (λ (l : List KeptRow). conflict_behind (before ++ l) (row ∷ rest)) (sym all) ∙ walked.so_far

  pub behind_it : is_behind last (name_in row) ≡ false → run_rest None whole ≡ row ∷ rest
  behind_it behind = sym walked.behind ∙ rest_at false behind

-- what an iterator gives next, and what is left behind it
pub next_of : (next : Option KeptRow) (old new : List KeptRow) → YieldsFirst (λ (rows : List KeptRow). rows) old next new → with_first next new ≡ old
next_of None old new steps = sym steps.0
next_of (Some row) old new steps = sym steps

-- ---- run behind run

-- the runs that were walked, and the rows that come behind them
pub record Searched (all : List KeptRow) (runs : List (List KeptRow)) (left : List KeptRow) : Type 0 where
  pub so_far : conflict_behind (joined runs) left ≡ conflict_in all
  pub ascend : All Ascends runs
  pub behind : behind_runs (length runs) all ≡ left

length-push : (runs : List (List KeptRow)) (run : List KeptRow) → length (runs ++ run ∷ []) ≡ suc (length runs)
length-push [] run = refl
length-push (first ∷ runs) run = ap suc (length-push runs run)

pub one_more : (all : List KeptRow) (runs : List (List KeptRow)) (row : KeptRow) (rest left run : List KeptRow) → Searched all runs (row ∷ rest) → run ≡ front_of (Some row) rest → Ascends run
    → conflict_behind (joined runs ++ front_of (Some row) rest) left ≡ conflict_behind (joined runs) (row ∷ rest) → run_rest None (row ∷ rest) ≡ left
    → Searched all (runs ++ run ∷ []) left
one_more all runs row rest left run searched is ascends found behind = record {
  so_far = ap (λ (l : List KeptRow). conflict_behind l left) (joined-append runs run ∙ ap (λ (l : List KeptRow). joined runs ++ l) is) ∙ found ∙ searched.so_far;
  ascend = All-push Ascends runs run searched.ascend ascends;
  behind = ap (λ (n : ℕ). behind_runs n all) (length-push runs run) ∙ ap (λ (l : List KeptRow). run_rest None l) searched.behind ∙ behind;
}
