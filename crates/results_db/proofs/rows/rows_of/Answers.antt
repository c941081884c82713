use Rattle.std.proofs.Common.{◌≡◌, ◌<◌, ◌≤◌, ℕ, List, Option, Some, [], ◌∷◌, ◌++◌, length, take, ap, refl, sym, ◌∙◌, arith}
use Rattle.std.specs.Prelude.{slice_get}
use Rattle.std.proofs.lemmas.List.{take_all}
use Rattle.fs_model.specs.declared.outcomes.Outcome.{Outcome}
use Rattle.fs_model.specs.declared.sites.Job.{Job}
use Rattle.fs_model.specs.Job.{JobTable}
use Rattle.row_store.specs.declared.rows.ExportRow.{ExportRow}
use Rattle.kept_commands.proofs.FileEnds.{blank_ends}
use Rattle.results_db.specs.Rows.{export_row, rows_by}
use Rattle.results_db.proofs.RowLists.{no_rows, one_more, row_more, rows_each}
use Rattle.results_db.proofs.rows.rows_of.Goals as goal

pub loop-number-init : goal.loop-number-init
loop-number-init c = record {
  rows_are = c.in_ok-rows.ensures.items ∙ sym (no_rows []);
  whole = λ i lt. absurd (omega (arith, lt));
  walk = c.walk-walk.ensures;
  long = c.in_ok-rows.ensures.len;
  room = omega (arith, c.in_ok-rows.ensures.capacity, c.len-count.ensures);
}

pub returns-in_default-clause-refused : goal.returns-in_default-clause-refused
returns-in_default-clause-refused c =
    let here = c.get.ensures in
    let none = c.in_default.is in
    rw c.stopped.ensures (blank_ends c.args.board.now c.loop-number.number _ _ (cc) refl refl)

pub loop-number-preserved : goal.loop-number-preserved
loop-number-preserved c =
    let jobs = c.args.list.now.list in
    let board = c.args.board.now in
    let n = c.loop-number.number in
    let job = c.get-job.result in
    let old = c.loop-number.invariant in
    let job_is : slice_get jobs n ≡ Some job = ap (λ (t : JobTable). slice_get t.list n) (sym old.walk) ∙ c.get-job.ensures.job in
    let place_is : slice_get board n ≡ Some (Some c.in-Some.outcome) = let here = c.get.ensures in let is = c.in-Some.is in cc in
    record {
      rows_are = c.push_reserved.ensures.items ∙ ap (λ (rows : List ExportRow). rows ++ export_row job c.in-Some.outcome ∷ []) old.rows_are ∙ sym (row_more jobs board n job c.in-Some.outcome job_is place_is);
      whole = one_more board n c.in-Some.outcome old.whole place_is;
      walk = c.get-job.ensures.same ∙ old.walk;
      long = omega (arith, c.push_reserved.ensures.len, old.long);
      room = let same = c.push_reserved.ensures.capacity in omega (arith, same, old.room);
    }

pub returns : goal.returns
returns c =
    let jobs = c.args.list.now.list in
    let board = c.args.board.now in
    let n = c.loop-number.number in
    let old = c.loop-number.invariant in
    let all : length jobs ≤ n = omega (arith, c.loop-number-test.false, c.len-count.ensures) in
    let on_board : length board ≤ n = let long = c.requires in omega (arith, all, long) in
    let rows_are = old.rows_are ∙ ap (λ (l : List Job). rows_by l (take n board)) (take_all n jobs all) ∙ ap (λ (b : List (Option Outcome)). rows_by jobs b) (take_all n board on_board) in
    let whole = λ (i : ℕ) (lt : i < length board). old.whole i (omega (arith, lt, on_board)) in
    record {
      rows = rows_are;
      each = ap (λ (r : List ExportRow). length r) rows_are ∙ rows_each jobs board c.requires whole;
      whole = whole;
      refused = tt;
    }
