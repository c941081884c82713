-- The board that an image records, which holds what a file holds, and the rows of some jobs beside.
use Rattle.std.proofs.Common.{◌≡◌, ℕ, ◌&&◌, Bool, true, List, [], ◌∷◌, ◌++◌, map, Option, Some, None, Result, Ok, Err, refl, sym, ap, ◌∙◌}
use Rattle.std.specs.Prelude.{slice_get}
use Rattle.std.specs.List.{list_all}
use Rattle.std.proofs.lemmas.List.Folds.{list_all-append}
use Rattle.fs_model.specs.declared.sites.Site.{Site}
use Rattle.fs_model.specs.declared.sites.Job.{Job}
use Rattle.fs_model.specs.declared.outcomes.Outcome.{Outcome}
use Rattle.fs_model.specs.declared.outcomes.Row.{Row}
use Rattle.fs_model.specs.Case.{CaseData}
use Rattle.fs_model.specs.Card.{card}
use Rattle.fs_model.specs.Job.{jobs_in}
use Rattle.fs_model.specs.Steps.{◌>>=◌}
use Rattle.fs_model.specs.Verdict.{site_of_row}
use Rattle.keep_format.specs.declared.fault.FormatFault.{FormatFault}
use Rattle.keep_format.specs.declared.rows.KeptRow.{KeptRow}
use Rattle.keep_format.specs.KeepFile.{FileData, FileRow, KeptFile, added_rows, recorded, file_row_of, rows_read, without_places, written}
use Rattle.def_use.specs.Rows.{row_of_job, with_row, rows_of}
use Rattle.def_use.proofs.RowLists.{row_site}
use Rattle.result_keeper.specs.Acceptance.{board_of, outcome_rows}
use Rattle.result_keeper.specs.Boards.{filed}
use Rattle.result_keeper.specs.Keep.{RecordsBoard}
use Rattle.result_keeper.proofs.Filing.{one_named}
use Rattle.result_keeper.proofs.Files.{file_recorded}
use Rattle.result_keeper.proofs.KeptRows.{board_and_written}
use Rattle.result_keeper.proofs.Sound.{names, named_if, if_named}

-- rows of jobs name jobs
pub rows_name : (outcomes : Site → Outcome) (list : List Job) (numbers : List ℕ) → list_all (names list) (map written (rows_of outcomes list numbers)) ≡ true
unfolding rows_of
rows_name outcomes list [] = refl
rows_name outcomes list (n ∷ numbers) = by (slice_get list n) refl (rows_name outcomes list numbers)
  where
    by : (place : Option Job) → slice_get list n ≡ place → list_all (names list) (map written (rows_of outcomes list numbers)) ≡ true
        → list_all (names list) (map written (with_row outcomes place (rows_of outcomes list numbers))) ≡ true
    by None none rest = rest
    by (Some job) there rest =
        let row = row_of_job outcomes job in
        ap (λ (b : Bool). b && list_all (names list) (map written (rows_of outcomes list numbers))) (one_named list (site_of_row row) n (job, there, sym (row_site outcomes job))) ∙ rest

-- ---- what is recorded

record RecordOf (file bytes : List ℕ) (rows : List FileRow) : Type 0 where
  places : List KeptRow
  gate : ℕ
  read : rows_read file ≡ Ok (record { card = bytes; rows = places; gate = gate })
  same : map file_row_of places ≡ rows

part : {A : Type 0} (f : KeptFile → A) {x y : KeptFile} → (let r : Result KeptFile FormatFault = Ok x in r) ≡ Ok y → f x ≡ f y
part f {x} {y} e = ap f (let s : x ≡ y = cc in s)

record_case : (file bytes : List ℕ) (rows : List FileRow) (found : Result FileData FormatFault) → rows_read file ≡ found → (found >>= λ data'. Ok (without_places data')) ≡ Ok (record { card = bytes; rows = rows }) → RecordOf file bytes rows
record_case file bytes rows (Err fault) read is = absurd (cc)
record_case file bytes rows (Ok found) read is = record {
  places = found.rows;
  gate = found.gate;
  read = read ∙ ap (λ (b : List ℕ). let d : FileData = record { card = b; rows = found.rows; gate = found.gate } in Ok d) (part (λ (k : KeptFile). k.card) is);
  same = part (λ (k : KeptFile). k.rows) is;
}

-- an image that records what a file records, and rows of jobs beside, records the board with them
pub image_records : (c : CaseData) (board : List (Option Outcome)) (gate : ℕ) (file : List ℕ) (new : List Row) (image : List ℕ) → RecordsBoard c board gate file → list_all (names (jobs_in c)) (map written new) ≡ true
    → recorded image ≡ added_rows (recorded file) new → (place : ℕ) × RecordsBoard c (filed (jobs_in c) board new) place image
image_records c board gate file new image is all more =
    let known = record_case image (card c) (map file_row_of is.rows ++ map written new) (rows_read image) refl (more ∙ ap (λ (k : Result KeptFile FormatFault). added_rows k new) (file_recorded file (card c) is.rows gate is.read)) in
    let both : list_all (names (jobs_in c)) (map file_row_of is.rows ++ map written new) ≡ true =
    list_all-append (names (jobs_in c)) (map file_row_of is.rows) (map written new)
    ∙ ap (λ (b : Bool). b && list_all (names (jobs_in c)) (map written new)) (named_if (jobs_in c) is.rows is.named)
    ∙ all in (
      known.gate,
      record {
        rows = known.places;
        read = known.read;
        named = if_named (jobs_in c) known.places (ap (list_all (names (jobs_in c))) known.same ∙ both);
        board_is =
            ap (λ (b : List (Option Outcome)). filed (jobs_in c) b new) is.board_is
            ∙ sym (board_and_written (jobs_in c) (map file_row_of is.rows) new)
            ∙ ap (λ (l : List FileRow). board_of (jobs_in c) (outcome_rows l)) (sym known.same);
      },
    )
