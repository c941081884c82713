-- Rows that stay.
use Rattle.std.proofs.Common.{◌≡◌, inl, inr, ℕ, List, [], ◌∷◌, ◌++◌, map, Result, Ok, ◌∙◌, ap, sym, append_assoc}
use Rattle.fs_outside.specs.Past.{Past, content, IsImage, EachImage, LeavesOnly}
use Rattle.fs_outside.proofs.Moments.{started, ended, joined, weaker}
use Rattle.fs_model.specs.declared.outcomes.Row.{Row}
use Rattle.keep_format.specs.declared.fault.FormatFault.{FormatFault}
use Rattle.keep_format.specs.KeepFile.{FileRow, KeptFile, added_rows, rows_held, kept, recorded, written}
use Rattle.result_keeper.specs.Acceptance.{HasRightOldRows}
use Rattle.result_keeper.specs.Keep.{HasRow, IsBeforeOrAfter, KeepsRow, RecordsRow, RowStays}

-- ---- in what was read of a file

same_row : (row : FileRow) (old new : Result KeptFile FormatFault) → new ≡ old → HasRow row old → HasRow row new
same_row row old new same has = record { file = has.file; is = same ∙ has.is; before = has.before; after = has.after; there = has.there }

pub added_row : (row : FileRow) (old new : Result KeptFile FormatFault) (rows : List Row) → new ≡ added_rows old rows → HasRow row old → HasRow row new
added_row row old new rows more has = record {
  file = record { card = has.file.card; rows = has.file.rows ++ map written rows };
  is = more ∙ ap (λ (k : Result KeptFile FormatFault). added_rows k rows) has.is;
  before = has.before;
  after = has.after ++ map written rows;
  there = ap (λ (l : List FileRow). l ++ map written rows) has.there ∙ append_assoc has.before (row ∷ has.after) (map written rows);
}

module _ (premise : Type 0) (row : FileRow) (file image : List ℕ) (rows : List Row) where
  records_either : RecordsRow row file → IsBeforeOrAfter premise (rows_held file) rows image → RecordsRow row image
  records_either has (inl same) = same_row row (recorded file) (recorded image) same.records has
  records_either has (inr more) = added_row row (recorded file) (recorded image) rows more.records has

  keeps_either : premise → KeepsRow row file → IsBeforeOrAfter premise (rows_held file) rows image → KeepsRow row image
  keeps_either holds has (inl same) = same_row row (kept file) (kept image) same.keeps has
  keeps_either holds has (inr more) = added_row row (kept file) (kept image) rows (more.keeps holds) has

-- an empty file has none
records_some : (row : FileRow) (file : List ℕ) → RecordsRow row file → file ≡ [] → ⊥
records_some row file has empty = none (sym (ap recorded empty) ∙ has.is)
  where
    none : recorded [] ≡ Ok has.file → ⊥
    none e = cc

keeps_some : (row : FileRow) (file : List ℕ) → KeepsRow row file → file ≡ [] → ⊥
keeps_some row file has empty = none (sym (ap kept empty) ∙ has.is)
  where
    none : kept [] ≡ Ok has.file → ⊥
    none e = cc

-- ---- over a time

pub stays_at_first : (past : Past) (row : FileRow) → RowStays past past row
stays_at_first past row = record { recorded = started past (RecordsRow row); kept = λ old_rows. started past (KeepsRow row) }

later_too : (old mid new : Past) (P : List ℕ → Type 0) → (EachImage old P → LeavesOnly old mid P) → (EachImage mid P → LeavesOnly mid new P) → EachImage old P → LeavesOnly old new P
later_too old mid new P first second each = let so_far = first each in joined old mid new P so_far (second (ended old mid P so_far))

pub stays_longer : (old mid new : Past) (row : FileRow) → (EachImage old HasRightOldRows → LeavesOnly old mid HasRightOldRows) → RowStays old mid row → RowStays mid new row → RowStays old new row
stays_longer old mid new row old_rows first second = record {
  recorded = later_too old mid new (RecordsRow row) first.recorded second.recorded;
  kept = λ each. later_too old mid new (KeepsRow row) (first.kept each) (second.kept (ended old mid HasRightOldRows (old_rows each)));
}

-- where a crash leaves what it might have left before
pub stays_as_before : (old new : Past) (row : FileRow) → IsImage old (content old) → ((content old ≡ [] → ⊥) → LeavesOnly old new (IsImage old)) → RowStays old new row
stays_as_before old new row reads leaves = record {
  recorded = λ each. weaker old new (IsImage old) (RecordsRow row) each (leaves (records_some row (content old) (each (content old) reads)));
  kept = λ old_rows each. weaker old new (IsImage old) (KeepsRow row) each (leaves (keeps_some row (content old) (each (content old) reads)));
}

-- where it leaves the rows of one file, with some more or without
pub stays_either : (premise : Type 0) (old new : Past) (row : FileRow) (rows : List Row) → (EachImage old HasRightOldRows → premise) → IsImage old (content old)
    → LeavesOnly old new (IsBeforeOrAfter premise (rows_held (content old)) rows) → RowStays old new row
stays_either premise old new row rows holds reads leaves = record {
  recorded = λ each. weaker old new (IsBeforeOrAfter premise (rows_held (content old)) rows) (RecordsRow row) (λ image. records_either premise row (content old) image rows (each (content old) reads)) leaves;
  kept = λ old_rows each. weaker old new (IsBeforeOrAfter premise (rows_held (content old)) rows) (KeepsRow row) (λ image. keeps_either premise row (content old) image rows (holds old_rows) (each (content old) reads)) leaves;
}
