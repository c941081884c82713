-- What a file keeps is what it records, where its rows agree.
use Rattle.std.proofs.Common.{◌≡◌, ℕ, List, Option, Some, None, Result, Ok, Err, refl, sym, ◌∙◌, ap}
use Rattle.keep_format.specs.declared.fault.FormatFault.{FormatFault}
use Rattle.keep_format.specs.declared.header.Header.{Header}
use Rattle.keep_format.specs.KeepFile.{FileData, KeptFile, KeptRows, batches_of, card_of, conflict_in, file_data, header_of, kept, kept_from, recorded, rows_in, rows_read, without_places}
use Rattle.fs_model.specs.Steps.{◌>>=◌, ◌>>◌}

agreeing : Result FileData FormatFault → Result FileData FormatFault
agreeing read = read >>= λ found. conflict_in found.rows >> Ok found

kept_file : Result FileData FormatFault → Result KeptFile FormatFault
kept_file read = read >>= λ found. Ok (without_places found)

pub data_if_agreeing : (file : List ℕ) (found : FileData) → rows_read file ≡ Ok found → conflict_in found.rows ≡ None → file_data file ≡ Ok found
unfolding agreeing
data_if_agreeing file found read agree = ap agreeing read ∙ ap (λ (conflict : Option FormatFault). conflict >> Ok found) agree

pub kept_if_agreeing : (file : List ℕ) (found : FileData) → rows_read file ≡ Ok found → conflict_in found.rows ≡ None → kept file ≡ recorded file
unfolding kept_file
kept_if_agreeing file found read agree = ap kept_file (data_if_agreeing file found read agree ∙ sym read)

-- what is kept depends on what is read alone
pub kept_by_read : (a b : List ℕ) → rows_read a ≡ rows_read b → kept a ≡ kept b
unfolding agreeing kept_file
kept_by_read a b same = ap (λ (r : Result FileData FormatFault). kept_file (agreeing r)) same

-- ---- where they do not

pub data_if_apart : (file : List ℕ) (found : FileData) (fault : FormatFault) → rows_read file ≡ Ok found → conflict_in found.rows ≡ Some fault → file_data file ≡ Err fault
unfolding agreeing
data_if_apart file found fault read apart = ap agreeing read ∙ ap (λ (conflict : Option FormatFault). conflict >> Ok found) apart

pub kept_if_apart : (file : List ℕ) (found : FileData) (fault : FormatFault) → rows_read file ≡ Ok found → conflict_in found.rows ≡ Some fault → kept file ≡ Err fault
unfolding kept_file
kept_if_apart file found fault read apart = ap kept_file (data_if_apart file found fault read apart)

-- ---- back

no_fault : (conflict : Option FormatFault) (one other : FileData) → (conflict >> Ok one) ≡ Ok other → (conflict ≡ None) × (one ≡ other)
no_fault (Some fault) one other is = absurd (cc)
no_fault None one other is = (refl, cc)

read_case : (read : Result FileData FormatFault) (found : FileData) → agreeing read ≡ Ok found → (read ≡ Ok found) × (conflict_in found.rows ≡ None)
unfolding agreeing
read_case (Err fault) found is = absurd (cc)
read_case (Ok one) found is =
    let parts = no_fault (conflict_in one.rows) one found is in
    (ap (λ (d : FileData). Ok d) parts.1, ap (λ (d : FileData). conflict_in d.rows) (sym parts.1) ∙ parts.0)

-- a file with no fault was read, and its rows agree
pub agreeing_data : (file : List ℕ) (found : FileData) → file_data file ≡ Ok found → (rows_read file ≡ Ok found) × (conflict_in found.rows ≡ None)
unfolding agreeing
agreeing_data file found is = read_case (rows_read file) found is

data_case : (file : List ℕ) (read : Result FileData FormatFault) (found : KeptFile) → file_data file ≡ read → kept_file read ≡ Ok found → recorded file ≡ Ok found
unfolding kept_file
data_case file (Err fault) found whole is = absurd (cc)
data_case file (Ok data') found whole is = ap kept_file (agreeing_data file data' whole).0 ∙ is

-- what a file keeps, it records
pub recorded_if_kept : (file : List ℕ) (found : KeptFile) → kept file ≡ Ok found → recorded file ≡ Ok found
unfolding kept_file
recorded_if_kept file found is = data_case file (file_data file) found refl is

-- ---- by the header, and then what stands behind it

abbrev pub behind_card : List ℕ → Result KeptRows FormatFault → Result FileData FormatFault
behind_card card read = read >>= λ found. Ok (record { card = card; rows = found.rows; gate = found.gate })

abbrev pub behind_header : List ℕ → Result Header FormatFault → Result FileData FormatFault
behind_header file read = read >>= λ header. behind_card (card_of file) (kept_from file header.gate)

conflict_behind_card : (card : List ℕ) (conflict : Option FormatFault) (found : KeptRows)
    → (conflict >> Ok (record { card = card; rows = found.rows; gate = found.gate })) ≡ behind_card card (conflict >> Ok found)
conflict_behind_card card (Some fault) found = refl
conflict_behind_card card None found = refl

rows_behind_card : (card : List ℕ) (read : Result KeptRows FormatFault) → agreeing (behind_card card read) ≡ behind_card card (read >>= λ found. conflict_in found.rows >> Ok found)
unfolding agreeing
rows_behind_card card (Err fault) = refl
rows_behind_card card (Ok found) = conflict_behind_card card (conflict_in found.rows) found

rows_behind_header : (file : List ℕ) (read : Result Header FormatFault)
    → agreeing (read >>= λ header. behind_card (card_of file) (rows_in (batches_of file header.gate))) ≡ behind_header file read
unfolding agreeing
rows_behind_header file (Err fault) = refl
rows_behind_header file (Ok header) = rows_behind_card (card_of file) (rows_in (batches_of file header.gate))

pub data_behind_header : (file : List ℕ) → file_data file ≡ behind_header file (header_of file)
unfolding agreeing
data_behind_header file = rows_behind_header file (header_of file)
