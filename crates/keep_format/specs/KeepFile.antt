-- The campaign file: what its bytes keep. Numbers have their lowest byte first.
--
--   0        a gate: 0xA5 is open, any other byte closed
--   1        the name, FAILCMP
--   8        the version, 1
--   9        c, the length of the card, in 4 bytes
--   13       the card, c bytes
--   13 + c   the batches
--
-- A batch begins with a gate. If it is open, a count k of 2 bytes follows it, then k rows of 10 bytes, and then
-- the next batch. At a closed gate the rows end, and whatever follows is not read. A row has a cycle and a cell of 4 bytes
-- each, a bit and an outcome of 1 byte each. Beginning and appending write a gate last, so that a file that was cut short
-- keeps whole batches.
--
-- An outcome is written as its number. Older versions did not tell the kinds of trap apart and wrote 3 for each. Such an old
-- row, with byte 3, has no outcome here, and none is written any more.
use Rattle.std.specs.Prelude.{All, ℕ, zero, suc, ◌+◌, ◌*◌, ◌/◌, ◌%◌, ◌^◌, ◌<◌, ◌==◌, nat_lt, not, ◌&&◌, ◌||◌, Bool}
use Rattle.std.specs.Prelude.{false, if◌then◌else◌, List, [], ◌∷◌, ◌++◌, length, map, take, drop, slice_index, Option}
use Rattle.std.specs.Prelude.{Some, None, Result, Ok, Err}
use Rattle.std.specs.Option.{option_map}
use Rattle.fs_model.specs.declared.instructions.Size.TheVariants.{Half, Word}
use Rattle.fs_model.specs.declared.outcomes.Outcome.{Outcome}
use Rattle.fs_model.specs.declared.outcomes.Row.{Row}
use Rattle.keep_format.specs.declared.header.Header.{Header}
use Rattle.keep_format.specs.declared.raw_rows.RawRow.{RawRow}
use Rattle.keep_format.specs.declared.rows.KeptRow.{KeptRow}
use Rattle.keep_format.specs.declared.fault.FormatFault.{FormatFault}
use Rattle.keep_format.specs.declared.fault.FormatFault.TheVariants.{NotACampaign, Version, Cut, BadRow, Conflict}
use Rattle.fs_model.specs.Card.{four_bytes}
use Rattle.fs_model.specs.Memory.{number_at}
use Rattle.fs_model.specs.Outcome.{number_of, outcome_of}
use Rattle.fs_model.specs.Steps.{◌>>=◌, ◌>>◌}

-- ---- the header

-- an open gate and the name
abbrev pub is_campaign : List ℕ → Bool
is_campaign (gate ∷ a ∷ b ∷ c ∷ d ∷ e ∷ f ∷ g ∷ rest) =
    (gate == 0xA5) && ((a == 0x46) && ((b == 0x41) && ((c == 0x49) && ((d == 0x4C) && ((e == 0x43) && ((f == 0x4D) && (g == 0x50)))))))
is_campaign rest = false

abbrev pub card_len : List ℕ → ℕ
card_len file = number_at Word file 9

abbrev pub card_of : List ℕ → List ℕ
card_of file = take (card_len file) (drop 13 file)

-- the place of the first gate
abbrev pub first_gate : List ℕ → ℕ
first_gate file = 13 + card_len file

-- the header of a file of `len` bytes that begins with these, or its first fault; the first gate has to be there
abbrev pub header_in : List ℕ → ℕ → Result Header FormatFault
header_in front len =
    if not (is_campaign front) then Err NotACampaign
    else if nat_lt 8 len && not (slice_index front 8 == 1) then Err Version
    else if nat_lt 12 len && nat_lt (first_gate front) len
    then Ok (record { card_start = 13; card_len = card_len front; gate = first_gate front })
    else Err Cut

-- the header of a whole file, or its first fault
abbrev pub header_of : List ℕ → Result Header FormatFault
header_of file = header_in file (length file)

-- ---- the batches

-- ten bytes as a row, with the offset of the first
abbrev pub raw_row : ℕ → List ℕ → RawRow
raw_row at bytes = record {
  at = at;
  cycle = number_at Word bytes 0;
  cell = number_at Word bytes 4;
  bit = slice_index bytes 8;
  code = slice_index bytes 9;
}

-- `count` rows from a place on
abbrev pub rows_from : ℕ → ℕ → List ℕ → List RawRow
rows_from zero at bytes = []
rows_from (suc count) at bytes = raw_row at (take 10 bytes) ∷ rows_from count (at + 10) (drop 10 bytes)

-- rows, and the place of the closed gate after them
pub record Batches : Type 0 where
  pub rows : List RawRow
  pub gate : ℕ

abbrev pub onto : List RawRow → Option Batches → Option Batches
onto rows None = None
onto rows (Some rest) = Some (record { rows = rows ++ rest.rows; gate = rest.gate })

abbrev pub batch_count : List ℕ → ℕ
batch_count bytes = number_at Half bytes 0

-- the batches from a place on, if the first gate is `skip` bytes after it; none if the file ends before the
-- closed gate
abbrev pub batches_from : ℕ → ℕ → List ℕ → Option Batches
batches_from at skip [] = None
batches_from at (suc skip) (byte ∷ bytes) = batches_from (at + 1) skip bytes
batches_from at zero (gate ∷ bytes) =
    if gate == 0xA5
    then onto (rows_from (batch_count bytes) (at + 3) (drop 2 bytes)) (batches_from (at + 1) (2 + 10 * batch_count bytes) bytes)
    else Some (record { rows = []; gate = at })

-- the batches of a file whose first gate is there
abbrev pub batches_of : List ℕ → ℕ → Option Batches
batches_of file gate = batches_from gate 0 (drop gate file)

-- ---- the rows

-- a row's last byte: the number of its outcome, or 3 if it is an old row
abbrev pub byte_of : Option Outcome → ℕ
byte_of None = 3
byte_of (Some outcome) = number_of outcome

-- a row by its numbers; it has an outcome if its last byte is the number of one
abbrev pub kept_row : RawRow → KeptRow
kept_row raw = record { at = raw.at; cycle = raw.cycle; cell = raw.cell; bit = raw.bit; outcome = outcome_of raw.code }

-- the place of the first row whose last byte means nothing
abbrev pub bad_in : List RawRow → Option ℕ
bad_in [] = None
bad_in (raw ∷ rows) = if nat_lt 7 raw.code then Some raw.at else bad_in rows

-- whether the byte is that of a trap: an illegal instruction, an access fault, or a misaligned address
abbrev pub is_trap : ℕ → Bool
is_trap byte = (byte == 5) || ((byte == 6) || (byte == 7))

-- two last bytes agree if they are equal, or if one is an old row's and the other a trap's
abbrev pub agree : ℕ → ℕ → Bool
agree a b = (a == b) || (((a == 3) && is_trap b) || ((b == 3) && is_trap a))

-- two rows have one name: the same cycle, cell and bit
abbrev pub same_name : KeptRow → KeptRow → Bool
same_name a b = (a.cycle == b.cycle) && ((a.cell == b.cell) && (a.bit == b.bit))

-- two rows of one name whose bytes do not agree
abbrev pub disagree : KeptRow → KeptRow → Bool
disagree a b = same_name a b && not (agree (byte_of a.outcome) (byte_of b.outcome))

-- the place of the first of these rows that disagrees with a row
abbrev pub apart : List KeptRow → KeptRow → Option ℕ
apart [] row = None
apart (r ∷ rows) row = if disagree r row then Some r.at else apart rows row

-- a row, if the first row that disagrees with it is there, or what comes after it
abbrev pub conflict_at : Option ℕ → ℕ → Option FormatFault → Option FormatFault
conflict_at None second rest = rest
conflict_at (Some first) second rest = Some (Conflict first second)

-- the first row that disagrees with an earlier one, after the rows `before`
abbrev pub conflict_behind : List KeptRow → List KeptRow → Option FormatFault
conflict_behind before [] = None
conflict_behind before (row ∷ rows) = conflict_at (apart before row) row.at (conflict_behind (before ++ row ∷ []) rows)

abbrev pub conflict_in : List KeptRow → Option FormatFault
conflict_in rows = conflict_behind [] rows

-- ---- the rows after the header

-- rows with their places, and the place of the closed gate after them
pub record KeptRows : Type 0 where
  pub rows : List KeptRow
  pub gate : ℕ

-- the rows of batches, whether they agree or not, or the first fault: the batches are whole, and then each last byte means
-- something
abbrev pub rows_in : Option Batches → Result KeptRows FormatFault
rows_in None = Err Cut
rows_in (Some whole) = do
  option_map BadRow (bad_in whole.rows)
  Ok (record { rows = map kept_row whole.rows; gate = whole.gate })

-- the rows after the first gate, which agree, or the first fault there
abbrev pub kept_from : List ℕ → ℕ → Result KeptRows FormatFault
kept_from file gate = do
  found ← rows_in (batches_of file gate)
  conflict_in found.rows
  Ok found

-- ---- the whole file

-- a card, rows with their places, and the place of the closed gate
pub record FileData : Type 0 where
  pub card : List ℕ
  pub rows : List KeptRow
  pub gate : ℕ

-- what a file holds, whether its rows agree or not, or the first fault: of the header, and then of the rows
abbrev pub rows_read : List ℕ → Result FileData FormatFault
rows_read file = do
  header ← header_of file
  found ← rows_in (batches_of file header.gate)
  Ok (record { card = card_of file; rows = found.rows; gate = found.gate })

-- the same if its rows agree, or its first fault: a conflict comes last
abbrev pub file_data : List ℕ → Result FileData FormatFault
file_data file = do
  found ← rows_read file
  conflict_in found.rows
  Ok found

-- a row, wherever it is
pub record FileRow : Type 0 where
  pub cycle : ℕ
  pub cell : ℕ
  pub bit : ℕ
  pub outcome : Option Outcome

abbrev pub file_row_of : KeptRow → FileRow
file_row_of kept = record { cycle = kept.cycle; cell = kept.cell; bit = kept.bit; outcome = kept.outcome }

-- a row that is written, which has an outcome
abbrev pub written : Row → FileRow
written row = record { cycle = row.cycle; cell = row.cell; bit = row.bit; outcome = Some row.outcome }

-- a card, and the rows that are kept for it
pub record KeptFile : Type 0 where
  pub card : List ℕ
  pub rows : List FileRow

abbrev pub without_places : FileData → KeptFile
without_places found = record { card = found.card; rows = map file_row_of found.rows }

-- what a file records, whether its rows agree or not, or the first fault before a conflict
abbrev pub recorded : List ℕ → Result KeptFile FormatFault
recorded file = do
  found ← rows_read file
  Ok (without_places found)

-- what a file keeps, or its first fault
abbrev pub kept : List ℕ → Result KeptFile FormatFault
kept file = do
  found ← file_data file
  Ok (without_places found)

-- the same with some rows more, which have outcomes
abbrev pub added_rows : Result KeptFile FormatFault → List Row → Result KeptFile FormatFault
added_rows (Err fault) rows = Err fault
added_rows (Ok file) rows = Ok (record { card = file.card; rows = file.rows ++ map written rows })

-- what a file records, and what it keeps
pub record Held : Type 0 where
  pub recorded : Result KeptFile FormatFault
  pub kept : Result KeptFile FormatFault

abbrev pub rows_held : List ℕ → Held
rows_held file = record { recorded = recorded file; kept = kept file }

-- a file whose rows agree
abbrev pub agreed : KeptFile → Held
agreed file = record { recorded = Ok file; kept = Ok file }

-- ---- what is written

-- a number of two bytes
abbrev pub two_bytes : ℕ → List ℕ
two_bytes n = n / 2 ^ 0 % 256 ∷ n / 2 ^ 8 % 256 ∷ []

-- bytes 0 to the end of the card
abbrev pub head_bytes : List ℕ → List ℕ
head_bytes card =
    0xA5 ∷ 0x46 ∷ 0x41 ∷ 0x49 ∷ 0x4C ∷ 0x43 ∷ 0x4D ∷ 0x50 ∷ 1 ∷ (four_bytes (length card) ++ card)

abbrev pub row_bytes : Row → List ℕ
row_bytes row = four_bytes row.cycle ++ (four_bytes row.cell ++ row.bit ∷ number_of row.outcome ∷ [])

abbrev pub rows_bytes : List Row → List ℕ
rows_bytes [] = []
rows_bytes (row ∷ rows) = row_bytes row ++ rows_bytes rows

-- what follows the gate of a batch of these rows
abbrev pub batch_bytes : List Row → List ℕ
batch_bytes rows = two_bytes (length rows) ++ rows_bytes rows

-- a row's numbers have room in the file
pub record IsWritable (row : Row) : Type 0 where
  pub cycle : row.cycle < 2 ^ 32
  pub cell : row.cell < 2 ^ 32

-- these rows, as they are from a place on
abbrev pub placed : ℕ → List Row → List KeptRow
placed at [] = []
placed at (row ∷ rows) =
    record { at = at; cycle = row.cycle; cell = row.cell; bit = row.bit; outcome = Some row.outcome } ∷ placed (at + 10) rows

-- open batches, one after the other
abbrev pub blocks : List (List Row) → List ℕ
blocks [] = []
blocks (batch ∷ batches) = 0xA5 ∷ (batch_bytes batch ++ blocks batches)

-- their rows, as they are from a place on
abbrev pub placed_batches : ℕ → List (List Row) → List KeptRow
placed_batches at [] = []
placed_batches at (batch ∷ batches) = placed (at + 3) batch ++ placed_batches (at + 3 + 10 * length batch) batches

-- each batch can be written
abbrev pub AreWritable : List (List Row) → Type 0
AreWritable [] = Unit {0}
AreWritable (batch ∷ batches) = (length batch < 2 ^ 16) × All IsWritable batch × AreWritable batches
