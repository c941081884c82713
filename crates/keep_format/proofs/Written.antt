-- What was written is read again.
use Rattle.std.proofs.Common.{All, ◌≡◌, ℕ, ◌+◌, ◌*◌, ◌/◌, ◌^◌, ◌<◌, Bool, true, false, not, ◌==◌, nat_lt, if◌then◌else◌, List, [], ◌∷◌, ◌++◌, map, length, take, drop, Option, Some, None, refl, sym, ◌∙◌, ap, arith, append_assoc, length-append}
use Rattle.std.proofs.lemmas.List.{drop_at}
use Rattle.std.proofs.lemmas.List.Elements.{All-head, All-tail}
use Rattle.fs_model.specs.declared.instructions.Size.TheVariants.{Half, Word}
use Rattle.fs_model.specs.declared.outcomes.Outcome.{Outcome}
use Rattle.fs_model.specs.declared.outcomes.Row.{Row}
use Rattle.keep_format.specs.declared.raw_rows.RawRow.{RawRow}
use Rattle.keep_format.specs.declared.rows.KeptRow.{KeptRow}
use Rattle.fs_model.specs.Card.{four_bytes}
use Rattle.fs_model.specs.Memory.{number_at}
use Rattle.fs_model.specs.Outcome.{number_of, outcome_of}
use Rattle.fs_model.proofs.EachOutcome.{outcome_of-number_of, each_passes}
use Rattle.keep_format.specs.KeepFile.{Batches, onto, raw_row, rows_from, batch_count, batches_from, bad_in, byte_of, kept_row, two_bytes, row_bytes, rows_bytes, batch_bytes, placed, IsWritable, blocks, placed_batches, AreWritable}
use Rattle.keep_format.proofs.Walks.{walk_skip, walk_open, walk_closed}

-- ---- numbers

digits : (n : ℕ) → n / 65536 ≡ n / 256 / 256
digits n = omega arith

pub four_read : (n : ℕ) (rest : List ℕ) → n < 2 ^ 32 → number_at Word (four_bytes n ++ rest) 0 ≡ n
four_read n rest fits = omega arith

pub two_read : (n : ℕ) (rest : List ℕ) → n < 2 ^ 16 → number_at Half (two_bytes n ++ rest) 0 ≡ n
two_read n rest fits = omega arith

-- ---- rows

-- the numbers of a row that stands at a place
pub raw_of : KeptRow → RawRow
raw_of row = record { at = row.at; cycle = row.cycle; cell = row.cell; bit = row.bit; code = byte_of row.outcome }

row_read : (at : ℕ) (row : Row) (rest : List ℕ) → IsWritable row
    → raw_row at (take 10 (row_bytes row ++ rest)) ≡ record { at = at; cycle = row.cycle; cell = row.cell; bit = row.bit; code = number_of row.outcome }
row_read at row rest fits =
    let a : number_at Word (four_bytes row.cycle ++ (four_bytes row.cell ++ row.bit ∷ number_of row.outcome ∷ [])) 0 ≡ row.cycle = four_read row.cycle (four_bytes row.cell ++ row.bit ∷ number_of row.outcome ∷ []) fits.cycle in
    let b : number_at Word (four_bytes row.cell ++ (row.bit ∷ number_of row.outcome ∷ [])) 0 ≡ row.cell = four_read row.cell (row.bit ∷ number_of row.outcome ∷ []) fits.cell in
    ap (λ (n : ℕ). let r : RawRow = record { at = at; cycle = n; cell = number_at Word (four_bytes row.cell ++ (row.bit ∷ number_of row.outcome ∷ [])) 0; bit = row.bit; code = number_of row.outcome } in r) a
    ∙ ap (λ (n : ℕ). let r : RawRow = record { at = at; cycle = row.cycle; cell = n; bit = row.bit; code = number_of row.outcome } in r) b

pub rows_read : (rows : List Row) (at : ℕ) (rest : List ℕ) → All IsWritable rows → rows_from (length rows) at (rows_bytes rows ++ rest) ≡ map raw_of (placed at rows)
unfolding raw_of
rows_read [] at rest fit = refl
rows_read (row ∷ rows) at rest fit =
    let first = row_read at row (rows_bytes rows ++ rest) (All-head IsWritable row rows fit) in
    let others = rows_read rows (at + 10) rest (All-tail IsWritable row rows fit) in
    ap (λ (r : RawRow). r ∷ rows_from (length rows) (at + 10) (rows_bytes rows ++ rest)) first
    ∙ ap (λ (l : List RawRow). record { at = at; cycle = row.cycle; cell = row.cell; bit = row.bit; code = number_of row.outcome } ∷ l) others

pub length-rows_bytes : (rows : List Row) → length (rows_bytes rows) ≡ 10 * length rows
length-rows_bytes [] = refl
length-rows_bytes (row ∷ rows) = let h = length-rows_bytes rows in omega arith

pub length-batch_bytes : (rows : List Row) → length (batch_bytes rows) ≡ 2 + 10 * length rows
length-batch_bytes rows = let h = length-rows_bytes rows in omega arith

-- ---- outcomes

byte_read : (outcome : Option Outcome) → outcome_of (byte_of outcome) ≡ outcome
byte_read None = refl
byte_read (Some outcome) = outcome_of-number_of outcome

not_true : (t : Bool) → not t ≡ true → t ≡ false
not_true true is = absurd (cc)
not_true false is = refl

-- each means something
byte_low : (outcome : Option Outcome) → nat_lt 7 (byte_of outcome) ≡ false
byte_low None = refl
byte_low (Some outcome) = not_true (nat_lt 7 (number_of outcome)) (each_passes (λ o. not (nat_lt 7 (number_of o))) refl outcome)

pub outcomes_read : (rows : List KeptRow) → map kept_row (map raw_of rows) ≡ rows
unfolding raw_of
outcomes_read [] = refl
outcomes_read (row ∷ rows) =
    ap (λ (o : Option Outcome). let r : KeptRow = record { at = row.at; cycle = row.cycle; cell = row.cell; bit = row.bit; outcome = o } in r ∷ map kept_row (map raw_of rows)) (byte_read row.outcome)
    ∙ ap (λ (l : List KeptRow). row ∷ l) (outcomes_read rows)

pub none_bad : (rows : List KeptRow) → bad_in (map raw_of rows) ≡ None
unfolding raw_of
none_bad [] = refl
none_bad (row ∷ rows) = ap (λ (t : Bool). if t then Some row.at else bad_in (map raw_of rows)) (byte_low row.outcome) ∙ none_bad rows

-- ---- batches

-- one batch, and what follows it
pub batch_read : (rows : List Row) (at : ℕ) (rest : List ℕ) → length rows < 2 ^ 16 → All IsWritable rows
    → batches_from at 0 (0xA5 ∷ (batch_bytes rows ++ rest)) ≡ onto (map raw_of (placed (at + 3) rows)) (batches_from (at + 3 + 10 * length rows) 0 rest)
batch_read rows at rest few fit =
    let bytes = batch_bytes rows ++ rest in
    let count : batch_count bytes ≡ length rows =
    ap (λ (l : List ℕ). number_at Half l 0) (append_assoc (two_bytes (length rows)) (rows_bytes rows) rest) ∙ two_read (length rows) (rows_bytes rows ++ rest) few in
    let behind : drop 2 bytes ≡ rows_bytes rows ++ rest = refl in
    let next : drop (2 + 10 * length rows) bytes ≡ rest = drop_at (batch_bytes rows) rest (2 + 10 * length rows) (length-batch_bytes rows) in
    let place : at + 1 + (2 + 10 * length rows) ≡ at + 3 + 10 * length rows = omega arith in
    walk_open 0xA5 at bytes refl
    ∙ ap (λ k. onto (rows_from k (at + 3) (drop 2 bytes)) (batches_from (at + 1) (2 + 10 * k) bytes)) count
    ∙ ap (λ (r : List RawRow). onto r (batches_from (at + 1) (2 + 10 * length rows) bytes)) (rows_read rows (at + 3) rest fit)
    ∙ ap (onto (map raw_of (placed (at + 3) rows))) (walk_skip (at + 1) (2 + 10 * length rows) bytes ∙ ap (λ (l : List ℕ). batches_from (at + 1 + (2 + 10 * length rows)) 0 l) next ∙ ap (λ p. batches_from p 0 rest) place)

map-append : (a b : List KeptRow) → map raw_of (a ++ b) ≡ map raw_of a ++ map raw_of b
map-append [] b = refl
map-append (x ∷ a) b = ap (λ (l : List RawRow). raw_of x ∷ l) (map-append a b)

-- any batches with a closed gate behind them, whatever follows
pub batches_read : (batches : List (List Row)) (at gate : ℕ) (rest : List ℕ) → AreWritable batches → (gate == 0xA5) ≡ false
    → batches_from at 0 (blocks batches ++ gate ∷ rest) ≡ Some (record { rows = map raw_of (placed_batches at batches); gate = at + length (blocks batches) })
batches_read [] at gate rest fit shut = walk_closed gate at rest shut ∙ ap (λ p. let b : Batches = record { rows = []; gate = p } in Some b) (let e : at ≡ at + 0 = omega arith in e)
batches_read (batch ∷ batches) at gate rest fit shut =
    let others = batches_read batches (at + 3 + 10 * length batch) gate rest fit.2 shut in
    let place : at + 3 + 10 * length batch + length (blocks batches) ≡ at + length (0xA5 ∷ (batch_bytes batch ++ blocks batches)) =
    omega (arith, length-append (batch_bytes batch) (blocks batches), length-batch_bytes batch) in
    ap (λ (l : List ℕ). batches_from at 0 (0xA5 ∷ l)) (append_assoc (batch_bytes batch) (blocks batches) (gate ∷ rest))
    ∙ batch_read batch at (blocks batches ++ gate ∷ rest) fit.0 fit.1
    ∙ ap (onto (map raw_of (placed (at + 3) batch))) others
    ∙ ap (λ (r : List RawRow). let b : Batches = record { rows = r; gate = at + 3 + 10 * length batch + length (blocks batches) } in Some b) (sym (map-append (placed (at + 3) batch) (placed_batches (at + 3 + 10 * length batch) batches)))
    ∙ ap (λ p. let b : Batches = record { rows = map raw_of (placed_batches at (batch ∷ batches)); gate = p } in Some b) place
