-- Laws of the format.
use Rattle.std.specs.Prelude.{◌≡◌, ℕ, ◌+◌, ◌^◌, ◌<◌, List, ◌∷◌, ◌++◌, length, None, Ok}
use Rattle.fs_model.specs.declared.outcomes.Row.{Row}
use Rattle.keep_format.specs.KeepFile.{rows_read, file_data, conflict_in, head_bytes, blocks, placed_batches, AreWritable}

-- A file of a card, open batches whose rows have no conflict, a closed gate and any bytes is read as that card and these
-- rows, with the closed gate there.
abbrev pub ReadAgain : Type 0
ReadAgain =
    (card : List ℕ) (batches : List (List Row)) (gate : ℕ) (rest : List ℕ)
    → length card < 2 ^ 32 → AreWritable batches → conflict_in (placed_batches (13 + length card) batches) ≡ None
    → (gate ≡ 0xA5 → ⊥)
    → file_data (head_bytes card ++ (blocks batches ++ gate ∷ rest))
    ≡ Ok (record { card = card; rows = placed_batches (13 + length card) batches; gate = 13 + length card + length (blocks batches) })

-- The same whether the rows agree or not.
abbrev pub RowsReadAgain : Type 0
RowsReadAgain =
    (card : List ℕ) (batches : List (List Row)) (gate : ℕ) (rest : List ℕ)
    → length card < 2 ^ 32 → AreWritable batches → (gate ≡ 0xA5 → ⊥)
    → rows_read (head_bytes card ++ (blocks batches ++ gate ∷ rest))
    ≡ Ok (record { card = card; rows = placed_batches (13 + length card) batches; gate = 13 + length card + length (blocks batches) })
