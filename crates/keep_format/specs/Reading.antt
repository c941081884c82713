-- What the calls that read give, in the grammar's words.
use Rattle.std.specs.Prelude.{◌≡◌, ◌+◌, ◌*◌, ◌≤◌, ℕ, List, length, drop, Option, Some, None, Result, Err}
use Rattle.keep_format.specs.declared.fault.FormatFault.{FormatFault}
use Rattle.keep_format.specs.KeepFile.{Batches, batches_from, onto, rows_from}
use Rattle.keep_format.specs.declared.batches.FormatRefusal.{FormatRefusal}
use Rattle.keep_format.specs.declared.batches.FormatRefusal.TheVariants.{Fault, NoMemory}

-- this fault is the file's, or memory was short
abbrev pub IsRefusal : {T : Type 0} → Result T FormatFault → FormatRefusal → Type 0
IsRefusal kept (Fault fault) = kept ≡ Err fault
IsRefusal kept NoMemory = Unit {0}

-- the batch at this place has n rows, and the file goes on after them; or it ends before
abbrev pub IsBatch : List ℕ → ℕ → Option ℕ → Type 0
IsBatch file at None = batches_from at 0 (drop at file) ≡ None
IsBatch file at (Some count) =
    (at + 3 + 10 * count ≤ length file)
    × (batches_from at 0 (drop at file)
    ≡ onto (rows_from count (at + 3) (drop (at + 3) file)) (batches_from (at + (3 + 10 * count)) 0 (drop (at + (3 + 10 * count)) file)))

abbrev pub gate_of : Option Batches → Option ℕ
gate_of None = None
gate_of (Some found) = Some found.gate
