-- Why a store has not taken rows.
use Rattle.std.specs.Prelude.{Bool, true, false, Result, Ok, Err}
use Rattle.row_store.specs.declared.stores.StoreRefusal.{StoreRefusal}
use Rattle.row_store.specs.declared.stores.StoreRefusal.TheVariants as refusal

-- the call ended for a fault of the store
abbrev pub is_failed : {T : Type 0} → Result T StoreRefusal → Bool
is_failed (Ok value) = false
is_failed (Err refusal.Failed) = true
is_failed (Err refusal.NoMemory) = false
