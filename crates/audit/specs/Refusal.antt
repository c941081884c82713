-- Why an audit was not written.
use Rattle.std.specs.Prelude.{Bool, true, false, Result, Ok, Err}
use Rattle.audit.specs.declared.refusal.AuditRefusal.{AuditRefusal}
use Rattle.audit.specs.declared.refusal.AuditRefusal.TheVariants as refusal

-- the call ended for a fault of the sink
abbrev pub is_failed : {T : Type 0} → Result T AuditRefusal → Bool
is_failed (Ok value) = false
is_failed (Err refusal.Failed) = true
is_failed (Err refusal.NoMemory) = false
