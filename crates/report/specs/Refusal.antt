-- Why a report was not written.
use Rattle.std.specs.Prelude.{Bool, true, false, Result, Ok, Err}
use Rattle.report.specs.declared.refusal.ReportRefusal.{ReportRefusal}
use Rattle.report.specs.declared.refusal.ReportRefusal.TheVariants as refusal

-- the call ended for a fault of the sink
abbrev pub is_failed : {T : Type 0} → Result T ReportRefusal → Bool
is_failed (Ok value) = false
is_failed (Err refusal.Failed) = true
is_failed (Err refusal.NoMemory) = false
