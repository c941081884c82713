-- Why answers were not written.
use Rattle.std.specs.Prelude.{Bool, true, false, Result, Ok, Err}
use Rattle.answer_pages.specs.declared.refusal.AnswersRefusal.{AnswersRefusal}
use Rattle.answer_pages.specs.declared.refusal.AnswersRefusal.TheVariants as refusal

-- the call ended for a fault of the sink
abbrev pub is_failed : {T : Type 0} → Result T AnswersRefusal → Bool
is_failed (Ok value) = false
is_failed (Err refusal.Failed) = true
is_failed (Err refusal.NoMemory) = false
