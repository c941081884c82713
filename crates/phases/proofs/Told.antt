-- Texts that were written, whole or in part.
use Rattle.std.proofs.Common.{ℕ, List, [], Result, Ok, Err, sym, append-nil}
use Rattle.fs_outside.specs.Writing.{TookPart, Writes}

pub took_part : {T E : Type 0} (old new text : List ℕ) (result : Result T E) → Writes old new text result → TookPart old new text
took_part old new text (Ok value) whole = record { taken = text; left = []; text_is = sym (append-nil text); bytes = whole }
took_part old new text (Err error) part = part
