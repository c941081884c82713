-- The text of a part.
use Rattle.std.specs.Prelude.{ℕ, List, decimal}
use Rattle.fs_outside.specs.declared.parts.Part.{Part}
use Rattle.fs_outside.specs.declared.parts.Part.TheVariants as part

abbrev pub part_text : Part → List ℕ
part_text (part.Text s) = s.now
part_text (part.Number n) = decimal n
