-- What is kept of the rows of a name.
use Rattle.std.specs.Prelude.{ℕ, ◌==◌, ◌||◌, if◌then◌else◌, Option, Some, None, is_some}
use Rattle.keep_format.specs.declared.agreement.Mark.{Mark}
use Rattle.keep_format.specs.declared.agreement.Marks.{Marks}
use Rattle.keep_format.specs.KeepFile.{agree}

abbrev pub apart_mark : Option Mark → ℕ → Option ℕ
apart_mark None byte = None
apart_mark (Some mark) byte = if agree mark.byte byte then None else Some mark.at

-- the place of the first mark that disagrees with a byte
abbrev pub apart_in : Option Marks → ℕ → Option ℕ
apart_in None byte = None
apart_in (Some marks) byte = if agree marks.first.byte byte then apart_mark marks.other byte else Some marks.first.at

-- with a row more, which agrees with those before
abbrev pub marked : Option Marks → Mark → Marks
marked None row = record { first = row; other = None }
marked (Some marks) row =
    if (marks.first.byte == row.byte) || is_some marks.other then marks else record { first = marks.first; other = Some row }
