-- Parts of a run as they are written on the command line.
use Rattle.std.specs.Prelude.{ℕ, ◌==◌, ◌||◌, Bool, List, [], ◌∷◌, codes, length, Option, Some, None, if◌then◌else◌, is_some, nat_lt}
use Rattle.std.specs.Prelude.{option_and_then, option_map}
use Rattle.std.specs.List.{before_first, after_first, position_or_len}
use Rattle.command_line.specs.Commands.{Text}
use Rattle.command_line.specs.Number.{number, within}
use Rattle.command_line.specs.Said.{Texts, text_in}
use Rattle.command_line.specs.declared.parts.Range.{Range}
use Rattle.command_line.specs.declared.parts.RunPart.{RunPart}

abbrev pub is_dot : ℕ → Bool
is_dot byte = byte == 46

-- what follows a first full stop
abbrev pub after_dot : List ℕ → Option (List ℕ)
after_dot [] = None
after_dot (byte ∷ rest) = if byte == 46 then Some rest else None

-- a number from 0 to 2 to the power of 32
abbrev pub bound : List ℕ → Option ℕ
bound text = within 0 0x1_0000_0000 (number text)

-- the numbers from start on and before end, if there are any
abbrev pub some_range : ℕ → ℕ → Option Range
some_range start end = if nat_lt start end then Some (record { start = start; end = end }) else None

-- START..END, cut at the first full stop; a number has no full stop, so there is no other place
abbrev pub range : List ℕ → Option Range
range text =
    if nat_lt (position_or_len is_dot text) (length text) then
    option_and_then (λ rest.
    option_and_then (λ end.
    option_and_then (λ start. some_range start end)
    (bound (before_first is_dot text)))
    (bound rest))
    (after_dot (after_first is_dot text))
    else None

-- the same, where an option that is missing has no range
abbrev pub range_or_none : Option Text → Option (Option Range)
range_or_none None = Some None
range_or_none (Some text) = option_map (λ r. Some r) (range text)

-- The instructions of a run that fulfil each condition that is given: their numbers are in a range, their addresses are in one, and
-- they belong to a function with a name.
pub record PartData : Type 0 where
  pub cycles : Option Range
  pub code : Option Range
  pub function : Option Text

abbrev pub part_of : RunPart → PartData
part_of part = record { cycles = part.cycles; code = part.code; function = text_in part.function }

-- at least one condition is given
abbrev pub some_part : PartData → Option PartData
some_part part = if is_some part.cycles || is_some part.code || is_some part.function then Some part else None

abbrev pub part_said : Texts → Option PartData
part_said given =
    option_and_then (λ cycles.
    option_and_then (λ code. some_part (record { cycles = cycles; code = code; function = given (codes "function") }))
    (range_or_none (given (codes "code"))))
    (range_or_none (given (codes "cycles")))
