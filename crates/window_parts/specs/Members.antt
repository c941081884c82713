-- Which instructions are in a part of a run, and why none is.
use Rattle.std.specs.Prelude.{ℕ, ◌+◌, ◌&&◌, not, nat_le, nat_lt, Bool, true, if◌then◌else◌, List, map, length, slice_index, Option, Some, None}
use Rattle.std.specs.List.{list_any, range_with_len}
use Rattle.std.specs.Str.{bytes_eq}
use Rattle.fs_model.specs.Case.{CaseData}
use Rattle.fs_model.specs.Run.{after, cycles}
use Rattle.elf_symbols.specs.declared.tables.Symbol.{Symbol}
use Rattle.command_line.specs.Commands.{Text}
use Rattle.command_line.specs.Parts.{PartData}
use Rattle.command_line.specs.declared.parts.Range.{Range}
use Rattle.window_parts.specs.declared.parts.NoPart.{NoPart}
use Rattle.window_parts.specs.declared.parts.NoPart.TheVariants.{NoFunctions, NoFunction, BeyondRun, NotExecuted}

-- ---- conditions; one that is not given holds

-- a number is in the range
abbrev pub in_range : Option Range → ℕ → Bool
in_range None n = true
in_range (Some range) n = nat_le range.start n && nat_lt n range.end

-- the symbol is a function with this name
abbrev pub is_named : Text → Symbol → Bool
is_named name symbol = symbol.is_function && bytes_eq symbol.name name

-- and the address is in it
abbrev pub is_inside : Text → ℕ → Symbol → Bool
is_inside name at symbol = is_named name symbol && (nat_le symbol.value at && nat_lt at (symbol.value + symbol.size))

-- the address is in a function with the name
abbrev pub in_function : Option Text → List Symbol → ℕ → Bool
in_function None symbols at = true
in_function (Some name) symbols at = list_any (is_inside name at) symbols

-- An instruction is in the part exactly where its number is in the range of `--cycles`, its address is in that of `--code`, and its
-- address is in a function with the name that `--function` gives.
unfoldable pub is_member : PartData → List Symbol → ℕ → ℕ → Bool
is_member part symbols cycle at = in_range part.cycles cycle && (in_range part.code at && in_function part.function symbols at)

-- ---- windows

-- the instructions with these addresses that are in the part
abbrev pub members : PartData → List Symbol → List ℕ → List Bool
members part symbols pcs = map (λ t. is_member part symbols t (slice_index pcs t)) (range_with_len 0 (length pcs))

-- those of the golden run of a case
unfoldable pub part_window : PartData → List Symbol → CaseData → List Bool
part_window part symbols c = map (λ t. is_member part symbols t (after c t).core.pc) (range_with_len 0 (cycles c))

-- ---- why there are none

-- no function has the name that is given
abbrev pub lacks_function : Option Text → List Symbol → Bool
lacks_function None symbols = not true
lacks_function (Some name) symbols = not (list_any (is_named name) symbols)

-- the range begins after the last of n cycles
abbrev pub is_beyond : Option Range → ℕ → Bool
is_beyond None n = not true
is_beyond (Some range) n = nat_le n range.start

-- the first of these reasons that there is, of a run of n instructions
abbrev pub no_part : PartData → List Symbol → ℕ → NoPart
no_part part symbols n =
    if lacks_function part.function symbols
    then (if list_any (λ symbol. symbol.is_function) symbols then NoFunction else NoFunctions)
    else (if is_beyond part.cycles n then BeyondRun n else NotExecuted)
