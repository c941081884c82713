-- The addresses of functions.
use Rattle.std.specs.Prelude.{ℕ, ◌≡◌, ◌+◌, ◌&&◌, nat_le, nat_lt, Bool, true, List, filter, map, IfSome, Option, Some, None}
use Rattle.std.specs.List.{list_any}
use Rattle.command_line.specs.Parts.{PartData}
use Rattle.elf_symbols.specs.declared.tables.Symbol.{Symbol}
use Rattle.window_parts.specs.Members.{in_range, is_named}
use Rattle.window_parts.specs.declared.functions.Span.{Span}

abbrev pub span_of : Symbol → Span
span_of symbol = record { first = symbol.value; size = symbol.size }

abbrev pub has_address : ℕ → Span → Bool
has_address at span = nat_le span.first at && nat_lt at (span.first + span.size)

-- the address is in one of the spans of the function, if one is named
abbrev pub in_spans : Option (List ℕ) → List Span → ℕ → Bool
in_spans None spans at = true
in_spans (Some name) spans at = list_any (has_address at) spans

-- an instruction is in the part, by the spans of its function
abbrev pub is_member_by : PartData → List Span → ℕ → ℕ → Bool
is_member_by part spans cycle at = in_range part.cycles cycle && (in_range part.code at && in_spans part.function spans at)

-- these are the spans of the functions with the name that is given
abbrev pub AreSpans : PartData → List Symbol → List Span → Type 0
AreSpans part symbols spans = IfSome part.function (λ name. spans ≡ map span_of (filter (is_named name) symbols))
