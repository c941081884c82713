-- The order of names.
use Rattle.std.specs.Prelude.{◌==◌, nat_lt, Bool, true, if◌then◌else◌, Option, Some, None}
use Rattle.keep_format.specs.declared.order.Name.{Name}

abbrev pub is_before : Name → Name → Bool
is_before a b = if a.cycle == b.cycle then (if a.cell == b.cell then nat_lt a.bit b.bit else nat_lt a.cell b.cell) else nat_lt a.cycle b.cycle

abbrev pub is_behind : Option Name → Name → Bool
is_behind None name = true
is_behind (Some last) name = is_before last name
