use Rattle.std.proofs.Common.{◌≡◌, filter, map, take}
use Rattle.window_parts.specs.Members.{is_named}
use Rattle.window_parts.specs.Spans.{span_of}
use Rattle.window_parts.proofs.functions.spans_of.Given as goal

abbrev pub invariant-loop-symbol : goal.invariant-loop-symbol
invariant-loop-symbol l = l.spans.items ≡ map span_of (filter (is_named l.name) (take l.symbol-index l.symbols))
