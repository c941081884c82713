use Rattle.std.proofs.Common.{◌≡◌, map}
use Rattle.std.specs.Prelude.{slice_index}
use Rattle.std.specs.List.{range_with_len}
use Rattle.command_line.specs.Parts.{part_of}
use Rattle.window_parts.specs.Spans.{is_member_by}
use Rattle.window_parts.proofs.members.flags_by.Given as goal

abbrev pub invariant-loop-cycle : goal.invariant-loop-cycle
invariant-loop-cycle l = l.flags.items ≡ map (λ t. is_member_by (part_of l.part) l.spans t (slice_index l.pcs t)) (range_with_len 0 l.cycle)
