use Rattle.std.proofs.Common.{length}
use Rattle.command_line.specs.Parts.{part_of}
use Rattle.window_parts.proofs.Found.{members_by}
use Rattle.window_parts.proofs.members.flags_of.Goals as goal

pub returns : goal.returns
returns c =
    let same = members_by (part_of c.args.part.now) c.args.symbols.now c.in_ok-spans.spans.items c.args.pcs.now (length c.args.pcs.now) c.in_ok-spans.ensures in
    let flags = c.flags_by.ensures in
    rw (← same) (rw c.deref.ensures.value at flags)
