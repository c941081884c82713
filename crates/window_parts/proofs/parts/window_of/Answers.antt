use Rattle.std.proofs.Common.{◌<◌, arith, sym, ◌∙◌}
use Rattle.command_line.specs.Parts.{part_of}
use Rattle.window_counts.specs.Windows.{window_len}
use Rattle.window_parts.proofs.Found.{is_part, no_part_is}
use Rattle.window_parts.proofs.parts.window_of.Goals as goal

pub returns-then-len-eq0-clause-refused : goal.returns-then-len-eq0-clause-refused
returns-then-len-eq0-clause-refused c =
    no_part_is (part_of c.args.part.now) c.args.symbols.now c.args.case.now c.args.golden.now c.in-Ok.window c.count.result c.no_part.result c.requires
    c.in-Ok.ensures (sym c.len.ensures ∙ c.if-len-eq0.true) c.count.ensures.value c.no_part.ensures

pub returns-clause-window : goal.returns-clause-window
returns-clause-window c =
    let len = c.len.ensures in
    let some : 0 < window_len c.in-Ok.window = omega (arith, len, c.if-len-eq0.false) in
    is_part (part_of c.args.part.now) c.args.symbols.now c.args.case.now c.in-Ok.window c.in-Ok.ensures some
