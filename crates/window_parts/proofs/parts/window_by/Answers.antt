use Rattle.std.proofs.Common.{length, Bool, List, ap, arith, ◌∙◌}
use Rattle.command_line.specs.Parts.{part_of}
use Rattle.window_parts.proofs.Found.{members_length, window_is}
use Rattle.window_parts.proofs.parts.window_by.Goals as goal

pub new-requires : goal.new-requires
new-requires c =
    let all = ap (λ (l : List Bool). length l) (c.deref.ensures.value ∙ c.in_ok-flags.ensures) ∙ members_length (part_of c.args.part.now) c.args.symbols.now c.pcs.result.now in
    let pcs = ap length c.pcs.ensures in
    let few = c.count-count.ensures.few in
    let value = c.count-count.ensures.value in
    let each = c.requires.as_many in
    omega arith

pub returns : goal.returns
returns c =
    let same = window_is (part_of c.args.part.now) c.args.symbols.now c.args.case.now c.args.golden.now c.requires in
    let flags = c.deref.ensures.value ∙ c.in_ok-flags.ensures in
    let window = c.new.ensures in
    rw (← same, ← c.pcs.ensures) (rw flags at window)
