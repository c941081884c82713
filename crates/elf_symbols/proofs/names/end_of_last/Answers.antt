use Rattle.std.proofs.Common.{◌≡◌, ◌-◌, true, get_or, eq-eqb, arith}
use Rattle.elf_symbols.specs.Names.{is_zero}
use Rattle.elf_symbols.proofs.NameLemmas.{is_end}
use Rattle.elf_symbols.proofs.names.end_of_last.Goals as goal

pub returns-then-bytes-end-eq0 : goal.returns-then-bytes-end-eq0
returns-then-bytes-end-eq0 c =
    let here : is_zero (get_or c.args.bytes.now (c.loop-end.end - 1) 0) ≡ true = eq-eqb (get_or c.args.bytes.now (c.loop-end.end - 1) 0) 0 c.if-bytes-end-eq0.true in
    is_end c.args.bytes.now c.loop-end.end c.loop-end.invariant.inside c.loop-end.invariant.without (λ lt. here)

pub returns : goal.returns
returns c = is_end c.args.bytes.now c.loop-end.end c.loop-end.invariant.inside c.loop-end.invariant.without (λ lt. absurd (omega arith))
