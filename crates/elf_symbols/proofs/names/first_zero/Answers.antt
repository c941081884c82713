use Rattle.std.proofs.Common.{◌≡◌, true, length, get_or, sym, eq-eqb, arith}
use Rattle.std.proofs.lemmas.List.Sums.{position_or_len_is}
use Rattle.elf_symbols.specs.Names.{is_zero}
use Rattle.elf_symbols.proofs.names.first_zero.Goals as goal

pub returns-then-byte-eq0-clause-first : goal.returns-then-byte-eq0-clause-first
returns-then-byte-eq0-clause-first c =
    let here : is_zero (get_or c.args.bytes.now c.loop-place.place 0) ≡ true = eq-eqb (get_or c.args.bytes.now c.loop-place.place 0) 0 c.if-byte-eq0.true in
    sym (position_or_len_is is_zero c.args.bytes.now c.loop-place.place 0 (omega arith) c.loop-place.invariant (λ lt. here))

pub returns-clause-first : goal.returns-clause-first
returns-clause-first c = sym (position_or_len_is is_zero c.args.bytes.now (length c.args.bytes.now) 0 (omega arith) (λ k h. c.loop-place.invariant k (omega arith)) (λ lt. absurd (omega arith)))
